use Rattle.std.proofs.Common.{◌≡◌, sym, ap, ◌∙◌}
use Rattle.std.specs.FinMap as map
use Rattle.std.proofs.lemmas.Bool.{false≢true, eq-eqb}
use Rattle.cell_table.proofs.Same.{same_site-Decides}
use Rattle.dense_tables.specs.Channels.{states_of, channel_at}
use Rattle.dense_tables.proofs.Stated.{states_told}
use Rattle.dense_tables.proofs.channels.ChannelStates.is_same.Goals.{then-eq, else-eq}
use Rattle.dense_tables.proofs.channels.ChannelStates.is_same.Goals as goal

pub returns-then-self-other : goal.returns-then-self-other
returns-then-self-other g c =
    let one = c.self.inside in
    let other = c.other.inside in
    let site : one.site.value ≡ other.site.value = elim c.if-eq.branch [
      | then-eq w ↦ (same_site-Decides one.site.value other.site.value).0 (sym c.eq.ensures ∙ w.if-eq.true)
      | else-eq w ↦ absurd (false≢true (sym w.if-eq.false ∙ sym w.value-is ∙ c.if-self-other.true))
    ] in
    record {
      same = (
        λ same.
            sym c.self.view_is
            ∙ ap (λ m. record { site = one.site.value; states = m })
            (states_told one.site.value c.self.invariant.lies one.states.items other.states.items (λ k less.
            ap (λ t. map.get t.states (channel_at k)) c.self.view_is ∙ c.same_states.ensures.0 same k less
            ∙ sym (ap (λ t. map.get t.states (channel_at k)) c.other.view_is)
            ∙ ap (λ s. map.get (states_of s other.states.items) (channel_at k)) (sym site)))
            ∙ ap (λ s. record { site = s; states = states_of s other.states.items }) site
            ∙ c.other.view_is,
        λ same. c.same_states.ensures.1 (λ k less. ap (λ t. map.get t.states (channel_at k)) same),
      );
    }

pub returns-else-self-other : goal.returns-else-self-other
returns-else-self-other g c =
    let one = c.self.inside in
    let other = c.other.inside in
    record {
      same = (
        λ yes. absurd (false≢true (sym c.if-self-other.false ∙ yes)),
        λ same.
            let equal = c.self.view_is ∙ same ∙ sym c.other.view_is in
            elim c.if-eq.branch [
              | then-eq w ↦ w.value-is ∙ eq-eqb one.used other.used (c.self.invariant.counted ∙ ap (λ t. map.len t.states) equal ∙ sym c.other.invariant.counted)
              | else-eq w ↦ w.value-is ∙ c.eq.ensures ∙ (same_site-Decides one.site.value other.site.value).1 (ap (λ t. t.site) equal)
            ],
      );
    }
