use Rattle.std.proofs.Common.{is_some, sym, ap, ◌∙◌}
use Rattle.std.specs.FinMap as map
use Rattle.radio_tables.specs.State.{with_kept}
use Rattle.radio_tables.proofs.DenseFacts.{state_in, kept_put, has_entry, get_timer, armed_same}
use Rattle.radio_tables.proofs.dense.DenseTablesTables.set_record.Goals as goal

pub set-requires : goal.set-requires
set-requires g c = record { there = has_entry c.self.inside.calls c.args.call (ap (λ b. is_some (map.get b.calls c.args.call)) c.self.view_is ∙ c.requires.there) }

pub invariant_of-self : goal.invariant_of-self
invariant_of-self g c =
    let t = c.self.inside in
    let stays = c.requires.timer ∙ sym (ap (λ b. map.get b.timers c.args.call) c.self.view_is) ∙ get_timer t.calls c.args.call in
    record {
      rows = c.self.invariant.rows;
      lies = c.self.invariant.lies;
      counted = armed_same t.calls c.set.new.self c.args.call t.armed c.self.invariant.counted c.args.entry c.set.ensures.set stays;
    }

pub returns : goal.returns
returns g c =
    let t = c.self.inside in
    record {
      kept = ap (λ m. state_in t.channels m t.references.users) c.set.ensures.set ∙ kept_put t.channels t.calls t.references.users c.args.call c.args.entry
          ∙ ap (λ b. with_kept b c.args.call c.args.entry) c.self.view_is;
    }
