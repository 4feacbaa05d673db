use Rattle.std.proofs.Common.{◌&&◌, sym, ap, ◌∙◌}
use Rattle.radio_tables.specs.Entries.{kept_code}
use Rattle.radio_tables.specs.Same.{is_same}
use Rattle.std.specs.Option.{option_eq}
use Rattle.attempt_journal.specs.contracts.TimerPartialEq.TheImpl.{eq-value as timer_eq}
use Rattle.radio_tables.proofs.SameFacts.{entry_eq}
use Rattle.radio_tables.proofs.entry.CallEntryPartialEq.eq.Goals as goal

pub returns-then-eq : goal.returns-then-eq
returns-then-eq c =
    let timers = option_eq timer_eq.it c.self.inside.timer c.other.inside.timer in
    c.eq-then-eq.ensures ∙ ap (λ b. b && timers) (sym c.if-eq.true ∙ c.eq.ensures)
    ∙ entry_eq (record { call = c.self.inside.record; timer = c.self.inside.timer }) (record { call = c.other.inside.record; timer = c.other.inside.timer })
    ∙ (λ i. is_same kept_code (c.self.view_is i) (c.other.view_is i))

pub returns-else-eq : goal.returns-else-eq
returns-else-eq c =
    let timers = option_eq timer_eq.it c.self.inside.timer c.other.inside.timer in
    c.if-eq.false ∙ ap (λ b. b && timers) (sym c.if-eq.false ∙ c.eq.ensures)
    ∙ entry_eq (record { call = c.self.inside.record; timer = c.self.inside.timer }) (record { call = c.other.inside.record; timer = c.other.inside.timer })
    ∙ (λ i. is_same kept_code (c.self.view_is i) (c.other.view_is i))
