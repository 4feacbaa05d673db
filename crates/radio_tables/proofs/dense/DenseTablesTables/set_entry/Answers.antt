use Rattle.std.proofs.Common.{ℕ, cond, is_some, sym, ap, ◌∙◌, arith}
use Rattle.std.specs.FinMap as map
use Rattle.radio_tables.specs.State.{with_kept}
use Rattle.radio_tables.specs.Dense.{timer_in}
use Rattle.radio_tables.proofs.DenseFacts.{state_in, kept_put, has_entry, few_armed, armed_changed, armed_least}
use Rattle.radio_tables.proofs.dense.DenseTablesTables.set_entry.Goals as goal

pub set-old-requires : goal.set-old-requires
set-old-requires g c = record { there = has_entry c.self.inside.calls c.args.call (ap (λ b. is_some (map.get b.calls c.args.call)) c.self.view_is ∙ c.requires.there) }

pub overflow_sub-self : goal.overflow_sub-self
overflow_sub-self g c =
    let was = c.count_of-before.ensures ∙ ap {B = ℕ} (λ b. cond b 1 0) c.is_armed-2.ensures ∙ ap {B = ℕ} (λ o. cond (is_some (timer_in o)) 1 0) (sym c.set-old.ensures.old) in
    armed_least c.self.inside.calls c.args.call c.self.inside.armed c.count_of-before.result c.self.invariant.counted was

pub overflow_add-self : goal.overflow_add-self
overflow_add-self g c =
    let t = c.self.inside in
    let was = c.count_of-before.ensures ∙ ap {B = ℕ} (λ b. cond b 1 0) c.is_armed-2.ensures ∙ ap {B = ℕ} (λ o. cond (is_some (timer_in o)) 1 0) (sym c.set-old.ensures.old) in
    let one = c.count_of-armed.ensures ∙ ap {B = ℕ} (λ b. cond b 1 0) c.is_armed.ensures in
    let counts = armed_changed t.calls c.set-old.new.self c.args.call t.armed c.self.invariant.counted c.args.entry c.count_of-before.result c.count_of-armed.result c.set-old.ensures.set was one in
    omega (arith, counts, few_armed c.set-old.new.self, c.len-calls.ensures.count, c.len-calls.type_inv)

pub invariant_of-self : goal.invariant_of-self
invariant_of-self g c =
    let t = c.self.inside in
    let was = c.count_of-before.ensures ∙ ap {B = ℕ} (λ b. cond b 1 0) c.is_armed-2.ensures ∙ ap {B = ℕ} (λ o. cond (is_some (timer_in o)) 1 0) (sym c.set-old.ensures.old) in
    let one = c.count_of-armed.ensures ∙ ap {B = ℕ} (λ b. cond b 1 0) c.is_armed.ensures in
    record {
      rows = c.self.invariant.rows;
      lies = c.self.invariant.lies;
      counted = armed_changed t.calls c.set-old.new.self c.args.call t.armed c.self.invariant.counted c.args.entry c.count_of-before.result c.count_of-armed.result c.set-old.ensures.set was one;
    }

pub returns : goal.returns
returns g c =
    let t = c.self.inside in
    record {
      kept = ap (λ m. state_in t.channels m t.references.users) c.set-old.ensures.set ∙ kept_put t.channels t.calls t.references.users c.args.call c.args.entry
          ∙ ap (λ b. with_kept b c.args.call c.args.entry) c.self.view_is;
    }
