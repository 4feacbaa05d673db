use Rattle.std.proofs.Common.{ℕ, cond, is_some, ap, ◌∙◌}
use Rattle.radio_tables.specs.State.{without_call}
use Rattle.radio_tables.specs.Dense.{timer_in}
use Rattle.radio_tables.proofs.DenseFacts.{state_in, kept_removed, armed_removed, armed_least}
use Rattle.radio_tables.proofs.dense.DenseTablesTables.remove_call.Goals as goal

pub overflow_sub-self : goal.overflow_sub-self
overflow_sub-self g c = armed_least c.self.inside.calls c.args.call c.self.inside.armed c.count_armed-before.result c.self.invariant.counted (c.count_armed-before.ensures ∙ ap {B = ℕ} (λ o. cond (is_some (timer_in o)) 1 0) c.remove-old.ensures.old)

pub invariant_of-self : goal.invariant_of-self
invariant_of-self g c =
    let t = c.self.inside in
    record {
      rows = c.self.invariant.rows;
      lies = c.self.invariant.lies;
      counted = armed_removed t.calls c.remove-old.new.self c.args.call t.armed c.self.invariant.counted c.count_armed-before.result c.remove-old.ensures.removed (c.count_armed-before.ensures ∙ ap {B = ℕ} (λ o. cond (is_some (timer_in o)) 1 0) c.remove-old.ensures.old);
    }

pub returns : goal.returns
returns g c =
    let t = c.self.inside in
    record {
      gone = ap (λ m. state_in t.channels m t.references.users) c.remove-old.ensures.removed ∙ kept_removed t.channels t.calls t.references.users c.args.call
          ∙ ap (λ b. without_call b c.args.call) c.self.view_is;
    }
