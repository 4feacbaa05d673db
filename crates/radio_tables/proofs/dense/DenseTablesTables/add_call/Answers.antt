use Rattle.std.proofs.Common.{ℕ, cond, ap, ◌∙◌, arith}
use Rattle.std.specs.FinMap as map
use Rattle.radio_tables.specs.State.{with_kept}
use Rattle.radio_tables.proofs.DenseFacts.{state_in, kept_put, no_entry, few_armed, armed_added, same_calls}
use Rattle.radio_tables.proofs.dense.DenseTablesTables.add_call.Goals as goal

pub add-requires : goal.add-requires
add-requires g c = record { new = no_entry c.self.inside.calls c.args.call (ap (λ b. map.get b.calls c.args.call) c.self.view_is ∙ c.requires.new) }

pub invariant_of-self : goal.invariant_of-self
invariant_of-self g c =
    let t = c.self.inside in
    same_calls t.channels.site t.calls c.add.new.self t.references.cells t.armed c.self.invariant c.in_err-add.ensures.err

pub overflow_add-self : goal.overflow_add-self
overflow_add-self g c =
    let t = c.self.inside in
    let call = c.args.call in
    let none = no_entry t.calls call (ap (λ b. map.get b.calls call) c.self.view_is ∙ c.requires.new) in
    let counts = armed_added t.calls c.add.new.self call t.armed c.self.invariant.counted c.args.entry c.count_of-armed.result none c.in_ok-add.ensures.ok (c.count_of-armed.ensures ∙ ap {B = ℕ} (λ b. cond b 1 0) c.is_armed.ensures) in
    omega (arith, counts, few_armed c.add.new.self, c.len-calls.ensures.count, c.len-calls.type_inv)

pub invariant_of-self-2 : goal.invariant_of-self-2
invariant_of-self-2 g c =
    let t = c.self.inside in
    let call = c.args.call in
    let none = no_entry t.calls call (ap (λ b. map.get b.calls call) c.self.view_is ∙ c.requires.new) in
    record {
      rows = c.self.invariant.rows;
      lies = c.self.invariant.lies;
      counted = armed_added t.calls c.add.new.self call t.armed c.self.invariant.counted c.args.entry c.count_of-armed.result none c.in_ok-add.ensures.ok (c.count_of-armed.ensures ∙ ap {B = ℕ} (λ b. cond b 1 0) c.is_armed.ensures);
    }

pub returns-clause-ok : goal.returns-clause-ok
returns-clause-ok g c =
    let t = c.self.inside in
    ap (λ m. state_in t.channels m t.references.users) c.in_ok-add.ensures.ok ∙ kept_put t.channels t.calls t.references.users c.args.call c.args.entry
    ∙ ap (λ b. with_kept b c.args.call c.args.entry) c.self.view_is
