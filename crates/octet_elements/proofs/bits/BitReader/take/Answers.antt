use Rattle.std.proofs.Common.{◌≡◌, ◌∙◌, ◌-◌, ◌*◌, ◌%◌, ◌^◌, sym, ap, length, arith}
use Rattle.octet_elements.proofs.BitLemmas.{length-window, take-number, taken_below, taken_fits, take-rest}
use Rattle.octet_elements.proofs.bits.BitReader.take.Goals as goal

pub overflow_sub-self : goal.overflow_sub-self
overflow_sub-self c =
    let s = c.self.inside in
    let len : length c.args.self.now ≡ s.len = sym (ap length c.self.view_is) ∙ length-window s.len s.number c.self.invariant in
    omega arith

pub overflow_cast-number-2 : goal.overflow_cast-number-2
overflow_cast-number-2 c = record { fits = taken_fits c.args.width c.self.inside.number c.requires.narrow c.self.ranges.0.1 }

pub returns-clause-number : goal.returns-clause-number
returns-clause-number c =
    let s = c.self.inside in
    let len : length c.args.self.now ≡ s.len = sym (ap length c.self.view_is) ∙ length-window s.len s.number c.self.invariant in
    rw (← c.self.view_is) (sym (take-number c.args.width s.len s.number (omega (arith, c.requires.enough)) c.self.invariant c.self.ranges.0.1))

pub returns-clause-range : goal.returns-clause-range
returns-clause-range c = taken_below c.args.width c.self.inside.number c.requires.narrow c.self.ranges.0.1

pub returns-clause-rest : goal.returns-clause-rest
returns-clause-rest c =
    let s = c.self.inside in
    let len : length c.args.self.now ≡ s.len = sym (ap length c.self.view_is) ∙ length-window s.len s.number c.self.invariant in
    rw (← c.self.view_is) (sym (take-rest c.args.width s.len s.number (omega (arith, c.requires.enough)) c.self.invariant))

pub returns-clause-left : goal.returns-clause-left
returns-clause-left c =
    let s = c.self.inside in
    let few = c.self.invariant in
    let len : length c.args.self.now ≡ s.len = sym (ap length c.self.view_is) ∙ length-window s.len s.number few in
    let left = length-window (s.len - c.args.width) (s.number * 2 ^ c.args.width % 2 ^ 128) (omega (arith, few)) in
    omega (arith, left, c.requires.enough)
