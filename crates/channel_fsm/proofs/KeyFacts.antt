-- The test of channels tells one; their order is total, and channels that tie are one.
use Rattle.std.proofs.Common.{◌≡◌, ◌≢◌, ◌==◌, ◌&&◌, ℕ, zero, suc, true, false, refl, sym, ap, ◌∙◌}
use Rattle.std.proofs.lemmas.Bool.{eq-eqb, eqb-true, and_from, and_parts}
use Rattle.std.specs.Bool.{Decides}
use Rattle.std.proofs.lemmas.Bool.Decides.{Decides-and, Decides-like, same_from_decides}
use denote.Enum.Bare.{same_true, true_same}
use Rattle.std.specs.Ordering.{nat_cmp}
use Rattle.std.specs.Cmp.{IsTotalOrder, nat_cmp_total, unsigned_Decides}
use Rattle.std.specs.FinMap.{IsAntisymmetric}
use Rattle.std.proofs.lemmas.Cmp.{on_total, then_total}
use Rattle.std.proofs.lemmas.Map.Lookups.{exact_pairs, exact_unsigned}
use Rattle.timeslots.specs.declared.Sub.{Sub}
use Rattle.timeslots.specs.declared.Sub.TheVariants.{Full, Half0, Half1}
use Rattle.channel_fsm.specs.declared.ChanId.{ChanId}
use Rattle.timeslots.specs.contracts.Sub.{the_type as sub_type}
use Rattle.channel_fsm.specs.contracts.ChanIdPartialEq.TheImpl.{eq-value as chan_eq}
use Rattle.channel_fsm.specs.Keys.{chan_cmp, same_chan}
use Rattle.timeslots.specs.Parts.{sub_number}

-- the part of a timeslot that has a number
abbrev numbered : ℕ → Sub
numbered zero = Full
numbered (suc zero) = Half0
numbered (suc (suc n)) = Half1

numbered_back : (s : Sub) → numbered (sub_number s) ≡ s
numbered_back Full = refl
numbered_back Half0 = refl
numbered_back Half1 = refl

pub one_sub : (s t : Sub) → sub_number s ≡ sub_number t → s ≡ t
one_sub s t e = sym (numbered_back s) ∙ ap numbered e ∙ numbered_back t

pub chan_total : IsTotalOrder chan_cmp
chan_total =
    then_total (on_total (λ x. x.cell) nat_cmp_total)
    (then_total (on_total (λ x. x.trx) nat_cmp_total)
    (then_total (on_total (λ x. x.tn) nat_cmp_total) (on_total (λ x. sub_number x.sub) nat_cmp_total)))

pub chan_exact : IsAntisymmetric chan_cmp
chan_exact x y h =
    let tied = exact_pairs nat_cmp _ exact_unsigned (exact_pairs nat_cmp _ exact_unsigned (exact_pairs nat_cmp nat_cmp exact_unsigned exact_unsigned))
    (x.cell, (x.trx, (x.tn, sub_number x.sub))) (y.cell, (y.trx, (y.tn, sub_number y.sub))) h in
    let sub = one_sub x.sub y.sub (ap (λ (p : ℕ × (ℕ × (ℕ × ℕ))). p.1.1.1) tied) in
    λ i. record { cell = (tied i).0; trx = (tied i).1.0; tn = (tied i).1.1.0; sub = sub i }

-- the test finds a channel in its place
pub same_chan_itself : (x : ChanId) → same_chan x x ≡ true
same_chan_itself x =
    and_from _ _ (eq-eqb x.cell x.cell refl)
    (and_from _ _ (eq-eqb x.trx x.trx refl) (and_from _ _ (eq-eqb x.tn x.tn refl) (eq-eqb (sub_number x.sub) (sub_number x.sub) refl)))

-- and no other
pub one_chan : (x y : ChanId) → same_chan x y ≡ true → x ≡ y
one_chan x y e =
    let (cells, places) = and_parts (x.cell == y.cell) (x.trx == y.trx && (x.tn == y.tn && sub_number x.sub == sub_number y.sub)) e in
    let (trx, slots) = and_parts (x.trx == y.trx) (x.tn == y.tn && sub_number x.sub == sub_number y.sub) places in
    let (tn, subs) = and_parts (x.tn == y.tn) (sub_number x.sub == sub_number y.sub) slots in
    let sub = one_sub x.sub y.sub (eqb-true (sub_number x.sub) (sub_number y.sub) subs) in
    λ i. record { cell = eqb-true x.cell y.cell cells i; trx = eqb-true x.trx y.trx trx i; tn = eqb-true x.tn y.tn tn i; sub = sub i }

pub other_chan : (x y : ChanId) → x ≢ y → same_chan x y ≡ false
other_chan x y apart =
    elim (same_chan x y) as (λ b. same_chan x y ≡ b → b ≡ false) [
      | true ↦ λ e. absurd (apart (one_chan x y e))
      | false ↦ λ e. refl
    ] refl

pub same_chan-Decides : (x y : ChanId) → Decides (same_chan x y) (x ≡ y)
same_chan-Decides x y = (one_chan x y, λ e. ap (same_chan x) (sym e) ∙ same_chan_itself x)

-- so does `==` of the code
pub chan_eq-Decides : (x y : ChanId) → Decides (chan_eq.it x y) (x ≡ y)
chan_eq-Decides x y =
    Decides-like (chan_eq.it x y) (λ p i. record { cell = p.0 i; trx = p.1.0 i; tn = p.1.1.0 i; sub = p.1.1.1 i })
    (λ e. (ap (λ z. z.cell) e, (ap (λ z. z.trx) e, (ap (λ z. z.tn) e, ap (λ z. z.sub) e))))
    (Decides-and _ _ (unsigned_Decides x.cell y.cell) (Decides-and _ _ (unsigned_Decides x.trx y.trx)
    (Decides-and _ _ (unsigned_Decides x.tn y.tn) (same_true sub_type tt x.sub y.sub, true_same sub_type x.sub y.sub))))

pub chan_eq_same : (x y : ChanId) → chan_eq.it x y ≡ same_chan x y
chan_eq_same x y = same_from_decides (chan_eq.it x y) (same_chan x y) (chan_eq-Decides x y) (same_chan-Decides x y)
