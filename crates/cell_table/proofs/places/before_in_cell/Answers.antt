use Rattle.std.proofs.Common.{◌≡◌, ◌+◌, ◌≤◌, ℕ, length, take, List, Some, option_map, slice_get, sum_by, unwrap_or, refl, sym, ◌∙◌, ap, arith}
use Rattle.std.proofs.lemmas.List.{take_all}
use Rattle.std.proofs.lemmas.Option.{slice_get_read, slice_get_past}
use Rattle.cell_table.specs.Views.{TrxView}
use Rattle.cell_table.specs.Searches.{trx_size, slots_before, number_of}
use Rattle.cell_table.proofs.places.before_in_cell.Goals as goal

with_own : (f : TrxView → ℕ) (ts : List TrxView) (n : ℕ) (t : TrxView) → slice_get ts n ≡ Some t
    → sum_by trx_size (take n ts) + f t ≡ sum_by trx_size (take n ts) + unwrap_or (option_map f (slice_get ts n)) 0
with_own f ts n t at = sym (ap (λ o. sum_by trx_size (take n ts) + unwrap_or (option_map f o) 0) at)

without : (f : TrxView → ℕ) (ts : List TrxView) (n : ℕ) → length ts ≤ n → sum_by trx_size ts ≡ sum_by trx_size (take n ts) + unwrap_or (option_map f (slice_get ts n)) 0
without f ts n past =
    sym (ap (λ us. sum_by trx_size us) (take_all n ts past)) ∙ zero (sum_by trx_size (take n ts)) ∙ sym (ap (λ o. sum_by trx_size (take n ts) + unwrap_or (option_map f o) 0) (slice_get_past ts n past))
  where
    zero : (m : ℕ) → m ≡ m + 0
    zero m = omega arith

pub returns-in-Some-clause-value : goal.returns-in-Some-clause-value
returns-in-Some-clause-value c =
    let trx = c.as_slice-trx.result.now in
    let same : trx ≡ c.args.cell.now.trx = c.as_slice-trx.ensures.value ∙ ap (λ v. v.trx) c.cell.view_is in
    let at : slice_get trx c.args.chan.trx ≡ Some c.in-Some.own.now =
    slice_get_read trx (length trx) c.args.chan.trx c.in-Some.own.now refl c.in-Some.ensures.lookup.3.0 c.in-Some.ensures.lookup.1 in
    let slots = slots_before (number_of c.args.chan.tn c.args.chan.sub) in
    let counted : c.slots_before.result ≡ slots c.in-Some.own.now = c.slots_before.ensures.value ∙ ap (λ n. slots_before n c.in-Some.own.now) c.number_of.ensures.value in
    (λ i. c.trx_sizes.ensures.value i + counted i) ∙ with_own slots trx c.args.chan.trx c.in-Some.own.now at
    ∙ ap (λ ts. sum_by trx_size (take c.args.chan.trx ts) + unwrap_or (option_map slots (slice_get ts c.args.chan.trx)) 0) same

pub returns-in-None-clause-value : goal.returns-in-None-clause-value
returns-in-None-clause-value c =
    let trx = c.as_slice-trx.result.now in
    let same : trx ≡ c.args.cell.now.trx = c.as_slice-trx.ensures.value ∙ ap (λ v. v.trx) c.cell.view_is in
    let slots = slots_before (number_of c.args.chan.tn c.args.chan.sub) in
    c.trx_sizes-in-None.ensures.value ∙ without slots trx c.args.chan.trx c.in-None.ensures.lookup.3
    ∙ ap (λ ts. sum_by trx_size (take c.args.chan.trx ts) + unwrap_or (option_map slots (slice_get ts c.args.chan.trx)) 0) same
