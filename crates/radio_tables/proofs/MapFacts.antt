-- Finite maps: what a change of one entry leaves at each key, and changes one after another; then the maps of a book.
use Rattle.std.proofs.Common.{◌≡◌, ◌≢◌, ◌⊎◌, inl, inr, Bool, true, false, cond, List, [], ◌∷◌, ℕ, Some, None, Option, refl, sym, ap, ◌∙◌}
use Rattle.std.specs.declared.cmp.Ordering.{Ordering}
use Rattle.std.specs.declared.cmp.Ordering.TheVariants.{Less, Equal, Greater}
use Rattle.std.specs.Ordering.{eq_by_cmp, is_eq, nat_cmp}
use Rattle.std.specs.Cmp.{IsTotalOrder, eq_by_cmp_equiv, tied_itself, nat_cmp_total}
use Rattle.std.specs.FinMap as map
use Rattle.std.specs.FinMap.{FinMap, IsAntisymmetric, same_map, find, get-insert, get-remove, get-from_entries, nat_cmp-IsAntisymmetric}
use Rattle.std.specs.Map.{lookup}
use Rattle.std.specs.BTreeMap.{is_at}
use Rattle.channel_fsm.specs.declared.ChanId.{ChanId}
use Rattle.channel_fsm.specs.declared.ChanState.{ChanState}
use Rattle.dense_tables.specs.declared.references.Reference.{Reference}
use Rattle.radio_tables.specs.declared.kinds.CallRecord.{CallRecord}
use Rattle.radio_tables.specs.Keys.{chan_cmp, reference_cmp}
use Rattle.radio_tables.specs.Maps.{put}
use Rattle.radio_tables.specs.State.{or_free}
use Rattle.radio_tables.proofs.KeyFacts.{chan_total, chan_exact, reference_total}

-- keys that tie are one
pub tied_keys : {K : Type 0} (R : K → K → Ordering) → IsAntisymmetric R → (q k : K) → eq_by_cmp R q k ≡ true → q ≡ k
tied_keys R exact q k e =
    exact q k (elim (R q k) as (λ r. is_eq r ≡ true → r ≡ Equal) [ Less ↦ λ h. cc | Equal ↦ λ h. refl | Greater ↦ λ h. cc ] e)

pub different_keys : {K : Type 0} (R : K → K → Ordering) → IsAntisymmetric R → (q k : K) → q ≢ k → eq_by_cmp R q k ≡ false
different_keys R exact q k apart =
    elim (eq_by_cmp R q k) as (λ b. eq_by_cmp R q k ≡ b → b ≡ false) [
      | true ↦ λ e. absurd (apart (tied_keys R exact q k e))
      | false ↦ λ e. refl
    ] refl

-- two keys are one, or they are different
pub key_cases : {K : Type 0} {R : K → K → Ordering} → IsTotalOrder R → IsAntisymmetric R → (q k : K) → (q ≡ k) ⊎ (q ≢ k)
key_cases {R = R} o exact q k =
    elim (eq_by_cmp R q k) as (λ b. eq_by_cmp R q k ≡ b → (q ≡ k) ⊎ (q ≢ k)) [
      | true ↦ λ e. inl (tied_keys R exact q k e)
      | false ↦ λ e. inr (λ same. let tied : eq_by_cmp R q k ≡ true = ap (eq_by_cmp R q) (sym same) ∙ ap is_eq (tied_itself o q) in cc)
    ] refl

choices_swap : {A : Type 0} (p q : Bool) (x y z : A) → (p ≡ true → q ≡ true → x ≡ y) → cond p x (cond q y z) ≡ cond q y (cond p x z)
choices_swap true true x y z h = h refl refl
choices_swap true false x y z h = refl
choices_swap false true x y z h = refl
choices_swap false false x y z h = refl

choices_same : {A : Type 0} (p : Bool) (x y z : A) → cond p x (cond p y z) ≡ cond p x z
choices_same true x y z = refl
choices_same false x y z = refl

find_is_lookup : {K X : Type 0} (R : K → K → Ordering) (es : List (K × X)) (q : K) → find R q es ≡ lookup (is_at (R q)) es
find_is_lookup R [] q = refl
find_is_lookup R (e ∷ es) q = ap (cond (is_at (R q) e.0) (Some e.1)) (find_is_lookup R es q)

module _ {K X : Type 0} {R : K → K → Ordering} (o : IsTotalOrder R) where
  -- the map of a tree map's entries answers as the tree map does
  pub get_listed : (es : List (K × X)) (q : K) → map.get (map.from_entries {R = R} es) q ≡ lookup (is_at (R q)) es
  get_listed es q = get-from_entries o es q ∙ find_is_lookup R es q

  pub get_put : (m : FinMap R X) (k : K) (w : Option X) (q : K) → map.get (put m k w) q ≡ cond (eq_by_cmp R q k) w (map.get m q)
  get_put m k None q = get-remove o m k q
  get_put m k (Some v) q = get-insert o m k v q

  pub get_put_same : (m : FinMap R X) (k : K) (w : Option X) → map.get (put m k w) k ≡ w
  get_put_same m k w = get_put m k w k ∙ ap (λ b. cond b w (map.get m k)) (ap is_eq (tied_itself o k))

module _ {K X : Type 0} {R : K → K → Ordering} (o : IsTotalOrder R) (exact : IsAntisymmetric R) where
  pub get_put_other : (m : FinMap R X) (k : K) (w : Option X) (q : K) → q ≢ k → map.get (put m k w) q ≡ map.get m q
  get_put_other m k w q apart = get_put o m k w q ∙ ap (λ b. cond b w (map.get m q)) (different_keys R exact q k apart)

  -- at one key, the last change counts
  pub put_put_same : (m : FinMap R X) (k : K) (w v : Option X) → put (put m k w) k v ≡ put m k v
  put_put_same m k w v = same_map o exact _ _ (λ q.
      get_put o (put m k w) k v q ∙ ap (cond (eq_by_cmp R q k) v) (get_put o m k w q)
      ∙ choices_same (eq_by_cmp R q k) v w (map.get m q) ∙ sym (get_put o m k v q))

  -- changes at different keys come to one map in either order
  pub put_put_other : (m : FinMap R X) (k j : K) (w v : Option X) → k ≢ j → put (put m k w) j v ≡ put (put m j v) k w
  put_put_other m k j w v apart = same_map o exact _ _ (λ q.
      get_put o (put m k w) j v q ∙ ap (cond (eq_by_cmp R q j) v) (get_put o m k w q)
      ∙ choices_swap _ _ v w _ (λ p r. absurd (apart (sym (tied_keys R exact q k r) ∙ tied_keys R exact q j p)))
      ∙ sym (get_put o (put m j v) k w q ∙ ap (cond (eq_by_cmp R q k) w) (get_put o m j v q)))

  -- to put what stands there changes nothing
  pub put_again : (m : FinMap R X) (k : K) (w : Option X) → map.get m k ≡ w → put m k w ≡ m
  put_again m k w there = same_map o exact _ _ (λ q.
      get_put o m k w q
      ∙ elim (eq_by_cmp R q k) as (λ b. eq_by_cmp R q k ≡ b → cond b w (map.get m q) ≡ map.get m q) [
        | true ↦ λ e. sym there ∙ ap (map.get m) (sym (tied_keys R exact q k e))
        | false ↦ λ e. refl
      ] refl)

  -- a new entry, taken away again
  pub remove_inserted : (m : FinMap R X) (k : K) (v : X) → map.get m k ≡ None → map.remove (map.insert m k v) k ≡ m
  remove_inserted m k v absent = put_put_same m k (Some v) None ∙ put_again m k None absent

  -- entries that answer as before but at one key make the map changed there
  pub put_listed : (es fs : List (K × X)) (k : K) (w : Option X) → ((q : K) → lookup (is_at (R q)) fs ≡ cond (is_at (R k) q) w (lookup (is_at (R q)) es)) → map.from_entries {R = R} fs ≡ put (map.from_entries es) k w
  put_listed es fs k w answers = same_map o exact _ _ (λ q.
      get_listed o fs q ∙ answers q ∙ ap (λ b. cond b w (lookup (is_at (R q)) es)) ((eq_by_cmp_equiv o).symm k q)
      ∙ sym (get_put o (map.from_entries es) k w q ∙ ap (cond (eq_by_cmp R q k) w) (get_listed o es q)))

-- the maps of a book

pub call_cases : (c d : ℕ) → (c ≡ d) ⊎ (c ≢ d)
call_cases = key_cases nat_cmp_total nat_cmp-IsAntisymmetric

pub channel_same : (m : FinMap chan_cmp ChanState) (x : ChanId) (w : Option ChanState) → map.get (put m x w) x ≡ w
channel_same = get_put_same chan_total

pub channel_other : (m : FinMap chan_cmp ChanState) (x : ChanId) (w : Option ChanState) (y : ChanId) → y ≢ x → map.get (put m x w) y ≡ map.get m y
channel_other = get_put_other chan_total chan_exact

pub state_same : (m : FinMap chan_cmp ChanState) (x : ChanId) (w : Option ChanState) → or_free (map.get (put m x w) x) ≡ or_free w
state_same m x w = ap or_free (channel_same m x w)

pub state_other : (m : FinMap chan_cmp ChanState) (x : ChanId) (w : Option ChanState) (y : ChanId) → y ≢ x → or_free (map.get (put m x w) y) ≡ or_free (map.get m y)
state_other m x w y apart = ap or_free (channel_other m x w y apart)

pub record_same : (m : FinMap nat_cmp CallRecord) (c : ℕ) (w : Option CallRecord) → map.get (put m c w) c ≡ w
record_same = get_put_same nat_cmp_total

pub reference_same : (m : FinMap reference_cmp ℕ) (k : Reference) (w : Option ℕ) → map.get (put m k w) k ≡ w
reference_same = get_put_same reference_total
