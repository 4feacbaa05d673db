-- What holds of every site: what a document says keeps the limits, and a traffic channel lies within them.
use Rattle.std.proofs.Common.{◌≡◌, ap, is_some, if◌then◌else◌, ℕ, Bool, true, false, ◌==◌, ◌<◌, ◌≤◌, nat_le, List, [], ◌∷◌, length, Option, Some, None, option_map, option_and_then, IfSome, All, Ok, Err, get_or, slice_get, unwrap_or, refl, sym, ◌∙◌, subst, inl, inr, rules, arith}
use Rattle.std.proofs.lemmas.List.Elements.{All-nil, All-head, All-tail}
use Rattle.std.proofs.lemmas.Bool.{false≢true, and_parts, cases_Bool}
use Rattle.std.proofs.lemmas.Bool.Decides.{nat_tests}
use Rattle.std.proofs.lemmas.Option.{same_Some, slice_get_within, slice_get-get_or}
use Rattle.std.specs.List.{list_any, list_all}
use Rattle.timeslots.specs.declared.Sub.{Sub}
use Rattle.timeslots.specs.declared.Sub.TheVariants.{Full, Half0, Half1}
use Rattle.channel_fsm.specs.declared.ChanId.{ChanId}
use Rattle.toml.specs.Data.{Data, get, as_integer}
use Rattle.cell_table.specs.declared.fault.Key.{Key}
use Rattle.cell_table.specs.declared.fault.Key.TheVariants as key
use Rattle.cell_table.specs.declared.fault.SiteFault.{SiteFault}
use Rattle.cell_table.specs.declared.fault.SiteFault.TheVariants.{Range}
use Rattle.cell_table.specs.declared.ranges.Allowed.{Allowed}
use Rattle.cell_table.specs.Limits.{most_carrier, most_neighbours, timeslots_of_trx}
use Rattle.cell_table.specs.Ranges.{up_to, allowed, arfcn_range, tch_range, IsAllowed}
use Rattle.cell_table.specs.declared.tables.CellIdentity.{CellIdentity}
use Rattle.cell_table.specs.declared.tables.HandoverRule.{HandoverRule}
use Rattle.cell_table.specs.Site.{TrxView, CellView, SiteView, IsCell, IsHalf, IsSite, IsHandoverRule, IsIdentity, IsWithinLimits, slots_with, is_traffic}
use Rattle.cell_table.specs.Rules.{broken_rule, unbroken, checked}
use Rattle.cell_table.specs.SiteFile.{Read, ◌>>=◌, handover_of, is_table, each, is_allowed, natural_number, number_of, number_within, number_at, value_at, array_of, counted, all_tables, tables_of, key_name, handover_at, identity_of, ba_of, tch_of, half_slot, halves_by, half_of, trx_of, all_trx_of, cell_of, cells_of, outside_of, site_of}
use Rattle.cell_table.proofs.Chains.{bind_parts, ok_or_parts, where_passes_parts, passed, All-each, first-each, length-each}

-- what was read within a range is a number of that range
number_range : (k : Key) (range : Allowed) (d : Data) (n : ℕ) → number_of k range d ≡ Ok n → (range.least ≤ n) × (n ≤ range.most)
number_range k range d n e =
    let within = where_passes_parts (is_allowed range) (option_and_then natural_number (as_integer d)) n (ok_or_parts _ (Range k) n e) in
    let (least, most) = and_parts (nat_le range.least n) (nat_le n range.most) within in
    (grind (arith, nat_tests), grind (arith, nat_tests))

number_within_range : (k : Key) (range : Allowed) (d : Data) (n : ℕ) → number_within k range d ≡ Ok n → (range.least ≤ n) × (n ≤ range.most)
unfolding number_within
number_within_range k range d n e =
    bind_parts ((range.least ≤ n) × (n ≤ range.most)) (value_at k d) (λ value. number_of k range value) n e
    (λ value there read. number_range k range value n read)

number_allowed : (k : Key) (d : Data) (n : ℕ) → number_at k d ≡ Ok n → IsAllowed k n
number_allowed k d n e = number_within_range k (allowed k) d n e

handover_limits : (d : Data) (rule : HandoverRule) → handover_of d ≡ Ok rule → IsHandoverRule rule
unfolding handover_of
handover_limits d rule e =
    bind_parts (IsHandoverRule rule) (number_at key.Window d) (λ window. number_at key.Margin d >>= (λ margin. number_at key.Minimum d >>= (λ minimum. Ok (record { window = window; margin = margin; minimum = minimum })))) rule e
    (λ window r1 e1. bind_parts (IsHandoverRule rule) (number_at key.Margin d) (λ margin. number_at key.Minimum d >>= (λ minimum. Ok (record { window = window; margin = margin; minimum = minimum }))) rule e1
    (λ margin r2 e2. bind_parts (IsHandoverRule rule) (number_at key.Minimum d) (λ minimum. Ok (record { window = window; margin = margin; minimum = minimum })) rule e2
    (λ minimum r3 e3.
    let is : record { window = window; margin = margin; minimum = minimum } ≡ rule = cc in
    rw (← is) (record { window = number_allowed key.Window d window r1; margin = number_allowed key.Margin d margin r2; minimum = number_allowed key.Minimum d minimum r3 }))))

identity_limits : (d : Data) (c : CellIdentity) → identity_of d ≡ Ok c → IsIdentity c
unfolding identity_of
identity_limits d c e =
    bind_parts (IsIdentity c) (number_at key.Lac d) (λ lac. number_at key.Ci d >>= (λ ci. number_at key.Bcch d >>= (λ bcch. number_at key.Ncc d >>= (λ ncc. number_at key.Bcc d >>= (λ bcc. Ok (record { lac = lac; ci = ci; bcch = bcch; ncc = ncc; bcc = bcc })))))) c e
    (λ lac r1 e1. bind_parts (IsIdentity c) (number_at key.Ci d) (λ ci. number_at key.Bcch d >>= (λ bcch. number_at key.Ncc d >>= (λ ncc. number_at key.Bcc d >>= (λ bcc. Ok (record { lac = lac; ci = ci; bcch = bcch; ncc = ncc; bcc = bcc }))))) c e1
    (λ ci r2 e2. bind_parts (IsIdentity c) (number_at key.Bcch d) (λ bcch. number_at key.Ncc d >>= (λ ncc. number_at key.Bcc d >>= (λ bcc. Ok (record { lac = lac; ci = ci; bcch = bcch; ncc = ncc; bcc = bcc })))) c e2
    (λ bcch r3 e3. bind_parts (IsIdentity c) (number_at key.Ncc d) (λ ncc. number_at key.Bcc d >>= (λ bcc. Ok (record { lac = lac; ci = ci; bcch = bcch; ncc = ncc; bcc = bcc }))) c e3
    (λ ncc r4 e4. bind_parts (IsIdentity c) (number_at key.Bcc d) (λ bcc. Ok (record { lac = lac; ci = ci; bcch = bcch; ncc = ncc; bcc = bcc })) c e4
    (λ bcc r5 e5.
    let is : record { lac = lac; ci = ci; bcch = bcch; ncc = ncc; bcc = bcc } ≡ c = cc in
    rw (← is) (record { lac = number_allowed key.Lac d lac r1; ci = number_allowed key.Ci d ci r2; bcch = number_allowed key.Bcch d bcch r3; ncc = number_allowed key.Ncc d ncc r4; bcc = number_allowed key.Bcc d bcc r5 }))))))

handover_at_limits : (d : Data) (rule : HandoverRule) → handover_at d ≡ Ok rule → IsHandoverRule rule
unfolding handover_at
handover_at_limits d rule e =
    bind_parts (IsHandoverRule rule) (value_at key.Handover d) (λ value. if is_table value then handover_of value else Err (Range key.Handover)) rule e
    (λ value there rest. handover_limits value rule (taken (is_table value) (handover_of value) rule rest))
  where
    taken : (b : Bool) (r : Read HandoverRule) (y : HandoverRule) → (if b then r else Err (Range key.Handover)) ≡ Ok y → r ≡ Ok y
    taken true r y same = same
    taken false r y same = absurd cc

counted_parts : (k : Key) (count : Allowed) (ds some : List Data) → counted k count ds ≡ Ok some → length some ≤ count.most
counted_parts k count ds some e =
    let (same, fits) = passed (is_allowed count (length ds)) ds some (Range k) e in
    let (least, most) = and_parts (nat_le count.least (length ds)) (nat_le (length ds) count.most) fits in
    rw (← same) (grind (arith, nat_tests))

ba_limits : (d : Data) (ba : List ℕ) → ba_of d ≡ Ok ba → (length ba ≤ most_neighbours) × All (IsAllowed key.Ba) ba
unfolding ba_of
ba_limits d ba e =
    let Fits : Type 0 = (length ba ≤ most_neighbours) × All (IsAllowed key.Ba) ba in
    bind_parts Fits (value_at key.Ba d) (λ value. array_of key.Ba value >>= (λ entries. counted key.Ba (up_to most_neighbours) entries >>= (λ carriers. each (λ place. number_of key.Ba (allowed key.Ba)) 0 carriers))) ba e
    (λ value r1 e1. bind_parts Fits (array_of key.Ba value) (λ entries. counted key.Ba (up_to most_neighbours) entries >>= (λ carriers. each (λ place. number_of key.Ba (allowed key.Ba)) 0 carriers)) ba e1
    (λ entries r2 e2. bind_parts Fits (counted key.Ba (up_to most_neighbours) entries) (λ carriers. each (λ place. number_of key.Ba (allowed key.Ba)) 0 carriers) ba e2
    (λ carriers r3 e3.
    let as_many = length-each (λ place. number_of key.Ba (allowed key.Ba)) 0 carriers ba e3 in
    let few = counted_parts key.Ba (up_to most_neighbours) entries carriers r3 in
    (omega arith, All-each (λ place. number_of key.Ba (allowed key.Ba)) (IsAllowed key.Ba) (λ n d' c read. number_range key.Ba (allowed key.Ba) d' c read) 0 carriers ba e3))))

-- the timeslots of a TRX are in their range
tch_within : (first : Bool) (d : Data) (slots : List ℕ) → tch_of first d ≡ Ok slots → All (λ tn. ((tch_range first).least ≤ tn) × (tn ≤ (tch_range first).most)) slots
unfolding tch_of
tch_within first d slots e =
    let Within : ℕ → Type 0 = λ tn. ((tch_range first).least ≤ tn) × (tn ≤ (tch_range first).most) in
    bind_parts (All Within slots) (value_at key.Tch d) (λ value. array_of key.Tch value >>= (λ entries. each (λ place. number_of key.Tch (tch_range first)) 0 entries)) slots e
    (λ value there rest. bind_parts (All Within slots) (array_of key.Tch value) (λ entries. each (λ place. number_of key.Tch (tch_range first)) 0 entries) slots rest
    (λ entries array told. All-each (λ place. number_of key.Tch (tch_range first)) Within (λ n d' tn read. number_range key.Tch (tch_range first) d' tn read) 0 entries slots told))

-- the timeslots of a TRX
trx_slots : (bcch : ℕ) (first : Bool) (d : Data) (t : TrxView) → trx_of bcch first d ≡ Ok t
    → All (λ tn. ((tch_range first).least ≤ tn) × (tn ≤ (tch_range first).most)) t.tch
unfolding trx_of
trx_slots bcch first d t e =
    let Within : ℕ → Type 0 = λ tn. ((tch_range first).least ≤ tn) × (tn ≤ (tch_range first).most) in
    bind_parts (All Within t.tch) (number_within key.Arfcn (arfcn_range bcch first) d) (λ arfcn. tch_of first d >>= (λ tch. half_of tch d >>= (λ half. Ok (record { arfcn = arfcn; tch = tch; half = half })))) t e
    (λ arfcn read rest. bind_parts (All Within t.tch) (tch_of first d) (λ tch. half_of tch d >>= (λ half. Ok (record { arfcn = arfcn; tch = tch; half = half }))) t rest
    (λ tch told more. bind_parts (All Within t.tch) (half_of tch d) (λ half. Ok (record { arfcn = arfcn; tch = tch; half = half })) t more
    (λ half said same. let is : record { arfcn = arfcn; tch = tch; half = half } ≡ t = cc in rw (← is) (tch_within first d tch told))))

-- the timeslots that also carry halves are among them
half_slot_is : (slots : List ℕ) (d : Data) (n : ℕ) → half_slot (λ tn. list_any (λ m. m == tn) slots) d ≡ Ok n → IsHalf slots n
unfolding half_slot
half_slot_is slots d n e =
    let test : ℕ → Bool = λ tn. list_any (λ m. m == tn) slots in
    bind_parts (IsHalf slots n) (number_of key.Half (allowed key.Half) d) (λ tn. if test tn then Ok tn else Err (Range key.Half)) n e
    (λ tn read rest.
    let (same, passes) = passed (test tn) tn n (Range key.Half) rest in
    rw (← same) (record { range = number_range key.Half (allowed key.Half) d tn read; traffic = passes }))

halves_within : (slots : List ℕ) (o : Option Data) (halves : List ℕ) → halves_by (λ tn. list_any (λ m. m == tn) slots) o ≡ Ok halves → All (IsHalf slots) halves
unfolding halves_by
halves_within slots None halves e = let is : [] ≡ halves = cc in rw (← is) (All-nil (IsHalf slots))
halves_within slots (Some value) halves e =
    let test : ℕ → Bool = λ tn. list_any (λ m. m == tn) slots in
    bind_parts (All (IsHalf slots) halves) (array_of key.Half value) (λ entries. each (λ place. half_slot test) 0 entries) halves e
    (λ entries array told. All-each (λ place. half_slot test) (IsHalf slots) (λ n d' tn read. half_slot_is slots d' tn read) 0 entries halves told)

trx_halves : (bcch : ℕ) (first : Bool) (d : Data) (t : TrxView) → trx_of bcch first d ≡ Ok t → All (IsHalf t.tch) t.half
unfolding trx_of
trx_halves bcch first d t e =
    let Among : Type 0 = All (IsHalf t.tch) t.half in
    bind_parts Among (number_within key.Arfcn (arfcn_range bcch first) d) (λ arfcn. tch_of first d >>= (λ tch. half_of tch d >>= (λ half. Ok (record { arfcn = arfcn; tch = tch; half = half })))) t e
    (λ arfcn read rest. bind_parts Among (tch_of first d) (λ tch. half_of tch d >>= (λ half. Ok (record { arfcn = arfcn; tch = tch; half = half }))) t rest
    (λ tch told more. bind_parts Among (half_of tch d) (λ half. Ok (record { arfcn = arfcn; tch = tch; half = half })) t more
    (λ half said same. let is : record { arfcn = arfcn; tch = tch; half = half } ≡ t = cc in rw (← is) (halves_within tch (get (key_name key.Half) d) half said))))

-- the carrier of a TRX
trx_carrier : (bcch : ℕ) (first : Bool) (d : Data) (t : TrxView) → trx_of bcch first d ≡ Ok t
    → ((arfcn_range bcch first).least ≤ t.arfcn) × (t.arfcn ≤ (arfcn_range bcch first).most)
unfolding trx_of
trx_carrier bcch first d t e =
    let Within : ℕ → Type 0 = λ n. ((arfcn_range bcch first).least ≤ n) × (n ≤ (arfcn_range bcch first).most) in
    bind_parts (Within t.arfcn) (number_within key.Arfcn (arfcn_range bcch first) d) (λ arfcn. tch_of first d >>= (λ tch. half_of tch d >>= (λ half. Ok (record { arfcn = arfcn; tch = tch; half = half })))) t e
    (λ arfcn read rest. bind_parts (Within t.arfcn) (tch_of first d) (λ tch. half_of tch d >>= (λ half. Ok (record { arfcn = arfcn; tch = tch; half = half }))) t rest
    (λ tch told more. bind_parts (Within t.arfcn) (half_of tch d) (λ half. Ok (record { arfcn = arfcn; tch = tch; half = half })) t more
    (λ half said same. let is : record { arfcn = arfcn; tch = tch; half = half } ≡ t = cc in rw (← is) (number_within_range key.Arfcn (arfcn_range bcch first) d arfcn read))))

carrier_allowed : (bcch : ℕ) (first : Bool) (n : ℕ) → bcch ≤ most_carrier → ((arfcn_range bcch first).least ≤ n) × (n ≤ (arfcn_range bcch first).most) → IsAllowed key.Arfcn n
carrier_allowed bcch true n small within = (omega arith, omega (arith, within.1, small))
carrier_allowed bcch false n small within = within

equal : (n m : ℕ) → (m ≤ n) × (n ≤ m) → n ≡ m
equal n m both = omega (arith, both.0, both.1)

first_is : (o : Option TrxView) (bcch : ℕ) → is_some o ≡ true → IfSome o (λ t. t.arfcn ≡ bcch) → option_map (λ t. t.arfcn) o ≡ Some bcch
first_is None bcch there same = absurd (false≢true there)
first_is (Some t) bcch there same = ap (λ n. Some n) same

has_first : (trx : List TrxView) → 1 ≤ length trx → is_some (slice_get trx 0) ≡ true
has_first [] some = absurd (omega arith)
has_first (t ∷ trx) some = refl

slot_allowed : (first : Bool) (n : ℕ) → ((tch_range first).least ≤ n) × (n ≤ (tch_range first).most) → IsAllowed key.Tch n
slot_allowed true n within = (omega arith, within.1)
slot_allowed false n within = within

trx_range : (bcch : ℕ) (first : Bool) (d : Data) (t : TrxView) → trx_of bcch first d ≡ Ok t → All (IsAllowed key.Tch) t.tch
trx_range bcch first d t e =
    let slots = trx_slots bcch first d t e in
    λ i x within. slot_allowed first (get_or t.tch i x) (slots i x within)

no_zero : (slots : List ℕ) → All (λ tn. (1 ≤ tn) × (tn ≤ 7)) slots → list_any (λ tn. tn == 0) slots ≡ false
no_zero [] all = refl
no_zero (tn ∷ slots) all =
    let Within : ℕ → Type 0 = λ tn. (1 ≤ tn) × (tn ≤ 7) in
    let here : Within tn = All-head Within tn slots all in
    let other : (tn == 0) ≡ false = not_zero tn here.0 in
    rw other (no_zero slots (All-tail Within tn slots all))
  where
    not_zero : (n : ℕ) → 1 ≤ n → (n == 0) ≡ false
    not_zero n some = grind (arith, nat_tests)

quiet : (first : Option TrxView) → IfSome first (λ t. list_any (λ tn. tn == 0) t.tch ≡ false)
    → list_any (λ tn. tn == 0) (unwrap_or (option_map (λ t. t.tch) first) []) ≡ false
quiet None silent = refl
quiet (Some t) silent = silent

-- what was read in the place of tables is as many as are allowed
tables_count : (k : Key) (d : Data) (entries : List Data) → tables_of k d ≡ Ok entries → IsAllowed k (length entries)
unfolding tables_of
tables_count k d entries e =
    let count = allowed k in
    let Fits : List Data → Type 0 = λ ds. IsAllowed k (length ds) in
    bind_parts (Fits entries) (array_of k d) (λ ds. counted k count ds >>= (λ some. all_tables k some)) entries e
    (λ ds array rest. bind_parts (Fits entries) (counted k count ds) (λ some. all_tables k some) entries rest
    (λ some few tables.
    let (same, fits) = passed (is_allowed count (length ds)) ds some (Range k) few in
    let (whole, all) = passed (list_all is_table some) some entries (Range k) tables in
    let (least, most) = and_parts (nat_le count.least (length ds)) (nat_le (length ds) count.most) fits in
    let as_many : ds ≡ entries = same ∙ whole in
    rw (← as_many) (grind (arith, nat_tests), grind (arith, nat_tests))))

-- the TRX of a cell
record IsTrxList (bcch : ℕ) (trx : List TrxView) : Type 0 where
  carriers : All (λ t. IsAllowed key.Arfcn t.arfcn) trx
  first_carrier : option_map (λ t. t.arfcn) (slice_get trx 0) ≡ Some bcch
  trx_count : IsAllowed key.Trx (length trx)
  slots : All (λ t. All (IsAllowed key.Tch) t.tch) trx
  halves : All (λ t. All (IsHalf t.tch) t.half) trx
  broadcast : IfSome (slice_get trx 0) (λ t. list_any (λ tn. tn == 0) t.tch ≡ false)

trx_list : (bcch : ℕ) (d : Data) (trx : List TrxView) → bcch ≤ most_carrier → all_trx_of bcch d ≡ Ok trx → IsTrxList bcch trx
unfolding all_trx_of
trx_list bcch d trx small e =
    bind_parts (IsTrxList bcch trx) (value_at key.Trx d) (λ value. tables_of key.Trx value >>= (λ entries. each (λ place. trx_of bcch (place == 0)) 0 entries)) trx e
    (λ value there rest. bind_parts (IsTrxList bcch trx) (tables_of key.Trx value) (λ entries. each (λ place. trx_of bcch (place == 0)) 0 entries) trx rest
    (λ entries tables told.
    let as_many = length-each (λ place. trx_of bcch (place == 0)) 0 entries trx told in
    let (least, most) = tables_count key.Trx value entries tables in
    record {
      carriers = All-each (λ place. trx_of bcch (place == 0)) (λ t. IsAllowed key.Arfcn t.arfcn) (λ n d' t read. carrier_allowed bcch (n == 0) t.arfcn small (trx_carrier bcch (n == 0) d' t read)) 0 entries trx told;
      first_carrier = first_is (slice_get trx 0) bcch (has_first trx (omega arith))
          (first-each (λ place. trx_of bcch (place == 0)) (λ t. t.arfcn ≡ bcch) 0 (λ d' t read. equal t.arfcn bcch (trx_carrier bcch true d' t read)) entries trx told);
      trx_count = (omega (arith, least, as_many), omega (arith, most, as_many));
      slots = All-each (λ place. trx_of bcch (place == 0)) (λ t. All (IsAllowed key.Tch) t.tch) (λ n d' t read. trx_range bcch (n == 0) d' t read) 0 entries trx told;
      halves = All-each (λ place. trx_of bcch (place == 0)) (λ t. All (IsHalf t.tch) t.half) (λ n d' t read. trx_halves bcch (n == 0) d' t read) 0 entries trx told;
      broadcast = first-each (λ place. trx_of bcch (place == 0)) (λ t. list_any (λ tn. tn == 0) t.tch ≡ false) 0 (λ d' t read. no_zero t.tch (trx_slots bcch true d' t read)) entries trx told;
    }))

-- an own cell
cell_limits : (d : Data) (c : CellView) → cell_of d ≡ Ok c → IsCell c
unfolding cell_of
cell_limits d c e =
    bind_parts (IsCell c) (identity_of d) (λ identity. number_at key.Power d >>= (λ power. ba_of d >>= (λ ba. all_trx_of identity.bcch d >>= (λ trx. Ok (record { identity = identity; power = power; ba = ba; trx = trx }))))) c e
    (λ identity r1 e1. bind_parts (IsCell c) (number_at key.Power d) (λ power. ba_of d >>= (λ ba. all_trx_of identity.bcch d >>= (λ trx. Ok (record { identity = identity; power = power; ba = ba; trx = trx })))) c e1
    (λ power r2 e2. bind_parts (IsCell c) (ba_of d) (λ ba. all_trx_of identity.bcch d >>= (λ trx. Ok (record { identity = identity; power = power; ba = ba; trx = trx }))) c e2
    (λ ba r3 e3. bind_parts (IsCell c) (all_trx_of identity.bcch d) (λ trx. Ok (record { identity = identity; power = power; ba = ba; trx = trx })) c e3
    (λ trx r4 e4.
    let is : record { identity = identity; power = power; ba = ba; trx = trx } ≡ c = cc in
    let named = identity_limits d identity r1 in
    let facts = trx_list identity.bcch d trx named.bcch.1 r4 in
    let list = ba_limits d ba r3 in
    rw (← is) (record { identity = named; power = number_allowed key.Power d power r2; few_neighbours = list.0; neighbours = list.1; carriers = facts.carriers; first_carrier = facts.first_carrier; trx_count = facts.trx_count; slots = facts.slots; halves = facts.halves; broadcast = quiet (slice_get trx 0) facts.broadcast })))))

pub record IsCellList (cells : List CellView) : Type 0 where
  pub cell_count : IsAllowed key.Cell (length cells)
  pub each_cell : All IsCell cells

pub cell_list : (d : Data) (cells : List CellView) → cells_of d ≡ Ok cells → IsCellList cells
unfolding cells_of
cell_list d cells e =
    bind_parts (IsCellList cells) (value_at key.Cell d) (λ value. tables_of key.Cell value >>= (λ entries. each (λ place. cell_of) 0 entries)) cells e
    (λ value there rest. bind_parts (IsCellList cells) (tables_of key.Cell value) (λ entries. each (λ place. cell_of) 0 entries) cells rest
    (λ entries tables told.
    let as_many = length-each (λ place. cell_of) 0 entries cells told in
    let (least, most) = tables_count key.Cell value entries tables in
    record {
      cell_count = (omega (arith, least, as_many), omega (arith, most, as_many));
      each_cell = All-each (λ place. cell_of) IsCell (λ n d' c read. cell_limits d' c read) 0 entries cells told;
    }))

outside_limits : (o : Option Data) (cells : List CellIdentity) → outside_of o ≡ Ok cells → IsAllowed key.Outside (length cells) × All IsIdentity cells
unfolding outside_of
outside_limits None cells e = let is : [] ≡ cells = cc in rw (← is) ((omega arith, omega arith), All-nil IsIdentity)
outside_limits (Some value) cells e =
    bind_parts (IsAllowed key.Outside (length cells) × All IsIdentity cells) (tables_of key.Outside value) (λ entries. each (λ place. identity_of) 0 entries) cells e
    (λ entries tables told.
    let as_many = length-each (λ place. identity_of) 0 entries cells told in
    let (least, most) = tables_count key.Outside value entries tables in
    ((omega arith, omega (arith, most, as_many)), All-each (λ place. identity_of) IsIdentity (λ n d' c read. identity_limits d' c read) 0 entries cells told))

unbroken_parts : (site : SiteView) (broken : Option SiteFault) (y : SiteView) → unbroken site broken ≡ Ok y → (site ≡ y) × (broken ≡ None)
unbroken_parts site None y e = (cc, refl)
unbroken_parts site (Some fault) y e = absurd cc

-- a document tells of no site beyond the limits, nor of one that breaks a rule
pub site_limits : (d : Data) (site : SiteView) → site_of d ≡ Ok site → IsSite site
unfolding site_of
site_limits d site e =
    bind_parts (IsSite site) (handover_at d) (λ handover. cells_of d >>= (λ cells. outside_of (get (key_name key.Outside) d) >>= (λ outside. checked (record { handover = handover; cells = cells; outside = outside })))) site e
    (λ handover r1 e1. bind_parts (IsSite site) (cells_of d) (λ cells. outside_of (get (key_name key.Outside) d) >>= (λ outside. checked (record { handover = handover; cells = cells; outside = outside }))) site e1
    (λ cells r2 e2. bind_parts (IsSite site) (outside_of (get (key_name key.Outside) d)) (λ outside. checked (record { handover = handover; cells = cells; outside = outside })) site e2
    (λ outside r3 e3.
    let whole : SiteView = record { handover = handover; cells = cells; outside = outside } in
    let (is, rules) = unbroken_parts whole (broken_rule whole) site e3 in
    let own = cell_list d cells r2 in
    let others = outside_limits (get (key_name key.Outside) d) outside r3 in
    rw (← is) (record {
      within = record { cell_count = own.cell_count; outside_count = others.0; each_outside = others.1; handover = handover_at_limits d handover r1; each_cell = own.each_cell };
      rules = rules;
    }))))

within_any : (slots : List ℕ) (tn : ℕ) → All (λ n. n ≤ 7) slots → list_any (λ n. n == tn) slots ≡ true → tn < timeslots_of_trx
within_any [] tn limits named = absurd (false≢true named)
within_any (n ∷ slots) tn limits named =
    let here : n ≤ 7 = All-head (λ n. n ≤ 7) n slots limits in
    elim (cases_Bool (n == tn)) [
      | inl same ↦ grind (arith, nat_tests)
      | inr other ↦ within_any slots tn (All-tail (λ n. n ≤ 7) n slots limits) (rw other at named)
    ]

-- timeslots that carry traffic, as a whole or as halves, are a TRX's
pub small_slots : (sub : Sub) (t : TrxView) → All (IsAllowed key.Tch) t.tch → All (IsHalf t.tch) t.half → All (λ n. n ≤ 7) (slots_with sub t)
small_slots Full t slots halves = λ i x within. (slots i x within).1
small_slots Half0 t slots halves = λ i x within. (halves i x within).range.1
small_slots Half1 t slots halves = λ i x within. (halves i x within).range.1

pub got : {A : Type 0} (P : A → Type 0) (xs : List A) (i : ℕ) (x : A) → All P xs → slice_get xs i ≡ Some x → P x
got P xs i x all at =
    let within = slice_get_within xs i x at in
    let same : get_or xs i x ≡ x = same_Some (get_or xs i x) x (sym (slice_get-get_or xs i x within) ∙ at) in
    subst P same (all i x within)

trx_traffic : (cell : CellView) (trx tn : ℕ) (sub : Sub) (found : Option TrxView) → slice_get cell.trx trx ≡ found → IsCell cell
    → list_any (λ n. n == tn) (unwrap_or (option_map (slots_with sub) found) []) ≡ true → (trx < 4) × (tn < 8)
trx_traffic cell trx tn sub None at limits named = absurd (false≢true named)
trx_traffic cell trx tn sub (Some t) at limits named =
    let within = slice_get_within cell.trx trx t at in
    let few = limits.trx_count.1 in
    let slots = got (λ (t : TrxView). All (IsAllowed key.Tch) t.tch) cell.trx trx t limits.slots at in
    let halves = got (λ (t : TrxView). All (IsHalf t.tch) t.half) cell.trx trx t limits.halves at in
    (omega (arith, within, few), within_any (slots_with sub t) tn (small_slots sub t slots halves) named)

cell_traffic : (site : SiteView) (chan : ChanId) (cell : Option CellView) → slice_get site.cells chan.cell ≡ cell → IsSite site
    → list_any (λ n. n == chan.tn) (unwrap_or (option_map (slots_with chan.sub) (option_and_then (λ c. slice_get c.trx chan.trx) cell)) []) ≡ true → IsWithinLimits chan
cell_traffic site chan None at limits named = absurd (false≢true named)
cell_traffic site chan (Some cell) at limits named =
    let within = slice_get_within site.cells chan.cell cell at in
    let few = limits.within.cell_count.1 in
    let (trx, timeslot) = trx_traffic cell chan.trx chan.tn chan.sub (slice_get cell.trx chan.trx) refl (got IsCell site.cells chan.cell cell limits.within.each_cell at) named in
    record { cell = omega (arith, within, few); trx = trx; timeslot = timeslot }

-- a traffic channel of a site lies within the limits
pub traffic_limits : (site : SiteView) (chan : ChanId) → IsSite site → is_traffic site chan ≡ true → IsWithinLimits chan
traffic_limits site chan limits named = cell_traffic site chan (slice_get site.cells chan.cell) refl limits named
