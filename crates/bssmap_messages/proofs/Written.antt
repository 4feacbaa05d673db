-- A message has a canonical text exactly where its fields can be said and the length octet can count them.
use Rattle.std.proofs.Common.{◌≡◌, ℕ, ◌+◌, ◌*◌, ◌<◌, ◌≤◌, ◌/◌, ◌%◌, ◌&&◌, List, [], ◌∷◌, length, length-append, flat_map, unwrap_or, Option, Some, None, Result, Ok, Err, refl, sym, ◌∙◌, ap, arith, Bool, true, false, IsSome}
use Rattle.std.specs.List.{list_all, AllByRecursion}
use Rattle.std.specs.Option.{option_map, is_some}
use Rattle.octet_elements.specs.declared.form.Form.{Form}
use Rattle.octet_elements.specs.declared.form.Form.TheVariants.{Fixed, Counted, LongCounted}
use Rattle.octet_elements.specs.Elements.{Element, Fits, FitsAs, all_octets, element_octets, octets_by_form}
use Rattle.octet_elements.proofs.Spelling.{IsFixedAs}
use Rattle.octet_elements.specs.Lookup.{values_in}
use Rattle.octet_elements.specs.Rows.{◌>>=◌}
use Rattle.octet_elements.specs.Values.{u16_of, octets_in}
use Rattle.octet_elements.specs.declared.values.ValueFault.{ValueFault}
use Rattle.octet_elements.proofs.Splits.{AreFixed}
use Rattle.octet_elements.proofs.Texts.{written_says}
use Rattle.bssmap_messages.specs.declared.message.CellId.{CellId}
use Rattle.bssmap_messages.specs.declared.message.Classmark.{Classmark}
use Rattle.bssmap_messages.specs.declared.message.Classmark.TheVariants.{One, Two}
use Rattle.bssmap_messages.specs.declared.message.Bssmap.{Bssmap}
use Rattle.bssmap_messages.specs.declared.message.Bssmap.TheVariants.{HandoverRequest, HandoverRequired, HandoverRequestAck, HandoverCommand, HandoverComplete, HandoverFailure, HandoverPerformed, HandoverRequiredReject, HandoverDetect, ClearCommand, ClearComplete, ClearRequest}
use Rattle.bssmap_messages.specs.Forms.{ENCRYPTION_INFORMATION, LAYER_3_INFORMATION}
use Rattle.bssmap_messages.specs.Forms.{interface_a}
use Rattle.bssmap_messages.specs.Heads.{limit, Carries}
use Rattle.bssmap_messages.specs.Messages.{said, value_of, type_of, kind_of, elements_of, CanBeSaid, handover_request, handover_required, layer_3_alone, handover_complete, handover_failure, handover_performed, cause_alone}
use Rattle.bssmap_messages.specs.Texts.{codec, HasCanonical, canonical_text, written_octets}
use Rattle.bssmap_messages.specs.Values.{channel_type_in, some_cells, cell_in, cells_in, cells_with_area, cell_octets, cell_value, cells_value}
use Rattle.bssmap_messages.proofs.ReadCells.{with_area}
use Rattle.bssmap_messages.proofs.Unique.{one_head}

-- each cell has a location area code
abbrev have_areas : List CellId → Bool
have_areas cells = list_all (λ cell. is_some cell.lac) cells

-- Each reader reads again what is written.
channel_again : (v : List ℕ) → 1 < length v → channel_type_in (Some v) ≡ Ok v
channel_again [] h = absurd (omega arith)
channel_again (octet ∷ []) h = absurd (omega arith)
channel_again (first ∷ second ∷ v) h = refl

octets_again : (i : ℕ) (v : List ℕ) → 0 < length v → octets_in i (Some v) ≡ Ok v
octets_again i [] h = absurd (omega arith)
octets_again i (octet ∷ v) h = refl

-- the cell that is read of what is written for a cell
abbrev area_again : CellId → CellId
area_again cell = record { lac = Some (u16_of (unwrap_or cell.lac 0 / 256) (unwrap_or cell.lac 0 % 256)); ci = u16_of (cell.ci / 256) (cell.ci % 256) }

same_cell : (o : Option ℕ) (ci : ℕ) → is_some o ≡ true → area_again (record { lac = o; ci = ci }) ≡ record { lac = o; ci = ci }
same_cell None ci h = absurd cc
same_cell (Some lac) ci h =
    let area : 256 * (lac / 256) + lac % 256 ≡ lac = omega arith in
    let cell : 256 * (ci / 256) + ci % 256 ≡ ci = omega arith in
    λ i. record { lac = Some (area i); ci = cell i }

cell_again : (cell : CellId) → IsSome cell.lac → cell_in (Some (cell_value cell)) ≡ Ok cell
cell_again cell h = ap Ok (same_cell cell.lac cell.ci h)

and_true : (a b : Bool) → (a && b) ≡ true → (a ≡ true) × (b ≡ true)
and_true true b h = (refl, h)
and_true false b h = absurd cc

areas_again : (cells : List CellId) → have_areas cells ≡ true → cells_with_area (flat_map cell_octets cells) ≡ Some cells
areas_again [] h = refl
areas_again (cell ∷ cells) h =
    let each = and_true (is_some cell.lac) (have_areas cells) h in
    ap (option_map (λ more. area_again cell ∷ more)) (areas_again cells each.1) ∙ ap (λ c. Some (c ∷ cells)) (same_cell cell.lac cell.ci each.0)

cells_again : (cells : List CellId) → 0 < length cells → have_areas cells ≡ true → cells_in (Some (cells_value cells)) ≡ Ok cells
cells_again cells some h = ap some_cells (with_area 1 (flat_map cell_octets cells) refl ∙ areas_again cells h) ∙ by_cells cells some
  where
    by_cells : (cells : List CellId) → 0 < length cells → some_cells (Some cells) ≡ Ok cells
    by_cells [] some = absurd (omega arith)
    by_cells (cell ∷ cells) some = refl

-- What reads again what was written, can be written.
channel_fits : (v w : List ℕ) → channel_type_in (Some v) ≡ Ok w → 1 < length v
channel_fits [] w h = absurd cc
channel_fits (octet ∷ []) w h = absurd cc
channel_fits (first ∷ second ∷ v) w h = omega arith

octets_fit : (i : ℕ) (v w : List ℕ) → octets_in i (Some v) ≡ Ok w → 0 < length v
octets_fit i [] w h = absurd cc
octets_fit i (octet ∷ v) w h = omega arith

cell_fits : (cell read : CellId) → cell_in (Some (cell_value cell)) ≡ Ok read → read ≡ cell → IsSome cell.lac
cell_fits cell read h same =
    let again : area_again cell ≡ read = cc in
    ap (λ c. is_some c.lac) (sym (again ∙ same))

areas_read : (cells : List CellId) → (read : List CellId) × (cells_with_area (flat_map cell_octets cells) ≡ Some read) × (have_areas read ≡ true)
areas_read [] = ([], refl, refl)
areas_read (cell ∷ cells) =
    let rest = areas_read cells in
    (area_again cell ∷ rest.0, ap (option_map (λ more. area_again cell ∷ more)) rest.1, rest.2)

cells_fit : (cells read : List CellId) → cells_in (Some (cells_value cells)) ≡ Ok read → read ≡ cells → (0 < length cells) × (have_areas cells ≡ true)
cells_fit cells read h same =
    let all = areas_read cells in
    by_cells all.0 all.2 (sym (ap some_cells (with_area 1 (flat_map cell_octets cells) refl ∙ all.1)) ∙ h ∙ ap Ok same)
  where
    by_cells : (found : List CellId) → have_areas found ≡ true → some_cells (Some found) ≡ Ok cells → (0 < length cells) × (have_areas cells ≡ true)
    by_cells [] areas is = absurd cc
    by_cells (cell ∷ more) areas is =
        let same : cell ∷ more ≡ cells = cc in
        let long : length (cell ∷ more) ≡ length cells = ap length same in
        (omega arith, ap have_areas (sym same) ∙ areas)

-- what is read is made of what its rows read
made : {X V : Type 0} (make : X → V) (r : Result X ValueFault) (v : V) → value_of make r ≡ Ok v → (x : X) × (r ≡ Ok x) × (make x ≡ v)
made make (Ok x) v h = (x, refl, cc)
made make (Err e) v h = absurd cc

-- one row and others: each reads what both read
also : {X Y : Type 0} → X → Result Y ValueFault → Result (X × Y) ValueFault
also {X} {Y} x q = ◌>>=◌ {B = X × Y} q (λ y. Ok (x, y))

both : {X Y : Type 0} (p : Result X ValueFault) (q : Result Y ValueFault) (x : X) (y : Y) → p ≡ Ok x → q ≡ Ok y → p >>= (λ x. also x q) ≡ Ok (x, y)
unfolding also
both p q x y h k = λ i. h i >>= λ x. also x (k i)

each : {X Y : Type 0} (p : Result X ValueFault) (q : Result Y ValueFault) (z : X × Y) → p >>= (λ x. also x q) ≡ Ok z → (p ≡ Ok z.0) × (q ≡ Ok z.1)
unfolding also
each (Ok x) (Ok y) z h = let same : (x, y) ≡ z = cc in (ap (λ w. Ok w.0) same, ap (λ w. Ok w.1) same)
each (Ok x) (Err e) z h = absurd cc
each (Err e) q z h = absurd cc

-- What can be said is said by the elements that are written.
pub said_again : {A : Type 0} (v : Bssmap A) → CanBeSaid v → said (kind_of v) (values_in (elements_of v)) ≡ Ok v
unfolding also handover_request handover_required layer_3_alone handover_complete handover_failure handover_performed cause_alone
said_again (HandoverRequest channel encryption (One octet) serving target) h = ap (value_of (λ (channel, (encryption, (classmark, (serving, target)))). HandoverRequest channel encryption classmark serving target)) (both _ _ _ _ (channel_again channel h.0) (both _ _ _ _ (octets_again ENCRYPTION_INFORMATION encryption h.1) (both _ _ _ _ refl (both _ _ _ _ (cell_again serving h.2) (cell_again target h.3)))))
said_again (HandoverRequest channel encryption (Two v) serving target) h = ap (value_of (λ (channel, (encryption, (classmark, (serving, target)))). HandoverRequest channel encryption classmark serving target)) (both _ _ _ _ (channel_again channel h.0) (both _ _ _ _ (octets_again ENCRYPTION_INFORMATION encryption h.1) (both _ _ _ _ refl (both _ _ _ _ (cell_again serving h.2) (cell_again target h.3)))))
said_again (HandoverRequired cause true cells) h = ap (value_of (λ (cause, (response, cells)). HandoverRequired cause response cells)) (both _ _ _ _ refl (both _ _ _ _ refl (cells_again cells h.0 h.1)))
said_again (HandoverRequired cause false cells) h = ap (value_of (λ (cause, (response, cells)). HandoverRequired cause response cells)) (both _ _ _ _ refl (both _ _ _ _ refl (cells_again cells h.0 h.1)))
said_again (HandoverRequestAck layer3) h = ap (value_of HandoverRequestAck) (octets_again LAYER_3_INFORMATION layer3 h)
said_again (HandoverCommand layer3) h = ap (value_of HandoverCommand) (octets_again LAYER_3_INFORMATION layer3 h)
said_again (HandoverComplete None) h = refl
said_again (HandoverComplete (Some rr)) h = refl
said_again (HandoverFailure cause None) h = refl
said_again (HandoverFailure cause (Some rr)) h = refl
said_again (HandoverPerformed cause cell) h = ap (value_of (λ (cause, cell). HandoverPerformed cause cell)) (both _ _ _ _ refl (cell_again cell h))
said_again (HandoverRequiredReject cause) h = refl
said_again HandoverDetect h = refl
said_again (ClearCommand cause) h = refl
said_again ClearComplete h = refl
said_again (ClearRequest cause) h = refl

-- the elements of a message have the lengths that their forms fix
fixed : {A : Type 0} (v : Bssmap A) → AreFixed interface_a (elements_of v)
unfolding handover_request handover_required layer_3_alone handover_complete handover_failure handover_performed cause_alone
fixed (HandoverRequest channel encryption (One octet) serving target) = (tt, (tt, (refl, (tt, (tt, tt)))))
fixed (HandoverRequest channel encryption (Two v) serving target) = (tt, (tt, (tt, (tt, (tt, tt)))))
fixed (HandoverRequired cause true cells) = (tt, (refl, (tt, tt)))
fixed (HandoverRequired cause false cells) = (tt, (tt, tt))
fixed (HandoverRequestAck layer3) = (tt, tt)
fixed (HandoverCommand layer3) = (tt, tt)
fixed (HandoverComplete None) = tt
fixed (HandoverComplete (Some rr)) = (refl, tt)
fixed (HandoverFailure cause None) = (tt, tt)
fixed (HandoverFailure cause (Some rr)) = (tt, (refl, tt))
fixed (HandoverPerformed cause cell) = (tt, (tt, tt))
fixed (HandoverRequiredReject cause) = (tt, tt)
fixed HandoverDetect = tt
fixed (ClearCommand cause) = (tt, tt)
fixed ClearComplete = tt
fixed (ClearRequest cause) = (tt, tt)

fits_as : (f : Form) (i : ℕ) (v : List ℕ) → IsFixedAs f v → length (octets_by_form f i v) < 256 → FitsAs f v
fits_as (Fixed n) i v is short = is
fits_as Counted i v is short = omega arith
fits_as LongCounted i v is short = omega arith

-- what is short enough for the length octet can be spelled
fit_in : (es : List Element) → AreFixed interface_a es → length (all_octets interface_a es) < 256 → AllByRecursion (Fits interface_a) es
fit_in [] fixed short = tt
fit_in (e ∷ es) fixed short =
    let long = length-append (element_octets interface_a e) (all_octets interface_a es) in
    (fits_as (interface_a e.0) e.0 e.1 fixed.0 (omega arith), fit_in es fixed.1 (omega arith))

-- What can be said and is short enough has a canonical text.
pub canonical_of : {A : Type 0} (v : Bssmap A) → said (kind_of v) (values_in (elements_of v)) ≡ Ok v → length (all_octets interface_a (elements_of v)) < limit → HasCanonical v
canonical_of v h short = record {
  kind = kind_of v;
  body = all_octets interface_a (elements_of v);
  head = record { framed = refl; some = omega arith; within = omega arith };
  says = record { elements = elements_of v; split = record { each = fit_in (elements_of v) (fixed v) (omega arith); spelling = refl }; says = h };
}

-- What has a canonical text is short enough, and said by its elements.
own_head : {A : Type 0} (v : Bssmap A) (h : HasCanonical v) → (h.kind ≡ kind_of v) × (h.body ≡ all_octets interface_a (elements_of v)) × (length (all_octets interface_a (elements_of v)) < limit)
own_head v h =
    let carried : written_octets v ≡ type_of h.kind ∷ h.body = let framed = h.head.framed in cc in
    let long : length (written_octets v) ≡ length (type_of h.kind ∷ h.body) = ap length carried in
    let within = h.head.within in
    let own : Carries (canonical_text v) (written_octets v) = record { framed = refl; some = omega arith; within = omega arith } in
    let same = one_head h.kind (kind_of v) (canonical_text v) h.body (all_octets interface_a (elements_of v)) h.head own in
    (same.0, same.1, omega arith)

pub short_of : {A : Type 0} (v : Bssmap A) → HasCanonical v → length (all_octets interface_a (elements_of v)) < limit
short_of v h = (own_head v h).2

pub own_said : {A : Type 0} (v : Bssmap A) → HasCanonical v → said (kind_of v) (values_in (elements_of v)) ≡ Ok v
own_said {A} v h = let own = own_head v h in (written_says (codec A) h.kind (kind_of v) h.body (elements_of v) v own.0 own.1 (fixed v) h.says).1

request_said : {A : Type 0} (channel encryption : List ℕ) (classmark : Classmark A) (serving target : CellId) (p q : Result (List ℕ) ValueFault) (r : Result (Classmark A) ValueFault) (s t : Result CellId ValueFault) → value_of (λ (channel, (encryption, (classmark, (serving, target)))). HandoverRequest channel encryption classmark serving target) (p >>= λ x. also x (q >>= λ x. also x (r >>= λ x. also x (s >>= λ x. also x t)))) ≡ Ok (HandoverRequest channel encryption classmark serving target) → (p ≡ Ok channel) × (q ≡ Ok encryption) × (s ≡ Ok serving) × (t ≡ Ok target)
unfolding also
request_said channel encryption classmark serving target (Ok a) (Ok b) (Ok c) (Ok d) (Ok e) h = (cc, cc, cc, cc)
request_said channel encryption classmark serving target (Ok a) (Ok b) (Ok c) (Ok d) (Err f) h = absurd cc
request_said channel encryption classmark serving target (Ok a) (Ok b) (Ok c) (Err f) t h = absurd cc
request_said channel encryption classmark serving target (Ok a) (Ok b) (Err f) s t h = absurd cc
request_said channel encryption classmark serving target (Ok a) (Err f) r s t h = absurd cc
request_said channel encryption classmark serving target (Err f) q r s t h = absurd cc

required_said : {A : Type 0} (cause : ℕ) (response : Bool) (cells : List CellId) (r : Result (List CellId) ValueFault) → r ≡ cells_in (Some (cells_value cells)) → value_of {V = Bssmap A} (λ (cause, (response, cells)). HandoverRequired cause response cells) (also cause (also response r)) ≡ Ok (HandoverRequired cause response cells) → CanBeSaid {A = A} (HandoverRequired cause response cells)
unfolding also
required_said cause response cells (Ok read) is h = cells_fit cells read (sym is) cc
required_said cause response cells (Err e) is h = absurd cc

performed_said : {A : Type 0} (cause : ℕ) (cell : CellId) (r : Result CellId ValueFault) → r ≡ cell_in (Some (cell_value cell)) → value_of {V = Bssmap A} (λ (cause, cell). HandoverPerformed cause cell) (also cause r) ≡ Ok (HandoverPerformed cause cell) → IsSome cell.lac
unfolding also
performed_said cause cell (Ok read) is h = cell_fits cell read (sym is) cc
performed_said cause cell (Err e) is h = absurd cc

pub can_be_said : {A : Type 0} (v : Bssmap A) → said (kind_of v) (values_in (elements_of v)) ≡ Ok v → CanBeSaid v
unfolding also handover_request handover_required layer_3_alone handover_complete handover_failure handover_performed cause_alone
can_be_said (HandoverRequest channel encryption (One octet) serving target) h =
    let each = request_said channel encryption (One octet) serving target (channel_type_in (Some channel)) (octets_in ENCRYPTION_INFORMATION (Some encryption)) (Ok (One octet)) (cell_in (Some (cell_value serving))) (cell_in (Some (cell_value target))) h in
    (channel_fits channel channel each.0, octets_fit ENCRYPTION_INFORMATION encryption encryption each.1, cell_fits serving serving each.2 refl, cell_fits target target each.3 refl)
can_be_said (HandoverRequest channel encryption (Two v) serving target) h =
    let each = request_said channel encryption (Two v) serving target (channel_type_in (Some channel)) (octets_in ENCRYPTION_INFORMATION (Some encryption)) (Ok (Two v)) (cell_in (Some (cell_value serving))) (cell_in (Some (cell_value target))) h in
    (channel_fits channel channel each.0, octets_fit ENCRYPTION_INFORMATION encryption encryption each.1, cell_fits serving serving each.2 refl, cell_fits target target each.3 refl)
can_be_said (HandoverRequired cause true cells) h = required_said cause true cells (cells_in (Some (cells_value cells))) refl h
can_be_said (HandoverRequired cause false cells) h = required_said cause false cells (cells_in (Some (cells_value cells))) refl h
can_be_said (HandoverRequestAck layer3) h = let read = made HandoverRequestAck (octets_in LAYER_3_INFORMATION (Some layer3)) (HandoverRequestAck layer3) h in octets_fit LAYER_3_INFORMATION layer3 read.0 read.1
can_be_said (HandoverCommand layer3) h = let read = made HandoverCommand (octets_in LAYER_3_INFORMATION (Some layer3)) (HandoverCommand layer3) h in octets_fit LAYER_3_INFORMATION layer3 read.0 read.1
can_be_said (HandoverComplete rr) h = tt
can_be_said (HandoverFailure cause rr) h = tt
can_be_said {A} (HandoverPerformed cause cell) h = performed_said cause cell (cell_in (Some (cell_value cell))) refl h
can_be_said (HandoverRequiredReject cause) h = tt
can_be_said HandoverDetect h = tt
can_be_said (ClearCommand cause) h = tt
can_be_said ClearComplete h = tt
can_be_said (ClearRequest cause) h = tt

-- What can be written has a canonical text, and has none else.
pub writable : {A : Type 0} (v : Bssmap A) → CanBeSaid v → length (written_octets v) ≤ limit → HasCanonical v
writable v can short = canonical_of v (said_again v can) (omega arith)

pub writable_of : {A : Type 0} (v : Bssmap A) → HasCanonical v → CanBeSaid v × (length (written_octets v) ≤ limit)
writable_of v h = let short = short_of v h in (can_be_said v (own_said v h), omega arith)
