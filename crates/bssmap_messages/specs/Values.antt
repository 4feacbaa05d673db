-- What the value of an element says, how it is written, and its row in a message (TS 48.008 clause 3.2.2).
use Rattle.std.specs.Prelude.{ℕ, ◌%◌, if◌then◌else◌, ◌==◌, List, [], ◌∷◌, ◌++◌, Option, Some, None, flat_map, length, unwrap_or, Result, Ok, Err}
use Rattle.std.specs.Option.{option_map}
use Rattle.octet_elements.specs.Elements.{Element}
use Rattle.octet_elements.specs.Rows.{Row}
use Rattle.octet_elements.specs.Values.{u16_of, u16_octets}
use Rattle.octet_elements.specs.declared.values.ValueFault.{ValueFault}
use Rattle.octet_elements.specs.declared.values.ValueFault.TheVariants.{Absent, Bad}
use Rattle.bssmap_messages.specs.declared.message.CellId.{CellId}
use Rattle.bssmap_messages.specs.declared.message.Classmark.{Classmark}
use Rattle.bssmap_messages.specs.declared.message.Classmark.TheVariants.{One, Two}
use Rattle.bssmap_messages.specs.declared.values.ClassmarkValue.{ClassmarkValue}
use Rattle.bssmap_messages.specs.declared.values.ClassmarkValue.TheVariants as in_octets
use Rattle.bssmap_messages.specs.declared.fault.BssmapFault.{BssmapFault}
use Rattle.bssmap_messages.specs.declared.fault.BssmapFault.TheVariants.{Missing, BadElement}
use Rattle.bssmap_messages.specs.Forms.{CELL_IDENTIFIER, CHANNEL_TYPE, CLASSMARK_2, CELL_IDENTIFIER_LIST, CLASSMARK_1}

-- the fault that a message has by its element
abbrev pub fault_of : ValueFault → BssmapFault
fault_of (Absent i) = Missing i
fault_of (Bad i) = BadElement i

-- Channel type (clause 3.2.2.11): at least two octets.
abbrev pub channel_type_in : Option (List ℕ) → Result (List ℕ) ValueFault
channel_type_in None = Err (Absent CHANNEL_TYPE)
channel_type_in (Some []) = Err (Bad CHANNEL_TYPE)
channel_type_in (Some (octet ∷ [])) = Err (Bad CHANNEL_TYPE)
channel_type_in (Some (first ∷ second ∷ v)) = Ok (first ∷ second ∷ v)

-- Classmark information type 1 (clause 3.2.2.30) counts where it is there; else type 2 (clause
-- 3.2.2.19), which may be empty. It is type 2 that is missing where there is neither.
abbrev pub classmark_in : {A : Type 0} → Option (List ℕ) → Option (List ℕ) → Result (Classmark A) ValueFault
classmark_in (Some (octet ∷ v)) two = Ok (One octet)
classmark_in (Some []) two = Err (Bad CLASSMARK_1)
classmark_in None (Some v) = Ok (Two v)
classmark_in None None = Err (Absent CLASSMARK_2)

-- a classmark in the octets of a message, with octets of its own
abbrev pub kept_classmark : {A : Type 0} → ClassmarkValue → Classmark A
kept_classmark (in_octets.One octet) = One octet
kept_classmark (in_octets.Two v) = Two v.now

-- Cells one after the other, up to the end of the octets: those that have a mobile country and network code of three
-- octets, which isn't kept, location area code and cell identity; those that have the last two; those that have the cell
-- identity alone.
abbrev pub area_and_cell : ℕ → ℕ → ℕ → ℕ → CellId
area_and_cell a b c d = record { lac = Some (u16_of a b); ci = u16_of c d }

abbrev pub cell_alone : ℕ → ℕ → CellId
cell_alone a b = record { lac = None; ci = u16_of a b }

abbrev pub cells_with_network : List ℕ → Option (List CellId)
cells_with_network [] = Some []
cells_with_network (x ∷ y ∷ z ∷ a ∷ b ∷ c ∷ d ∷ v) = option_map (λ cells. area_and_cell a b c d ∷ cells) (cells_with_network v)
cells_with_network _ = None

abbrev pub cells_with_area : List ℕ → Option (List CellId)
cells_with_area [] = Some []
cells_with_area (a ∷ b ∷ c ∷ d ∷ v) = option_map (λ cells. area_and_cell a b c d ∷ cells) (cells_with_area v)
cells_with_area _ = None

abbrev pub cells_alone : List ℕ → Option (List CellId)
cells_alone [] = Some []
cells_alone (a ∷ b ∷ v) = option_map (λ cells. cell_alone a b ∷ cells) (cells_alone v)
cells_alone _ = None

-- The low four bits of the discriminator say which of these octets are (clause 3.2.2.17): 0, 1 and 2 in this order.
abbrev pub cells_of_form : ℕ → List ℕ → Option (List CellId)
cells_of_form form [] = Some []
cells_of_form form (octet ∷ v) = if form == 0 then cells_with_network (octet ∷ v) else if form == 1 then cells_with_area (octet ∷ v) else if form == 2 then cells_alone (octet ∷ v) else None

abbrev pub cells_after : ℕ → List ℕ → Option (List CellId)
cells_after d v = cells_of_form (d % 16) v

-- exactly one cell
abbrev pub only_cell : Option (List CellId) → Result CellId ValueFault
only_cell (Some (cell ∷ [])) = Ok cell
only_cell _ = Err (Bad CELL_IDENTIFIER)

-- at least one cell
abbrev pub some_cells : Option (List CellId) → Result (List CellId) ValueFault
some_cells (Some (cell ∷ cells)) = Ok (cell ∷ cells)
some_cells _ = Err (Bad CELL_IDENTIFIER_LIST)

-- Cell Identifier (clause 3.2.2.17): the discriminator and one cell.
abbrev pub cell_in : Option (List ℕ) → Result CellId ValueFault
cell_in None = Err (Absent CELL_IDENTIFIER)
cell_in (Some []) = Err (Bad CELL_IDENTIFIER)
cell_in (Some (d ∷ v)) = only_cell (cells_after d v)

-- Cell Identifier List (clause 3.2.2.27): the discriminator once, and cells.
abbrev pub cells_in : Option (List ℕ) → Result (List CellId) ValueFault
cells_in None = Err (Absent CELL_IDENTIFIER_LIST)
cells_in (Some []) = Err (Bad CELL_IDENTIFIER_LIST)
cells_in (Some (d ∷ v)) = some_cells (cells_after d v)

-- A cell is written with discriminator 1, by location area code and cell identity. What stands for a cell
-- without a location area code is read as another cell.
abbrev pub cell_octets : CellId → List ℕ
cell_octets cell = u16_octets (unwrap_or cell.lac 0) ++ u16_octets cell.ci

abbrev pub cell_value : CellId → List ℕ
cell_value cell = 1 ∷ cell_octets cell

abbrev pub cells_value : List CellId → List ℕ
cells_value cells = 1 ∷ flat_map cell_octets cells

-- the element of a classmark
abbrev pub classmark_element : {A : Type 0} → Classmark A → Element
classmark_element (One octet) = (CLASSMARK_1, octet ∷ [])
classmark_element (Two v) = (CLASSMARK_2, v)

-- how many octets are kept of it in a list
abbrev pub classmark_length : {A : Type 0} → Classmark A → ℕ
classmark_length (One octet) = 0
classmark_length (Two v) = length v

-- mandatory: the channel type
abbrev pub channel_type : Row (List ℕ)
channel_type = record { read = λ found. channel_type_in (found.first CHANNEL_TYPE); written = λ channel. (CHANNEL_TYPE, channel) ∷ [] }

-- mandatory: classmark information 1 or 2
abbrev pub classmark_information : {A : Type 0} → Row (Classmark A)
classmark_information = record { read = λ found. classmark_in (found.first CLASSMARK_1) (found.first CLASSMARK_2); written = λ classmark. classmark_element classmark ∷ [] }

-- mandatory: the first cell identifier
abbrev pub cell_identifier : Row CellId
cell_identifier = record { read = λ found. cell_in (found.first CELL_IDENTIFIER); written = λ cell. (CELL_IDENTIFIER, cell_value cell) ∷ [] }

-- mandatory: the second cell identifier
abbrev pub second_cell_identifier : Row CellId
second_cell_identifier = record { read = λ found. cell_in (found.second CELL_IDENTIFIER); written = λ cell. (CELL_IDENTIFIER, cell_value cell) ∷ [] }

-- mandatory: the cell identifier list
abbrev pub cell_identifier_list : Row (List CellId)
cell_identifier_list = record { read = λ found. cells_in (found.first CELL_IDENTIFIER_LIST); written = λ cells. (CELL_IDENTIFIER_LIST, cells_value cells) ∷ [] }
