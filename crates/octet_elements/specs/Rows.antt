-- The rows of a message's table: what the value of an element says, and how the element is written
-- (TS 48.058 clause 8, TS 48.008 clause 3.2.1).
use Rattle.std.specs.Prelude.{ℕ, Bool, List, [], ◌∷◌, ◌++◌, Option, is_some, Result, Ok, Err}
use Rattle.octet_elements.specs.Elements.{Element}
use Rattle.octet_elements.specs.Lookup.{Lookup}
use Rattle.octet_elements.specs.Values.{octet_in, optional_octet_in, u16_be_in, u16_octets, octets_in, optional_octets_in, any_octets_in, where_some, where_value, where_true}
use Rattle.octet_elements.specs.declared.values.ValueFault.{ValueFault}

infixl 10 ◌>>=◌
-- the next part is read from what was read before it: the first fault counts
abbrev pub ◌>>=◌ : {A B F : Type 0} → Result A F → (A → Result B F) → Result B F
(Ok x) >>= f = f x
(Err e) >>= f = Err e

-- one row, or some one after the other: what is read by the identifiers, and the elements that are written
pub record Row (X : Type 0) : Type 0 where
  pub read : Lookup → Result X ValueFault
  pub written : X → List Element

-- mandatory: the value's first octet, written as that octet
abbrev pub octet : ℕ → Row ℕ
octet i = record { read = λ found. octet_in i (found.first i); written = λ octet. (i, octet ∷ []) ∷ [] }

-- optional: the value's first octet, written as that octet
abbrev pub optional_octet : ℕ → Row (Option ℕ)
optional_octet i = record { read = λ found. optional_octet_in i (found.first i); written = λ octet. where_some i octet }

-- mandatory: a number of two octets, the high one first
abbrev pub u16_be : ℕ → Row ℕ
u16_be i = record { read = λ found. u16_be_in i (found.first i); written = λ number. (i, u16_octets number) ∷ [] }

-- mandatory: the whole value, at least one octet
abbrev pub octets : ℕ → Row (List ℕ)
octets i = record { read = λ found. octets_in i (found.first i); written = λ value. (i, value) ∷ [] }

-- optional: the whole value, at least one octet
abbrev pub optional_octets : ℕ → Row (Option (List ℕ))
optional_octets i = record { read = λ found. optional_octets_in i (found.first i); written = λ value. where_value i value }

-- mandatory: the whole value, which may be empty
abbrev pub any_octets : ℕ → Row (List ℕ)
any_octets i = record { read = λ found. any_octets_in i (found.first i); written = λ value. (i, value) ∷ [] }

-- optional: an identifier alone, which says that it is there
abbrev pub presence : ℕ → Row Bool
presence i = record { read = λ found. Ok (is_some (found.first i)); written = λ there. where_true i there }

infixr 5 ◌▸◌
-- A row and then others: the first fault counts, and they are written in this order.
abbrev pub ◌▸◌ : {X Y : Type 0} → Row X → Row Y → Row (X × Y)
a ▸ b = record {
  read = λ found. a.read found >>= λ x. b.read found >>= λ y. Ok (x, y);
  written = λ fields. a.written fields.0 ++ b.written fields.1;
}

-- What a codec's table has of a message: which one it is, its elements in the order in which they are written, whether
-- it keeps a list that isn't empty, for which reading it may ask for memory, and whether its fields can be said.
pub record Entry (Kind : Type 0) : Type 1 where
  pub kind : Kind
  pub elements : List Element
  pub Keeps : Type 0
  pub CanBeSaid : Type 0

abbrev pub entry : {Kind : Type 0} → Kind → List Element → Type 0 → Type 0 → Entry Kind
entry kind elements Keeps CanBeSaid = record { kind = kind; elements = elements; Keeps = Keeps; CanBeSaid = CanBeSaid }
