-- What the value of an element says, and how it is written, alike on Abis (TS 48.058 clause 9.3) and on A
-- (TS 48.008 clause 3.2.2).
use Rattle.std.specs.Prelude.{◌≡◌, ℕ, ◌+◌, ◌*◌, ◌/◌, ◌%◌, Bool, true, false, List, [], ◌∷◌, Option, Some, None, Result, Ok, Err, IfOk, IfErr}
use Rattle.std.specs.Borrow.{Bor}
use Rattle.std.specs.Option.{option_map}
use Rattle.octet_elements.specs.Elements.{Element}
use Rattle.octet_elements.specs.declared.values.ValueFault.{ValueFault}
use Rattle.octet_elements.specs.declared.values.ValueFault.TheVariants.{Absent, Bad}

-- a value that is passed by reference
abbrev pub value_seen : Option (Bor (List ℕ)) → Option (List ℕ)
value_seen value = option_map (λ v. v.now) value

-- what is read without being copied is what the value says, or the fault is
pub record Gives {V W F : Type 0} (result : Result V F) (seen : V → W) (said : Result W F) : Type 0 where
  pub ok : IfOk result (λ v. said ≡ Ok (seen v))
  pub err : IfErr result (λ e. said ≡ Err e)

-- the value's first octet
abbrev pub octet_in : ℕ → Option (List ℕ) → Result ℕ ValueFault
octet_in i None = Err (Absent i)
octet_in i (Some []) = Err (Bad i)
octet_in i (Some (octet ∷ v)) = Ok octet

-- the value's first octet, where the element is there
abbrev pub optional_octet_in : ℕ → Option (List ℕ) → Result (Option ℕ) ValueFault
optional_octet_in i None = Ok None
optional_octet_in i (Some []) = Err (Bad i)
optional_octet_in i (Some (octet ∷ v)) = Ok (Some octet)

-- a number of two octets, the high one first
abbrev pub u16_of : ℕ → ℕ → ℕ
u16_of high low = 256 * high + low

-- the value's first two octets, a number with the high one first
abbrev pub u16_be_in : ℕ → Option (List ℕ) → Result ℕ ValueFault
u16_be_in i None = Err (Absent i)
u16_be_in i (Some []) = Err (Bad i)
u16_be_in i (Some (high ∷ [])) = Err (Bad i)
u16_be_in i (Some (high ∷ low ∷ v)) = Ok (u16_of high low)

abbrev pub u16_octets : ℕ → List ℕ
u16_octets n = n / 256 ∷ n % 256 ∷ []

-- the whole value, which has at least one octet
abbrev pub octets_in : ℕ → Option (List ℕ) → Result (List ℕ) ValueFault
octets_in i None = Err (Absent i)
octets_in i (Some []) = Err (Bad i)
octets_in i (Some (octet ∷ v)) = Ok (octet ∷ v)

-- the whole value, which has at least one octet, where the element is there
abbrev pub optional_octets_in : ℕ → Option (List ℕ) → Result (Option (List ℕ)) ValueFault
optional_octets_in i None = Ok None
optional_octets_in i (Some []) = Err (Bad i)
optional_octets_in i (Some (octet ∷ v)) = Ok (Some (octet ∷ v))

-- the whole value, which may be empty
abbrev pub any_octets_in : ℕ → Option (List ℕ) → Result (List ℕ) ValueFault
any_octets_in i None = Err (Absent i)
any_octets_in i (Some v) = Ok v

-- an element that is written where there is an octet for it
abbrev pub where_some : ℕ → Option ℕ → List Element
where_some i None = []
where_some i (Some octet) = (i, octet ∷ []) ∷ []

-- an element that is written where there is a value for it
abbrev pub where_value : ℕ → Option (List ℕ) → List Element
where_value i None = []
where_value i (Some v) = (i, v) ∷ []

-- an element without a value that is written where it is asked for
abbrev pub where_true : ℕ → Bool → List Element
where_true i true = (i, []) ∷ []
where_true i false = []
