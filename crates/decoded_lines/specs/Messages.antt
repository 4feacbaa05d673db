-- The links, and which octets are messages of theirs. A text is the list of its bytes.
use Rattle.std.specs.Prelude.{ℕ, List, codes}
use Rattle.rr_messages.specs.declared.message.Rr.{Rr}
use Rattle.rr_messages.specs.Rr.{IsRrText}
use Rattle.rsl_messages.specs.declared.message.Rsl.{Rsl}
use Rattle.rsl_messages.specs.Texts.{IsTextOf}
use Rattle.bssmap_messages.specs.declared.message.Bssmap.{Bssmap}
use Rattle.bssmap_messages.specs.Texts as bssmap
use Rattle.explanations.specs.declared.link.LinkName.{LinkName}
use Rattle.explanations.specs.declared.link.LinkName.TheVariants as link

-- how a link is called
abbrev pub link_name : LinkName → List ℕ
link_name link.Rr = codes "rr"
link_name link.A = codes "a"
link_name link.Abis = codes "abis"

-- the octets are a text of a radio resource message (TS 44.018 section 9.1)
abbrev pub IsRrMessage : List ℕ → Type 0
IsRrMessage octets = (v : Rr) × IsRrText v octets

-- the octets are a text of a message on A (TS 48.008 clause 3.2)
abbrev pub IsBssmapMessage : (A : Type 0) → List ℕ → Type 0
IsBssmapMessage A octets = (v : Bssmap A) × bssmap.IsTextOf v octets

-- the octets are a text of a message on Abis (TS 48.058 clause 8)
abbrev pub IsAbisMessage : (A : Type 0) → List ℕ → Type 0
IsAbisMessage A octets = (v : Rsl A) × IsTextOf v octets

-- the octets are a text of a message of the link
abbrev pub IsMessage : (A : Type 0) → LinkName → List ℕ → Type 0
IsMessage A link.Rr octets = IsRrMessage octets
IsMessage A link.A octets = IsBssmapMessage A octets
IsMessage A link.Abis octets = IsAbisMessage A octets
