-- How an answer leaves its channel: a hold comes first, then a cut, then a doubling. Ours, of no standard.
use Rattle.std.specs.Prelude.{ℕ, if◌then◌else◌, List, [], ◌∷◌, ◌++◌, Option, Some, None, option_map, unwrap_or, slice_get, slice_set}
use Rattle.bts_model.specs.declared.place.Place.{Place}
use Rattle.bts_model.specs.declared.answer.Answer.{Answer}
use Rattle.bts_model.specs.declared.answer.Answer.TheVariants.{Detection, Complete}
use Rattle.bts_model.specs.declared.hold.Hold.{Hold}
use Rattle.bts_model.specs.declared.slots.Impairment.{Impairment}
use Rattle.bts_model.specs.declared.slots.Slot.{Slot}
use Rattle.bts_model.specs.Names.{bits_of}
use Rattle.bts_model.specs.World.{WorldState, slot_in, with_slot}
use Rattle.bts_model.specs.Answers.{octets_of}
use Rattle.bts_model.specs.Holds.{hold_of}
use Rattle.bts_model.specs.Impairments.{unimpaired, is_impaired, cut_to, once_or_twice}

-- the world after something, and what stations send: the channel that each message is about, and its octets
pub record Outcome : Type 0 where
  pub world : WorldState
  pub sent : List (Place × List ℕ)

abbrev pub silent : WorldState → Outcome
silent w = record { world = w; sent = [] }

-- what is sent about a channel that gives an answer: it is cut first, and doubled then
abbrev pub departed : Impairment → Place → Answer → List (Place × List ℕ)
departed i x answer = once_or_twice i.doubles (x, cut_to i.cut (octets_of (bits_of x.channel) answer))

-- what becomes of a channel then, where it changes: what befell the answer is used up
abbrev pub used_up : Slot → Option Slot
used_up slot = if is_impaired slot.impairment then Some (record slot { impairment = unimpaired }) else None

-- a hold has kept an answer
abbrev pub keeping : List Hold → ℕ → Answer → List Hold
keeping holds n answer = unwrap_or (option_map (λ h. slice_set holds n (record h { kept = Some answer })) (slice_get holds n)) holds

-- an answer is kept by a hold, where there is such a one
abbrev pub kept_in : List Hold → Option ℕ → Answer → List Hold
kept_in holds None answer = holds
kept_in holds (Some n) answer = keeping holds n answer

-- an answer is kept by this hold, or sent
abbrev pub kept_or_sent : WorldState → Place → Answer → Option ℕ → Outcome
kept_or_sent w x answer (Some n) = silent (record w { holds = keeping w.holds n answer })
kept_or_sent w x answer None = record { world = with_slot w x (used_up (slot_in w.slots x)); sent = departed (slot_in w.slots x).impairment x answer }

-- an answer about channel x leaves
abbrev pub leaves : WorldState → Place → Answer → Outcome
leaves w x answer = kept_or_sent w x answer (hold_of w.holds x answer)

-- what comes of two things, one after the other
abbrev pub followed : Outcome → Outcome → Outcome
followed o p = record { world = p.world; sent = o.sent ++ p.sent }

-- answers about channel x leave, one after the other
abbrev pub all_leave : WorldState → Place → List Answer → Outcome
all_leave w x [] = silent w
all_leave w x (answer ∷ answers) = followed (leaves w x answer) (all_leave (leaves w x answer).world x answers)

-- what departs where no hold keeps any: something befalls the first alone
abbrev pub all_departed : Impairment → Place → List Answer → List (Place × List ℕ)
all_departed i x [] = []
all_departed i x (answer ∷ answers) = departed i x answer ++ all_departed unimpaired x answers

abbrev pub slot_after : Slot → List Answer → Option Slot
slot_after slot [] = None
slot_after slot (answer ∷ answers) = used_up slot

abbrev pub all_sent : WorldState → Place → List Answer → Outcome
all_sent w x answers = record { world = with_slot w x (slot_after (slot_in w.slots x) answers); sent = all_departed (slot_in w.slots x).impairment x answers }

-- of what is heard of a mobile that came, what leaves, where these holds keep the one and the other
abbrev pub unkept : Option ℕ → Option ℕ → List Answer
unkept None None = Detection ∷ Complete ∷ []
unkept None (Some complete) = Detection ∷ []
unkept (Some detection) None = Complete ∷ []
unkept (Some detection) (Some complete) = []
