-- What stations keep back. Ours, of no standard.
use Rattle.std.specs.Prelude.{ℕ, Bool, true, false, ◌&&◌, not, if◌then◌else◌, List, filter, Option, Some, None, is_some, option_and_then}
use Rattle.std.specs.List.{position, filter_map}
use Rattle.bts_model.specs.declared.place.Place.{Place}
use Rattle.bts_model.specs.declared.answer.Answer.{Answer}
use Rattle.bts_model.specs.declared.answer.Answer.TheVariants.{ActivationAck, ActivationNack, ReleaseAck, Detection, Complete, Failure}
use Rattle.bts_model.specs.declared.setting.Held.{Held}
use Rattle.bts_model.specs.declared.setting.Held.TheVariants as held
use Rattle.bts_model.specs.declared.hold.Hold.{Hold}
use Rattle.bts_model.specs.Keys.{is_same_place}

-- which holds may keep an answer
abbrev pub kind_of : Answer → Option Held
kind_of ActivationAck = Some held.Acknowledgement
kind_of ActivationNack = None
kind_of ReleaseAck = Some held.Acknowledgement
kind_of Detection = Some held.Detection
kind_of Complete = Some held.Complete
kind_of Failure = None

abbrev pub is_kind : Held → Held → Bool
is_kind held.Acknowledgement held.Acknowledgement = true
is_kind held.Acknowledgement held.Detection = false
is_kind held.Acknowledgement held.Complete = false
is_kind held.Detection held.Acknowledgement = false
is_kind held.Detection held.Detection = true
is_kind held.Detection held.Complete = false
is_kind held.Complete held.Acknowledgement = false
is_kind held.Complete held.Detection = false
is_kind held.Complete held.Complete = true

-- a hold of the channel for this kind that has kept nothing yet
abbrev pub awaits : Place → Held → Hold → Bool
awaits x held h = is_same_place x h.place && (is_kind h.held held && not (is_some h.kept))

-- which hold keeps an answer: the first of the channel for its kind that has kept nothing
abbrev pub hold_of : List Hold → Place → Answer → Option ℕ
hold_of holds x answer = option_and_then (λ held. position (awaits x held) holds) (kind_of answer)

-- what a hold has kept, where it is one of the channel
abbrev pub kept_by : Place → Hold → Option Answer
kept_by x h = if is_same_place x h.place then h.kept else None

-- what the holds of a channel have kept, in the order of the holds
abbrev pub kept_of : Place → List Hold → List Answer
kept_of x holds = filter_map (kept_by x) holds

-- the holds of other channels
abbrev pub others : Place → List Hold → List Hold
others x holds = filter (λ h. not (is_same_place x h.place)) holds
