-- What a line says, by its form and its words.
use Rattle.std.specs.Prelude.{ℕ, Bool, true, false, List, Option, Some, None, option_map, option_and_then}
use Rattle.channel_fsm.specs.declared.ChanId.{ChanId}
use Rattle.timeslots.specs.declared.Rate.{Rate}
use Rattle.attempt_journal.specs.declared.Timer.{Timer}
use Rattle.bts_model.specs.declared.setting.Act.{Act}
use Rattle.bts_model.specs.declared.setting.Act.TheVariants as act
use Rattle.bts_model.specs.declared.setting.Habit.{Habit}
use Rattle.bts_model.specs.declared.setting.Held.TheVariants as held
use Rattle.bts_model.specs.declared.answer.Answer.{Answer}
use Rattle.bts_model.specs.Settings.{setting_of}
use Rattle.exchange.specs.declared.Line.TheVariants as line
use Rattle.exchange.specs.declared.Inbound.TheVariants as inbound
use Rattle.lab_script.specs.declared.asked.Whom.{Whom}
use Rattle.lab_script.specs.declared.asked.Report.{Report}
use Rattle.lab_script.specs.declared.asked.Asked.TheVariants as asked
use Rattle.lab_script.specs.declared.side.Side.{Side}
use Rattle.lab_script.specs.declared.forms.Form.{Form}
use Rattle.lab_script.specs.declared.forms.Form.TheVariants as form
use Rattle.lab_script.specs.declared.values.Values.{Values}
use Rattle.lab_script.specs.declared.said.Said.{Said}
use Rattle.lab_script.specs.declared.said.Said.TheVariants.{Operator, Expiry, Abis, A, Set, HangUp, Ask, MobileOf, Restart}
use Rattle.lab_script.specs.declared.script.Given.{Given}
use Rattle.lab_script.specs.declared.script.Given.TheVariants as gives
use Rattle.lab_script.specs.Sides.{number_of, side_of, text_of}
use Rattle.lab_script.specs.Words.{first_word, behind_word, abis_octets, a_octets}
use Rattle.lab_script.specs.Reports.{report_of}
use Rattle.lab_script.specs.Forms.{form_of, slots_of}
use Rattle.lab_script.specs.Values.{values_of, channel_in}

abbrev pub open_at : Option ℕ → Option ChanId → Option Said
open_at (Some call) (Some chan) = Some (Operator (line.Open call chan))
open_at call chan = None

abbrev pub seize_at : Option ℕ → Option ℕ → Option Rate → Option Said
seize_at (Some call) (Some cell) (Some rate) = Some (Operator (line.Seize call cell rate))
seize_at call cell rate = None

abbrev pub handover_at : Option ℕ → Option ℕ → Option Said
handover_at (Some call) (Some cell) = Some (Operator (line.Handover call cell))
handover_at call cell = None

abbrev pub expiry_at : Option ℕ → Option Timer → Option Said
expiry_at (Some call) (Some timer) = Some (Expiry call timer)
expiry_at call timer = None

abbrev pub abis_at : Option ℕ → Option ℕ → Option Said
abis_at (Some cell) (Some trx) = Some (Abis cell trx)
abis_at cell trx = None

-- an act at a channel of a controller
abbrev pub set_at : Side → Option ChanId → Act → Option Said
set_at side (Some x) act = Some (Set (setting_of (number_of side) x act))
set_at side None act = None

abbrev pub set : Side → Values → Act → Option Said
set side v act = set_at side (channel_in v) act

abbrev pub report_at : Option Whom → Option Report → Option Said
report_at (Some whom) (Some report) = Some (Ask (asked.Report whom report))
report_at whom report = None

abbrev pub answer_at : Option ℕ → Option Answer → Option Said
answer_at (Some call) (Some answer) = Some (Ask (asked.Answer call answer))
answer_at call answer = None

abbrev pub mobile_at : Option ℕ → Option Habit → Option Said
mobile_at (Some call) (Some habit) = Some (MobileOf call habit)
mobile_at call habit = None

-- stations of a controller restart: those of all TRX of a cell, or of one TRX
abbrev pub restart_at : Side → Option ℕ → Option Said
restart_at side (Some cell) = Some (Restart (record { controller = number_of side; cell = cell; trx = None }))
restart_at side None = None

abbrev pub restart_trx_at : Side → Option ℕ → Option ℕ → Option Said
restart_trx_at side (Some cell) (Some trx) = Some (Restart (record { controller = number_of side; cell = cell; trx = Some trx }))
restart_trx_at side cell trx = None

-- What a line of a form says to a controller, with what the last word took of the rest of the line. The one that attaches the simulators is for both: it says nothing to one.
abbrev pub said_of : Side → Form → Values → List ℕ → Option Said
said_of side form.Open v kept = open_at v.call (channel_in v)
said_of side form.Seize v kept = seize_at v.call v.cell v.rate
said_of side form.Handover v kept = handover_at v.call v.cell
said_of side form.Undo v kept = option_map (λ call. Operator (line.Undo call)) v.call
said_of side form.Clear v kept = option_map (λ call. Operator (line.Clear call)) v.call
said_of side form.Expire v kept = expiry_at v.call v.timer
said_of side form.Abis v kept = abis_at v.cell v.trx
said_of side form.A v kept = option_map A v.call
said_of side form.Sim v kept = None
said_of side form.Refuse v kept = set side v act.Refuse
said_of side form.Hold v kept = set side v (act.Hold held.Acknowledgement)
said_of side form.Let v kept = set side v act.Release
said_of side form.Mobile v kept = option_and_then (λ habit. set side v (act.Mobile habit)) v.habit
said_of side form.Double v kept = set side v act.Double
said_of side form.Cut v kept = option_and_then (λ count. set side v (act.Cut count)) v.count
said_of side form.HangUp v kept = option_map HangUp v.call
said_of side form.Report v kept = report_at v.whom (report_of kept)
said_of side form.Answer v kept = answer_at v.call v.answer
said_of side form.HoldAnswer v kept = option_and_then (λ held. set side v (act.Hold held)) v.held
said_of side form.MobileOf v kept = mobile_at v.call v.habit
said_of side form.Restart v kept = restart_at side v.cell
said_of side form.RestartTrx v kept = restart_trx_at side v.cell v.trx

-- and by what stands behind its first word, with its message as it stands there
unfoldable pub said_by : Side → Option (List ℕ) → Form → Option (Said × List ℕ)
said_by side rest form = option_and_then (λ r. option_map (λ s. (s, r.1)) (said_of side form r.0 r.1)) (values_of (slots_of form) rest)

-- by its text
abbrev pub text_said : Side → List ℕ → Option (Said × List ℕ)
text_said side text = option_and_then (said_by side (behind_word text)) (form_of (first_word text) (behind_word text))

-- what a line says
unfoldable pub line_said : List ℕ → Option (Said × List ℕ)
line_said line = text_said (side_of line) (text_of line)

-- it asks something of the simulators
abbrev pub needs_sim : Said → Bool
needs_sim (Operator line) = false
needs_sim (Expiry call timer) = false
needs_sim (Abis cell trx) = false
needs_sim (A call) = false
needs_sim (Set setting) = true
needs_sim (HangUp call) = true
needs_sim (Ask asked) = false
needs_sim (MobileOf call habit) = true
needs_sim (Restart restart) = true

-- what is given by it, with its message
abbrev pub given : {A : Type 0} → List ℕ → Said → Option (Given A)
given message (Operator line) = Some (gives.Input (inbound.Operator line))
given message (Expiry call timer) = Some (gives.Input (inbound.Expiry call timer))
given message (Abis cell trx) = option_map (λ octets. gives.Input (inbound.Abis cell trx octets)) (abis_octets message)
given message (A call) = option_map (λ octets. gives.Input (inbound.A call octets)) (a_octets message)
given message (Set setting) = Some (gives.Set setting)
given message (HangUp call) = Some (gives.HangUp call)
given message (Ask asked) = Some (gives.Ask asked)
given message (MobileOf call habit) = Some (gives.MobileOf call habit)
given message (Restart restart) = Some (gives.Restart restart)
