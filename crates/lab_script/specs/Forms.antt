-- The forms of lines: what the first word is, and those behind it. Ours, of no standard.
use Rattle.std.specs.Prelude.{ℕ, Bool, true, false, List, [], ◌∷◌, codes, if◌then◌else◌, find, Option, option_map, is_some, bytes_eq}
use Rattle.std.specs.Option.{option_or}
use Rattle.lab_script.specs.declared.forms.Slot.{Slot}
use Rattle.lab_script.specs.declared.forms.Slot.TheVariants as slot
use Rattle.lab_script.specs.declared.forms.Form.{Form}
use Rattle.lab_script.specs.declared.forms.Form.TheVariants as form
use Rattle.lab_script.specs.Words.{number_below, timeslot_of, abis_octets, a_octets, timer_of, rate_of, habit_of, count_of, whom_of, held_of, answer_of, is_of_call, has_second, has_fourth}
use Rattle.lab_script.specs.Reports.{report_of}

-- a slot takes the rest of its line
abbrev pub takes_rest : Slot → Bool
takes_rest slot.Call = false
takes_rest slot.Cell = false
takes_rest slot.Trx = false
takes_rest slot.Timeslot = false
takes_rest slot.OnAbis = true
takes_rest slot.OnA = true
takes_rest slot.Timer = false
takes_rest slot.Rate = false
takes_rest slot.Habit = false
takes_rest slot.Count = false
takes_rest slot.Whom = false
takes_rest slot.Held = false
takes_rest slot.Answer = false
takes_rest slot.Fields = true

-- a word, or the rest of a line, may stand in a slot
abbrev pub fits : Slot → List ℕ → Bool
fits slot.Call word = is_some (number_below 65536 word)
fits slot.Cell word = is_some (number_below 256 word)
fits slot.Trx word = is_some (number_below 256 word)
fits slot.Timeslot word = is_some (timeslot_of word)
fits slot.OnAbis word = is_some (abis_octets word)
fits slot.OnA word = is_some (a_octets word)
fits slot.Timer word = is_some (timer_of word)
fits slot.Rate word = is_some (rate_of word)
fits slot.Habit word = is_some (habit_of word)
fits slot.Count word = is_some (count_of word)
fits slot.Whom word = is_some (whom_of word)
fits slot.Held word = is_some (held_of word)
fits slot.Answer word = is_some (answer_of word)
fits slot.Fields word = is_some (report_of word)

-- the first word of a line of this form
abbrev pub keyword : Form → List ℕ
keyword form.Open = codes "open"
keyword form.Seize = codes "seize"
keyword form.Handover = codes "handover"
keyword form.Undo = codes "undo"
keyword form.Clear = codes "clear"
keyword form.Expire = codes "expire"
keyword form.Abis = codes "abis"
keyword form.A = codes "a"
keyword form.Sim = codes "sim"
keyword form.Refuse = codes "refuse"
keyword form.Hold = codes "hold"
keyword form.Let = codes "let"
keyword form.Mobile = codes "mobile"
keyword form.Double = codes "double"
keyword form.Cut = codes "cut"
keyword form.HangUp = codes "hangup"
keyword form.Report = codes "report"
keyword form.Answer = codes "answer"
keyword form.HoldAnswer = codes "hold"
keyword form.MobileOf = codes "mobile"
keyword form.Restart = codes "restart"
keyword form.RestartTrx = codes "restart"

-- the forms of lines of an operator, of a timer and of messages
abbrev pub input_forms : List Form
input_forms = form.Open ∷ form.Seize ∷ form.Handover ∷ form.Undo ∷ form.Clear ∷ form.Expire ∷ form.Abis ∷ form.A ∷ form.Report ∷ form.Answer ∷ []

-- and of what is simulated
abbrev pub simulated_forms : List Form
simulated_forms = form.Sim ∷ form.Refuse ∷ form.Hold ∷ form.Let ∷ form.Mobile ∷ form.Double ∷ form.Cut ∷ form.Restart ∷ form.HangUp ∷ []

-- the one of some forms that has this keyword
abbrev pub form_among : List Form → List ℕ → Option Form
form_among forms word = find (λ form. bytes_eq word (keyword form)) forms

-- the form of a line by its first word
unfoldable pub form_named : List ℕ → Option Form
form_named word = option_or (form_among input_forms word) (form_among simulated_forms word)

-- of two forms with one first word the first
abbrev pub first_with : Form → Form
first_with form.Open = form.Open
first_with form.Seize = form.Seize
first_with form.Handover = form.Handover
first_with form.Undo = form.Undo
first_with form.Clear = form.Clear
first_with form.Expire = form.Expire
first_with form.Abis = form.Abis
first_with form.A = form.A
first_with form.Sim = form.Sim
first_with form.Refuse = form.Refuse
first_with form.Hold = form.Hold
first_with form.Let = form.Let
first_with form.Mobile = form.Mobile
first_with form.Double = form.Double
first_with form.Cut = form.Cut
first_with form.HangUp = form.HangUp
first_with form.Report = form.Report
first_with form.Answer = form.Answer
first_with form.HoldAnswer = form.Hold
first_with form.MobileOf = form.Mobile
first_with form.Restart = form.Restart
first_with form.RestartTrx = form.Restart

-- the form of a line that goes on so, of two with one first word
abbrev pub going_on : Option (List ℕ) → Form → Form
going_on rest form.Hold = if has_fourth rest then form.HoldAnswer else form.Hold
going_on rest form.Mobile = if is_of_call rest then form.MobileOf else form.Mobile
going_on rest form.Restart = if has_second rest then form.RestartTrx else form.Restart
going_on rest other = other

-- the form of a line by its first word, and by what stands behind that
abbrev pub form_of : List ℕ → Option (List ℕ) → Option Form
form_of word rest = option_map (going_on rest) (form_named word)

-- what the words behind the first are
abbrev pub slots_of : Form → List Slot
slots_of form.Open = slot.Call ∷ slot.Cell ∷ slot.Trx ∷ slot.Timeslot ∷ []
slots_of form.Seize = slot.Call ∷ slot.Cell ∷ slot.Rate ∷ []
slots_of form.Handover = slot.Call ∷ slot.Cell ∷ []
slots_of form.Undo = slot.Call ∷ []
slots_of form.Clear = slot.Call ∷ []
slots_of form.Expire = slot.Call ∷ slot.Timer ∷ []
slots_of form.Abis = slot.Cell ∷ slot.Trx ∷ slot.OnAbis ∷ []
slots_of form.A = slot.Call ∷ slot.OnA ∷ []
slots_of form.Sim = []
slots_of form.Refuse = slot.Cell ∷ slot.Trx ∷ slot.Timeslot ∷ []
slots_of form.Hold = slot.Cell ∷ slot.Trx ∷ slot.Timeslot ∷ []
slots_of form.Let = slot.Cell ∷ slot.Trx ∷ slot.Timeslot ∷ []
slots_of form.Mobile = slot.Cell ∷ slot.Trx ∷ slot.Timeslot ∷ slot.Habit ∷ []
slots_of form.Double = slot.Cell ∷ slot.Trx ∷ slot.Timeslot ∷ []
slots_of form.Cut = slot.Cell ∷ slot.Trx ∷ slot.Timeslot ∷ slot.Count ∷ []
slots_of form.HangUp = slot.Call ∷ []
slots_of form.Report = slot.Whom ∷ slot.Fields ∷ []
slots_of form.Answer = slot.Call ∷ slot.Answer ∷ []
slots_of form.HoldAnswer = slot.Cell ∷ slot.Trx ∷ slot.Timeslot ∷ slot.Held ∷ []
slots_of form.MobileOf = slot.Call ∷ slot.Habit ∷ []
slots_of form.Restart = slot.Cell ∷ []
slots_of form.RestartTrx = slot.Cell ∷ slot.Trx ∷ []

-- a line of this form asks something of what is simulated
abbrev pub needs_sim : Form → Bool
needs_sim form.Open = false
needs_sim form.Seize = false
needs_sim form.Handover = false
needs_sim form.Undo = false
needs_sim form.Clear = false
needs_sim form.Expire = false
needs_sim form.Abis = false
needs_sim form.A = false
needs_sim form.Sim = false
needs_sim form.Refuse = true
needs_sim form.Hold = true
needs_sim form.Let = true
needs_sim form.Mobile = true
needs_sim form.Double = true
needs_sim form.Cut = true
needs_sim form.HangUp = true
needs_sim form.Report = false
needs_sim form.Answer = false
needs_sim form.HoldAnswer = true
needs_sim form.MobileOf = true
needs_sim form.Restart = true
needs_sim form.RestartTrx = true
