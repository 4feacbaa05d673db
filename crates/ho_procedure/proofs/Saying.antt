-- What one view says of what it is asked, where another says more.
use Rattle.std.proofs.Common.{◌≡◌, ◌++◌, ◌∷◌, [], List, Option, Some, None, Result, Ok, Err, IfOk, IfErr, MatchOption}
use Rattle.radio_book.specs.declared.event.Event.{Event}
use Rattle.radio_book.specs.declared.ask.Ask.{Ask}
use Rattle.radio_book.specs.declared.ask.Ask.TheVariants as ask
use Rattle.radio_desk.specs.declared.desk.DeskFault.{DeskFault}
use Rattle.radio_desk.specs.Receipts.{Receipt}
use Rattle.ho_procedure.specs.Claims.{Entry, Claim, IsFor, SaysNone, SaysChosen, SaysRefused, IsNoMemory}

chosen_too : (more less : Claim → Type 0) (a : Ask) (e : Event) → ((claim : Claim) → more claim → less claim) → SaysChosen more a e → SaysChosen less a e
chosen_too more less (ask.Event named) e weaker said = tt
chosen_too more less (ask.Take c kind cell rate) e weaker said = weaker _ said
chosen_too more less (ask.Open c cell rate) e weaker said = weaker _ said
chosen_too more less (ask.Reserve c) e weaker said = weaker _ said

none_too : (more less : Claim → Type 0) (a : Ask) → ((claim : Claim) → more claim → less claim) → SaysNone more a → SaysNone less a
none_too more less (ask.Event named) weaker said = said
none_too more less (ask.Take c kind cell rate) weaker said = weaker _ said
none_too more less (ask.Open c cell rate) weaker said = weaker _ said
none_too more less (ask.Reserve c) weaker said = said

refused_too : (more less : Claim → Type 0) (a : Ask) → ((claim : Claim) → more claim → less claim) → SaysRefused more a → SaysRefused less a
refused_too more less (ask.Event named) weaker said = weaker _ said
refused_too more less (ask.Take c kind cell rate) weaker said = weaker _ said
refused_too more less (ask.Open c cell rate) weaker said = weaker _ said
refused_too more less (ask.Reserve c) weaker said = λ n. weaker _ (said n)

-- of its answer, and how the log went on
pub answers_too : (more less : Claim → Type 0) (log log' : List Entry) (a : Ask) (result : Result (Option Receipt) DeskFault) → ((claim : Claim) → more claim → less claim)
    → IfOk result (λ answer. MatchOption answer ((log' ≡ log) × SaysNone more a) (λ r. IsFor a r.event × SaysChosen more a r.event × (log' ≡ log ++ (r.event, r.reply) ∷ [])))
    → IfOk result (λ answer. MatchOption answer ((log' ≡ log) × SaysNone less a) (λ r. IsFor a r.event × SaysChosen less a r.event × (log' ≡ log ++ (r.event, r.reply) ∷ [])))
answers_too more less log log' a (Err f) weaker ok = tt
answers_too more less log log' a (Ok None) weaker ok = (ok.0, none_too more less a weaker ok.1)
answers_too more less log log' a (Ok (Some r)) weaker ok = (ok.0, chosen_too more less a r.event weaker ok.1, ok.2)

-- and that memory may be refused
pub lacks_too : (more less : Claim → Type 0) (a : Ask) (result : Result (Option Receipt) DeskFault) → ((claim : Claim) → more claim → less claim)
    → IfErr result (λ f. IsNoMemory f → SaysRefused more a) → IfErr result (λ f. IsNoMemory f → SaysRefused less a)
lacks_too more less a (Ok answer) weaker said = tt
lacks_too more less a (Err f) weaker said = λ is. refused_too more less a weaker (said is)
