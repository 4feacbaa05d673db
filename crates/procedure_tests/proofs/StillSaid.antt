-- What was said of a desk before a call.
use Rattle.std.proofs.Common.{List}
use Rattle.radio_book.specs.State.{State}
use Rattle.ho_procedure.specs.Claims.{Entry, Claim, NoneFree, Chosen, Opening, UnknownReceipt, MayBeRefused, TakeMayBeRefused, IsTrueAfter}
use Rattle.procedure_tests.specs.Leaving.{IsSaidAfter}

-- what isn't said of the receipt is said where it is true
pub still_said : (opening opening' : State) → ((log : List Entry) → (claim : Claim) → IsTrueAfter opening' log claim → IsTrueAfter opening log claim)
    → (log : List Entry) → (claim : Claim) → IsSaidAfter opening' log claim → IsSaidAfter opening log claim
still_said opening opening' said log (NoneFree cell rate) holds = said log (NoneFree cell rate) holds
still_said opening opening' said log (Chosen e) holds = said log (Chosen e) holds
still_said opening opening' said log (Opening book) holds = said log (Opening book) holds
still_said opening opening' said log (UnknownReceipt place) holds = tt
still_said opening opening' said log (MayBeRefused e) holds = said log (MayBeRefused e) holds
still_said opening opening' said log (TakeMayBeRefused cell rate) holds = said log (TakeMayBeRefused cell rate) holds

-- and what is true is said
pub says_too : (opening : State) (log : List Entry) (claim : Claim) → IsTrueAfter opening log claim → IsSaidAfter opening log claim
says_too opening log (NoneFree cell rate) holds = holds
says_too opening log (Chosen e) holds = holds
says_too opening log (Opening book) holds = holds
says_too opening log (UnknownReceipt place) holds = tt
says_too opening log (MayBeRefused e) holds = holds
says_too opening log (TakeMayBeRefused cell rate) holds = holds
