-- What a view says of a desk that at any time may no longer know the view's last receipt.
use Rattle.std.specs.Prelude.{List}
use Rattle.radio_book.specs.State.{State}
use Rattle.ho_procedure.specs.Claims.{Entry, Claim, NoneFree, Chosen, Opening, UnknownReceipt, MayBeRefused, TakeMayBeRefused, IsTrueAfter}

-- what is true of the book; and, at any time and for any place, that the view's last receipt isn't known
abbrev pub IsSaidAfter : State → List Entry → Claim → Type 0
IsSaidAfter opening log (NoneFree cell rate) = IsTrueAfter opening log (NoneFree cell rate)
IsSaidAfter opening log (Chosen e) = IsTrueAfter opening log (Chosen e)
IsSaidAfter opening log (Opening book) = IsTrueAfter opening log (Opening book)
IsSaidAfter opening log (UnknownReceipt place) = Unit {0}
IsSaidAfter opening log (MayBeRefused e) = IsTrueAfter opening log (MayBeRefused e)
IsSaidAfter opening log (TakeMayBeRefused cell rate) = IsTrueAfter opening log (TakeMayBeRefused cell rate)
