-- What links passed on, with one message more.
use Rattle.std.proofs.Common.{◌≡◌, List, [], ◌∷◌, ◌++◌}
use Rattle.std.proofs.lemmas.List.{map-append}
use Rattle.exchange.specs.declared.Outbound.{Outbound}
use Rattle.ho_procedure.specs.Sent.{sent, all_sent}

pub passed_more : {A : Type 0} (messages : List (Outbound A)) (m : Outbound A) → all_sent (messages ++ m ∷ []) ≡ all_sent messages ++ sent m ∷ []
passed_more messages m = map-append sent messages (m ∷ [])
