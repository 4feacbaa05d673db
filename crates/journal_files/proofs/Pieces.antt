-- What was read of a folder, piece by piece.
use Rattle.std.proofs.Common.{◌≡◌, ◌++◌, ℕ, List, [], Option, IfSome, refl, sym, subst}
use Rattle.std.specs.Io.KnownBytes.{Consumes, IsAtEnd}
use Rattle.std.proofs.KnownBytes.{Consumes-trans, Consumes-all}

-- one piece more was read
pub piece_more : (a b c : Option (List ℕ)) (names piece new : List ℕ) → Consumes a b names → Consumes b c piece → new ≡ names ++ piece → Consumes a c new
piece_more a b c names piece new before now is = subst (Consumes a c) (sym is) (Consumes-trans a b c names piece before now)

-- nothing more is there
pub pieces_end : (a b : Option (List ℕ)) (names : List ℕ) → Consumes a b names → IsAtEnd b → IfSome a (λ all. names ≡ all)
pieces_end a b names before end = Consumes-all a b names [] names before end refl
