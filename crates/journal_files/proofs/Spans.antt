-- Which files go, and what is handed to one.
use Rattle.std.proofs.Common.{◌≡◌, ◌≢◌, ◌≤◌, ℕ, max, List, [], ◌∷◌, ◌++◌, length, append_assoc, Option, Some, None, Result, Ok, Err, OnOk, remove, refl, subst, sym, ◌∙◌, ap}
use Rattle.std.proofs.lemmas.List.{append-nil}
use Rattle.std.specs.Io.KnownBytes.{Appends}
use Rattle.journal_files.specs.Journals.{MayGo, OldestGo, IsHanded}

stays : (keep : Option ℕ) (spans : List ℕ) → MayGo keep [] spans
stays None spans = refl
stays (Some keep) spans = λ some. absurd (some refl)

pub none_goes : (keep : Option ℕ) (spans : List ℕ) → OldestGo keep spans spans
none_goes keep spans = record { gone = []; rest = refl; last = λ some. some; spared = stays keep spans }

goes : (keep : Option ℕ) (gone rest new : List ℕ) (number : ℕ) → MayGo keep (number ∷ []) rest → new ≡ rest → MayGo keep (gone ++ number ∷ []) new
goes None gone rest new number spared same = let never : number ∷ [] ≡ [] = spared in cc
goes (Some keep) gone rest new number spared same =
    λ _. subst (λ t. max keep 1 ≤ length t) (sym same) (spared (λ none. let never : number ∷ [] ≡ [] = none in cc))

-- one more, that isn't the last and needn't stay
pub one_goes : (keep now : Option ℕ) (old spans new : List ℕ) (number : ℕ) → OldestGo keep old spans →
    (rest : List ℕ) × (spans ≡ number ∷ rest) × (rest ≢ []) × MayGo now (number ∷ []) rest → now ≡ keep → new ≡ remove spans 0 → OldestGo keep old new
one_goes keep now old spans new number so_far (rest, is, some, spared) same removed =
    let left : new ≡ rest = removed ∙ ap (λ t. remove t 0) is in
    record {
      gone = so_far.gone ++ number ∷ [];
      rest = so_far.rest ∙ ap (λ t. so_far.gone ++ t) is ∙ sym (append_assoc so_far.gone (number ∷ []) rest) ∙ ap (λ t. (so_far.gone ++ number ∷ []) ++ t) (sym left);
      last = λ before. subst (λ t. t ≢ []) (sym left) some;
      spared = goes keep so_far.gone rest new number (subst (λ k. MayGo k (number ∷ []) rest) same spared) left;
    }

-- nothing is handed to a file
pub appends_nothing : (known : Option (List ℕ)) (octets : List ℕ) → octets ≡ [] → Appends known known octets
appends_nothing None octets is = tt
appends_nothing (Some xs) octets is = sym (append-nil xs) ∙ ap (λ t. xs ++ t) (sym is)

-- what was handed to a file stays so
pub still_handed : {F T E : Type 0} (contents : F → Option (List ℕ)) (given want : List ℕ) (file file' : F) (r : Result T E) → IsHanded contents given file → given ≡ want → file' ≡ file → OnOk r (IsHanded contents want file')
still_handed contents given want file file' (Ok x) (opened, is) same stays =
    (opened, subst (λ f. Appends (contents opened) (contents f) want) (sym stays) (subst (λ o. Appends (contents opened) (contents file) o) same is))
still_handed contents given want file file' (Err e) handed same stays = tt
