use Rattle.std.proofs.Common.{◌<◌, ◌≤◌, sym, subst, ℕ, length, get_or, AllPairs, List}
use Rattle.ho_candidates.specs.declared.listed.Candidate.{Candidate}
use Rattle.ho_candidates.specs.Order.{StandsBefore, HasOneMore}
use Rattle.ho_candidates.proofs.OrderFacts.{put-ordered, put-members}
use Rattle.ho_candidates.proofs.listed.put.Goals as goal

pub returns-clause-members : goal.returns-clause-members
returns-clause-members g c =
    let items = c.in_ok-insert.ensures.items in
    subst (HasOneMore c.args.found.now.items c.args.candidate) (sym items) (put-members c.args.found.now.items c.args.candidate c.place_of-place.result)

pub returns-clause-order : goal.returns-clause-order
returns-clause-order g c =
    let old = c.args.found.now.items in
    let x = c.args.candidate in
    let place = c.place_of-place.result in
    let items = c.in_ok-insert.ensures.items in
    let slice = c.as_slice.ensures.value in
    let Before : List Candidate → Type 0 = λ xs. (k : ℕ) (d : Candidate) → k < place → x.sum ≤ (get_or xs k d).sum in
    let First : List Candidate → Type 0 = λ xs. (d : Candidate) → place < length xs → (get_or xs place d).sum < x.sum in
    subst (AllPairs StandsBefore) (sym items)
    (put-ordered old x place (subst Before slice c.place_of-place.ensures.before) (subst First slice c.place_of-place.ensures.first) c.requires.order c.requires.last)
