-- A seat's receipts, with one more.
use Rattle.std.proofs.Common.{◌≡◌, ◌↔◌, ◌<◌, ◌≤◌, ℕ, List, [], ◌∷◌, ◌++◌, zero, suc, length, Option, Some, None, Result, Err, slice_index_or, refl, ap, sym, ◌∙◌, arith}
use Rattle.std.specs.List.{last_or}
use Rattle.std.proofs.lemmas.List.{map-append}
use Rattle.std.proofs.lemmas.List.Elements.{All-nil}
use Rattle.std.proofs.lemmas.List.Quantifiers.{all_pairs_push}
use Rattle.std.proofs.lemmas.Option.{slice_get_within}
use Rattle.radio_book.specs.declared.event.Event.{Event}
use Rattle.radio_book.specs.declared.event.Reply.{Reply}
use Rattle.radio_desk.specs.declared.desk.DeskFault.{DeskFault}
use Rattle.radio_desk.specs.declared.desk.DeskFault.TheVariants.{Foreign}
use Rattle.radio_desk.specs.Receipts.{Receipt, receipted, IsRising, IsAbove, IsSeated, Joined}
use Rattle.radio_desk.specs.Desk.{DeskState, HoldsLast, IsForeign, IsJudged}
use Rattle.ho_procedure.specs.Seats.{IsLastPlace}

pub receipted_more : (rs : List Receipt) (r : Receipt) → receipted (rs ++ r ∷ []) ≡ receipted rs ++ (r.event, r.reply) ∷ []
receipted_more rs r = map-append (λ (r : Receipt). (r.event, r.reply)) rs (r ∷ [])

last_more : (o : Option Receipt) (rs : List Receipt) (r : Receipt) → last_or o (rs ++ r ∷ []) ≡ Some r
last_more o [] r = refl
last_more o (x ∷ xs) r = last_more (Some x) xs r

last_of_some : (r : Receipt) (rs : List Receipt) → last_or (Some r) rs ≡ None → ⊥
last_of_some r [] ends = let e : Some r ≡ None = ends in cc
last_of_some r (s ∷ rs) ends = last_of_some s rs ends

rising_tail : (r : Receipt) (rs : List Receipt) → IsRising (r ∷ rs) → IsRising rs
rising_tail r rs rising i j d below within = rising (suc i) (suc j) d (omega arith) (omega arith)

-- no place of a seat's receipts is above its last one's
at_most_last : (r : Receipt) (rs : List Receipt) (l : Receipt) → IsRising (r ∷ rs) → last_or (Some r) rs ≡ Some l → (i : ℕ) (d : Receipt) → i < length (r ∷ rs) → (slice_index_or (r ∷ rs) i d).place ≤ l.place
at_most_last r [] l rising ends zero d within = let e : Some r ≡ Some l = ends in let same : r ≡ l = cc in rw same (omega arith)
at_most_last r [] l rising ends (suc i) d within = let e : suc i < 1 = within in omega arith
at_most_last r (s ∷ rs) l rising ends zero d within =
    let later : s.place ≤ l.place = at_most_last s rs l (rising_tail r (s ∷ rs) rising) ends 0 d (omega arith) in
    let step : r.place < s.place = rising 0 1 d (omega arith) (omega arith) in
    omega arith
at_most_last r (s ∷ rs) l rising ends (suc i) d within = at_most_last s rs l (rising_tail r (s ∷ rs) rising) ends i d (omega arith)

-- where a history holds a seat's last receipt, all its receipts stand before the history's end
above_held : (rs : List Receipt) (last : Option Receipt) (history : List (Event × Reply)) → IsSeated rs last → HoldsLast history last → IsAbove rs (length history)
above_held [] last history s held = All-nil (λ r. r.place < length history)
above_held (x ∷ xs) None history s held = absurd (last_of_some x xs s.ends)
above_held (x ∷ xs) (Some l) history s held = λ i d within.
    let most : (slice_index_or (x ∷ xs) i d).place ≤ l.place = at_most_last x xs l s.rising s.ends i d within in
    let end : l.place < length history = slice_get_within history l.place (l.event, l.reply) held in
    omega arith

-- so the receipt of what is judged next stands above them
pub above_all : (rs : List Receipt) (last : Option Receipt) (d d' : DeskState) (r : Receipt) → IsSeated rs last → HoldsLast d.history last → IsJudged d r d' → IsAbove rs r.place
above_all rs last d d' r s held j = let at : r.place ≡ length d.history = j.place in rw at (above_held rs last d.history s held)

-- and is the seat's last one
pub seated_more : (rs : List Receipt) (last : Option Receipt) (d d' : DeskState) (r : Receipt) → IsSeated rs last → HoldsLast d.history last → IsJudged d r d' → IsSeated (rs ++ r ∷ []) (Some r)
seated_more rs last d d' r s held j =
    let above = above_all rs last d d' r s held j in
    record { rising = all_pairs_push (λ r s. r.place < s.place) rs r s.rising (λ k d within. above k d within); ends = last_more None rs r }

pub joined : (rs items : List Receipt) (last : Option Receipt) (d d' : DeskState) (r : Receipt) → IsSeated rs last → HoldsLast d.history last → IsJudged d r d' → items ≡ rs ++ r ∷ [] → Joined rs r items
joined rs items last d d' r s held j e = record { receipts = e; above = above_all rs last d d' r s held j }

pub seated_after : (rs items : List Receipt) (last last' : Option Receipt) (d d' : DeskState) (r : Receipt) → IsSeated rs last → HoldsLast d.history last → IsJudged d r d' → items ≡ rs ++ r ∷ [] → last' ≡ Some r → IsSeated items last'
seated_after rs items last last' d d' r s held j e f = rw (e, f) (seated_more rs last d d' r s held j)

-- what a desk doesn't know is the last of the seat's receipts
foreign_last : (rs : List Receipt) (last : Option Receipt) (history : List (Event × Reply)) (place : ℕ) → IsSeated rs last → IsForeign history last place → IsLastPlace rs place
foreign_last rs None history place s f = absurd f
foreign_last rs (Some r) history place s f = (r, s.ends, f.0)

abbrev fails : (X : Type 0) → DeskFault → Result X DeskFault
fails X fault = Err fault

-- so it is where the desk's fault is told as it was
pub told_foreign : {X Y : Type 0} (rs : List Receipt) (last : Option Receipt) (history : List (Event × Reply)) (told : Result X DeskFault) (fault fault' : DeskFault) (place : ℕ) → IsSeated rs last
    → ((p : ℕ) → (fails Y fault ≡ fails Y (Foreign p)) ↔ IsForeign history last p) → told ≡ Err fault' → fault' ≡ fault → told ≡ Err (Foreign place) → IsLastPlace rs place
told_foreign {X} {Y} rs last history told fault fault' place s foreign was as_it_was is =
    let both : fails X fault' ≡ fails X (Foreign place) = sym was ∙ is in
    let same : fault ≡ Foreign place = cc in
    foreign_last rs last history place s ((foreign place).0 (ap (λ (f : DeskFault). fails Y f) same))
