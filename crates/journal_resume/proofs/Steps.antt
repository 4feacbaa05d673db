-- One record more.
use Rattle.std.proofs.Common.{◌≡◌, ◌+◌, ◌-◌, ◌≤◌, ℕ, List, [], ◌∷◌, ◌++◌, length, length-append, append_assoc, map, take, drop, inl, refl, sym, subst, ◌∙◌, ap, arith, lit<}
use Rattle.std.proofs.lemmas.List.{append-nil, append_cancel_right, map-append, take_at, drop_at}
use Rattle.std.proofs.lemmas.List.Concat.{flat_map-append}
use Rattle.std.proofs.lemmas.List.Elements.{All-nil, All-cons, All-push}
use Rattle.radio_book.specs.declared.event.Event.{Event}
use Rattle.cell_table.specs.Site.{SiteView}
use Rattle.radio_book.specs.State.{State, empty_book}
use Rattle.radio_book.specs.Table.{step, reply_to}
use Rattle.radio_book.specs.Run.{run_book, run_replies}
use Rattle.journal_records.specs.Records.{record_text, BeginsWith}
use Rattle.journal_records.specs.Files.{first_line}
use Rattle.journal_records.proofs.Heads.{record_is_long}
use Rattle.trace_entries.specs.Replies.{reply_text}
use Rattle.trace_entries.specs.Entries.{entries_of, events_of, replies_in, HasReplies}
use Rattle.journal_resume.specs.Ends.{IsLeft}
use Rattle.journal_resume.specs.Heads.{site_line, BeginsWithLine}
use Rattle.journal_resume.specs.Resume.{Numbered, records_text, events_in, reply_texts, AreAnswered, AreNumbered, AreTaken, IsReadable, IsResumed, IsJournal}

pub run_on : (b : State) (xs ys : List Event) → run_book b (xs ++ ys) ≡ run_book (run_book b xs) ys
run_on b [] ys = refl
run_on b (x ∷ xs) ys = run_on (step b x) xs ys

replies_on : (b : State) (xs ys : List Event) → run_replies b (xs ++ ys) ≡ run_replies b xs ++ run_replies (run_book b xs) ys
replies_on b [] ys = refl
replies_on b (x ∷ xs) ys = ap (λ rs. reply_to b x ∷ rs) (replies_on (step b x) xs ys)

-- the replies to some events, and to more behind them
answered_on : (b : State) (xs ys : List Event) (one more : List (List ℕ))
    → one ≡ map reply_text (run_replies b xs) → more ≡ map reply_text (run_replies (run_book b xs) ys)
    → one ++ more ≡ map reply_text (run_replies b (xs ++ ys))
answered_on b xs ys one more first rest =
    ap (λ ts. ts ++ more) first ∙ ap (λ ts. map reply_text (run_replies b xs) ++ ts) rest
    ∙ sym (map-append reply_text (run_replies b xs) (run_replies (run_book b xs) ys)) ∙ ap (map reply_text) (sym (replies_on b xs ys))

text_more : (rs : List Numbered) (n : ℕ) (body : List ℕ) → records_text (rs ++ (n, body) ∷ []) ≡ records_text rs ++ record_text n body
text_more rs n body =
    flat_map-append (λ (r : Numbered). record_text r.0 r.1) rs ((n, body) ∷ []) ∙ ap (λ t. records_text rs ++ t) (append-nil (record_text n body))

events_more : (rs : List Numbered) (n : ℕ) (body : List ℕ) → events_in (rs ++ (n, body) ∷ []) ≡ events_in rs ++ events_of (entries_of body)
events_more rs n body =
    flat_map-append (λ (r : Numbered). events_of (entries_of r.1)) rs ((n, body) ∷ []) ∙ ap (λ es. events_in rs ++ es) (append-nil (events_of (entries_of body)))

answered_more : (b : State) (rs : List Numbered) (n : ℕ) (body : List ℕ)
    → AreAnswered b rs → HasReplies body (run_replies (run_book b (events_in rs)) (events_of (entries_of body))) → AreAnswered b (rs ++ (n, body) ∷ [])
answered_more b rs n body so_far here =
    flat_map-append (λ (r : Numbered). replies_in r.1) rs ((n, body) ∷ []) ∙ ap (λ ts. reply_texts rs ++ ts) (append-nil (replies_in body))
    ∙ answered_on b (events_in rs) (events_of (entries_of body)) (reply_texts rs) (replies_in body) so_far here
    ∙ ap (λ es. map reply_text (run_replies b es)) (sym (events_more rs n body))

pub numbered_more : (first : ℕ) (rs : List Numbered) (n : ℕ) (body : List ℕ) → AreNumbered first rs → n ≡ first + length rs → AreNumbered first (rs ++ (n, body) ∷ [])
numbered_more first [] n body all next = (omega (arith, next), tt)
numbered_more first (r ∷ rs) n body (here, rest) next = (here, numbered_more (first + 1) rs n body rest (omega (arith, next)))

-- a record more is taken
taken_more : (b : State) (first : ℕ) (rs : List Numbered) (n : ℕ) (body : List ℕ) → AreTaken b first rs → n ≡ first + length rs → IsReadable body →
    HasReplies body (run_replies (run_book b (events_in rs)) (events_of (entries_of body))) → AreTaken b first (rs ++ (n, body) ∷ [])
taken_more b first rs n body so_far next readable here = record {
  numbered = numbered_more first rs n body so_far.numbered next;
  readable = All-push (λ (r : Numbered). IsReadable r.1) rs (n, body) so_far.readable readable;
  answered = answered_more b rs n body so_far.answered here;
}

pub none_taken : (b : State) (first : ℕ) → AreTaken b first []
none_taken b first = record { numbered = tt; readable = All-nil (λ (r : Numbered). IsReadable r.1); answered = refl }

-- a record in front of others
pub taken_in_front : (b opening : State) (n : ℕ) (head : List ℕ) (rs : List Numbered) → opening ≡ run_book b (events_of (entries_of head)) → IsReadable head →
    HasReplies head (run_replies b (events_of (entries_of head))) → AreTaken opening (n + 1) rs → AreTaken b n ((n, head) ∷ rs)
taken_in_front b opening n head rs is readable replies taken = record {
  numbered = (refl, taken.numbered);
  readable = All-cons (λ (r : Numbered). IsReadable r.1) (n, head) rs readable taken.readable;
  answered = answered_on b (events_of (entries_of head)) (events_in rs) (replies_in head) (reply_texts rs) replies
      (subst (λ x. AreAnswered x rs) is taken.answered);
}

-- the records behind it lead on
pub led_in_front : (b opening : State) (n : ℕ) (head : List ℕ) (rs : List Numbered) → opening ≡ run_book b (events_of (entries_of head)) →
    run_book opening (events_in rs) ≡ run_book b (events_in ((n, head) ∷ rs))
led_in_front b opening n head rs is = ap (λ x. run_book x (events_in rs)) is ∙ sym (run_on b (events_of (entries_of head)) (events_in rs))

-- These records were taken so far from a book on: where they led, and what is left of the octets.
pub record SoFar (b : State) (before : ℕ) (octets : List ℕ) (b' : State) (last : ℕ) (left : List ℕ) : Type 0 where
  pub records : List Numbered
  pub text : octets ≡ records_text records ++ left
  pub taken : AreTaken b (before + 1) records
  pub book : b' ≡ run_book b (events_in records)
  pub last_number : last ≡ before + length records

pub none_yet : (b : State) (before : ℕ) (octets : List ℕ) → SoFar b before octets b before octets
none_yet b before octets = record { records = []; text = refl; taken = none_taken b (before + 1); book = refl; last_number = omega arith }

-- the number of a record, once it was compared
pub read_more : (left : List ℕ) (number n : ℕ) (body behind : List ℕ) → BeginsWith left number body behind → number ≡ n → BeginsWith left n body behind
read_more left number n body behind begins is = subst (λ k. BeginsWith left k body behind) is begins

pub one_more : (b : State) (before : ℕ) (octets : List ℕ) (b' : State) (last : ℕ) (left : List ℕ) (n : ℕ) (body behind : List ℕ) (b'' : State) →
    SoFar b before octets b' last left → BeginsWith left n body behind → n ≡ last + 1 → IsReadable body → b'' ≡ run_book b' (events_of (entries_of body)) →
    HasReplies body (run_replies b' (events_of (entries_of body))) → SoFar b before octets b'' n behind
one_more b before octets b' last left n body behind b'' so_far begins next readable led replies = record {
  records = so_far.records ++ (n, body) ∷ [];
  text = so_far.text ∙ ap (λ t. records_text so_far.records ++ t) begins.text ∙ sym (append_assoc (records_text so_far.records) (record_text n body) behind)
      ∙ ap (λ t. t ++ behind) (sym (text_more so_far.records n body));
  taken = taken_more b (before + 1) so_far.records n body so_far.taken (omega (arith, next, so_far.last_number)) readable
      (subst (λ x. HasReplies body (run_replies x (events_of (entries_of body)))) so_far.book replies);
  book = led ∙ ap (λ x. run_book x (events_of (entries_of body))) so_far.book ∙ sym (run_on b (events_in so_far.records) (events_of (entries_of body)))
      ∙ ap (run_book b) (sym (events_more so_far.records n body));
  last_number = next ∙ ap (λ k. k + 1) so_far.last_number ∙ omega (arith, length-append so_far.records ((n, body) ∷ []));
}

pub no_more : (b : State) (before : ℕ) (octets : List ℕ) (b' : State) (last : ℕ) (left : List ℕ) →
    SoFar b before octets b' last left → IsLeft left → IsResumed b before octets b' last left
no_more b before octets b' last left so_far end = record {
  records = so_far.records;
  text = so_far.text;
  taken = so_far.taken;
  book = so_far.book;
  last_number = so_far.last_number;
  end = end;
}

-- the head, and the records behind it
pub whole_journal : (sum : ℕ) (site : SiteView) (octets behind_line behind : List ℕ) (n : ℕ) (head : List ℕ) (opening b : State) (last : ℕ) (left : List ℕ)
    → octets ≡ first_line ++ behind_line → BeginsWith behind_line n head behind → BeginsWithLine (site_line sum) head
    → opening ≡ run_book (empty_book site) (events_of (entries_of head)) → IsReadable head
    → HasReplies head (run_replies (empty_book site) (events_of (entries_of head))) → IsResumed opening n behind b last left → IsJournal sum site n octets b last left
whole_journal sum site octets behind_line behind n head opening b last left line begins of_site is readable replies resumed = record {
  head = head;
  records = resumed.records;
  text = line ∙ ap (λ t. first_line ++ t) (begins.text ∙ ap (λ t. record_text n head ++ t) resumed.text
      ∙ sym (append_assoc (record_text n head) (records_text resumed.records) left));
  of_site = of_site;
  taken = taken_in_front (empty_book site) opening n head resumed.records is readable replies resumed.taken;
  book = resumed.book ∙ led_in_front (empty_book site) opening n head resumed.records is;
  last_number = resumed.last_number;
  end = resumed.end;
}

-- what is empty may be left
pub nothing_is_left : IsLeft []
nothing_is_left = (λ number body behind begins. let long = record_is_long [] number body behind begins in let never : ⊥ = omega (arith, long) in absurd never, inl (lit< tt))

-- without what was cut a file is a journal of the same book
pub uncut : (sum : ℕ) (site : SiteView) (n : ℕ) (octets : List ℕ) (b : State) (last : ℕ) (left whole : List ℕ) →
    IsJournal sum site n octets b last left → octets ≡ whole ++ left → IsJournal sum site n whole b last []
uncut sum site n octets b last left whole journal is =
    let records : List Numbered = (n, journal.head) ∷ journal.records in
    let front : List ℕ = first_line ++ records_text records in
    let same : whole ++ left ≡ front ++ left = sym is ∙ journal.text ∙ sym (append_assoc first_line (records_text records) left) in
    record {
      head = journal.head;
      records = journal.records;
      text = append_cancel_right whole front left same ∙ ap (λ t. first_line ++ t) (sym (append-nil (records_text records)));
      of_site = journal.of_site;
      taken = journal.taken;
      book = journal.book;
      last_number = journal.last_number;
      end = nothing_is_left;
    }

-- the octets in front of what is left
pub uncut_front : (sum : ℕ) (site : SiteView) (n : ℕ) (octets : List ℕ) (b : State) (last : ℕ) (left : List ℕ) →
    IsJournal sum site n octets b last left → IsJournal sum site n (take (length octets - length left) octets) b last []
uncut_front sum site n octets b last left journal =
    let records : List Numbered = (n, journal.head) ∷ journal.records in
    let front : List ℕ = first_line ++ records_text records in
    let is : octets ≡ front ++ left = journal.text ∙ sym (append_assoc first_line (records_text records) left) in
    let size : length front ≡ length octets - length left = omega (arith, ap length is, length-append front left) in
    let same : take (length octets - length left) octets ≡ front = ap (take (length octets - length left)) is ∙ take_at front left (length octets - length left) size in
    uncut sum site n octets b last left (take (length octets - length left) octets) journal (is ∙ ap (λ f. f ++ left) (sym same))

-- what is left stands at the end
pub left_of_journal : (sum : ℕ) (site : SiteView) (n : ℕ) (octets : List ℕ) (b : State) (last : ℕ) (left : List ℕ) →
    IsJournal sum site n octets b last left → (length left ≤ length octets) × (drop (length octets - length left) octets ≡ left)
left_of_journal sum site n octets b last left journal =
    let records : List Numbered = (n, journal.head) ∷ journal.records in
    let front : List ℕ = first_line ++ records_text records in
    let is : octets ≡ front ++ left = journal.text ∙ sym (append_assoc first_line (records_text records) left) in
    let size : length front ≡ length octets - length left = omega (arith, ap length is, length-append front left) in
    (omega (arith, ap length is, length-append front left), ap (drop (length octets - length left)) is ∙ drop_at front left (length octets - length left) size)
