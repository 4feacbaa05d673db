-- A journal that begins, and one that goes on with octets that were read.
use Rattle.std.proofs.Common.{◌≡◌, ℕ, List, [], ◌++◌, take, drop, IsUtf8, Option, refl, sym, ◌∙◌, ap, subst}
use Rattle.std.proofs.lemmas.List.{append-nil, take-append-drop}
use Rattle.cell_table.specs.Site.{SiteView}
use Rattle.radio_book.specs.State.{State, empty_book}
use Rattle.radio_book.specs.Run.{run_book}
use Rattle.trace_entries.specs.Entries.{entries_of, events_of}
use Rattle.journal_records.specs.Records.{record_text}
use Rattle.journal_records.specs.Files.{first_line}
use Rattle.journal_files.specs.declared.journal.Journal.{Journal}
use Rattle.journal_files.specs.Journals.{begun, file_of, last_of, waiting_of, IsHanded}
use Rattle.journal_resume.specs.Heads.{site_line, BeginsWithLine, LeadsTo}
use Rattle.journal_resume.specs.Resume.{IsReadable, IsJournal}
use Rattle.journal_opening.specs.Openings.{GoesOn, Begins}
use Rattle.journal_resume.proofs.Steps.{none_taken, taken_in_front, led_in_front, nothing_is_left}

begun_empty : (sum : ℕ) (site : SiteView) (head : List ℕ) → IsUtf8 head → BeginsWithLine (site_line sum) head → LeadsTo head (empty_book site) →
    IsJournal sum site 0 (begun 0 head) (empty_book site) 0 []
begun_empty sum site head utf8 of_site leads =
    let b = empty_book site in
    let opening = run_book b (events_of (entries_of head)) in
    let readable : IsReadable head = (utf8, leads.readable) in
    let text : record_text 0 head ≡ (record_text 0 head ++ []) ++ [] = sym (append-nil (record_text 0 head ++ []) ∙ append-nil (record_text 0 head)) in
    record {
      head = head;
      records = [];
      text = ap (λ t. first_line ++ t) text;
      of_site = of_site;
      taken = taken_in_front b opening 0 head [] refl readable leads.replies (none_taken opening 1);
      book = sym leads.book ∙ led_in_front b opening 0 head [] refl;
      last_number = refl;
      end = nothing_is_left;
    }

pub begun_journal : (sum : ℕ) (site : SiteView) (b : State) (head : List ℕ) → b ≡ empty_book site → IsUtf8 head → BeginsWithLine (site_line sum) head → LeadsTo head b →
    IsJournal sum site 0 (begun 0 head) b 0 []
begun_journal sum site b head is utf8 of_site leads =
    subst (λ x. IsJournal sum site 0 (begun 0 head) x 0 []) (sym is) (begun_empty sum site head utf8 of_site (subst (LeadsTo head) is leads))

pub began : {R F D : Type 0} (contents : F → Option (List ℕ)) (sum : ℕ) (site : SiteView) (head given : List ℕ) (j : Journal R F D) (b : State) → b ≡ empty_book site → IsUtf8 head →
    BeginsWithLine (site_line sum) head → LeadsTo head b → given ≡ head → IsHanded contents (begun 0 given) (file_of j) → last_of j ≡ 0 → waiting_of j ≡ [] →
    Begins contents sum site j b
began contents sum site head given j b is utf8 of_site leads same handed last none = record {
  octets = begun 0 head;
  empty = is;
  leads = subst (λ l. IsJournal sum site 0 (begun 0 head) b l []) (sym last) (begun_journal sum site b head is utf8 of_site leads);
  handed = subst (λ h. IsHanded contents (begun 0 h) (file_of j)) same handed;
  none_waits = none;
}

pub went_on : {R F D : Type 0} (contents : F → Option (List ℕ)) (sum : ℕ) (site : SiteView) (number : ℕ) (octets whole : List ℕ) (j : Journal R F D) (b : State) (last place : ℕ) →
    IsJournal sum site number octets b last (drop place octets) → whole ≡ take place octets → IsHanded contents whole (file_of j) → last_of j ≡ last → waiting_of j ≡ [] →
    GoesOn contents sum site number octets j b
went_on contents sum site number octets whole j b last place journal is handed same none = record {
  whole = whole;
  left = drop place octets;
  cut = sym (take-append-drop place octets) ∙ ap (λ w. w ++ drop place octets) (sym is);
  read = subst (λ l. IsJournal sum site number octets b l (drop place octets)) (sym same) journal;
  handed = handed;
  none_waits = none;
}
