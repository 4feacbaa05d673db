use Rattle.std.proofs.Common.{◌↔◌, ◌&&◌, Bool, IsTrue, sym, ◌∙◌, ap}
use Rattle.std.proofs.lemmas.Bool.{and_parts, and_from}
use Rattle.radio_book.specs.Run.{run_book, run_replies}
use Rattle.radio_desk.proofs.audit.leads_alike.Goals as goal

-- two tests, and what both say
both_say : {P Q : Type 0} (p q : Bool) → (IsTrue p ↔ P) → (IsTrue q ↔ Q) → IsTrue (p && q) ↔ (P × Q)
both_say p q one other =
    ((λ both. let parts = and_parts p q both in (one.0 parts.0, other.0 parts.1)), (λ both. and_from p q (one.1 both.0) (other.1 both.1)))

pub returns : goal.returns
returns g c =
    let asked = c.deref.ensures.value ∙ c.in_ok-events.ensures in
    let book = c.in_ok-after.ensures.book ∙ ap (run_book c.args.opening.now) asked in
    let got = c.deref-2.ensures.value ∙ c.in_ok-after.ensures.replies ∙ ap (run_replies c.args.opening.now) asked in
    let says = both_say c.eq-leads.result c.are_replies-alike.result c.eq-leads.ensures.same c.are_replies-alike.ensures in (
      λ t. let parts = says.0 (sym c.both.ensures ∙ t) in record { leads = sym book ∙ parts.0; replies = sym got ∙ parts.1 },
      λ same. c.both.ensures ∙ says.1 (book ∙ same.leads, got ∙ same.replies),
    )
