-- What a mobile measures of all that it hears is one list, and what comes of it is one report, or none.
use Rattle.std.proofs.Common.{◌≡◌, ◌==◌, ◌↔◌, ◌⊎◌, inl, inr, ◌<◌, ◌+◌, ◌++◌, ℕ, zero, suc, true, List, [], ◌∷◌, length, take, slice_get, All, Option, Some, None, Result, Ok, Err, refl, sym, ap, subst, ◌∙◌, append_assoc, append-nil, add-one, arith}
use Rattle.std.proofs.lemmas.Bool.{cases_lt}
use Rattle.std.proofs.lemmas.Bool.Decides.{nat_tests}
use Rattle.std.proofs.lemmas.Option.{same_Some}
use Rattle.std.proofs.lemmas.List.Elements.{All-nil, All-cons, All-head, All-tail}
use Rattle.cell_table.specs.Site.{SiteView, channels}
use Rattle.cell_table.specs.Neighbours.{IsNamedCell}
use Rattle.channel_fsm.specs.declared.ChanId.{ChanId}
use Rattle.rr_elements.specs.declared.fault.ElementFault.{ElementFault}
use Rattle.rr_elements.specs.declared.fault.ElementFault.TheVariants.{BadRange}
use Rattle.rr_elements.specs.declared.measurement.MeasHead.{MeasHead}
use Rattle.rr_elements.specs.declared.measurement.Ncell.{Ncell}
use Rattle.rr_elements.specs.MeasResults.{Results, HeadFits, NcellFits, ResultsFit, used_count}
use Rattle.exchange.specs.declared.Inbound.{Inbound}
use Rattle.radio_book.specs.State.{State}
use Rattle.lab_script.specs.declared.asked.Heard.{Heard}
use Rattle.lab_script.specs.declared.asked.Report.{Report}
use Rattle.run_listeners.specs.declared.unmet.Unmet.{Unmet}
use Rattle.lab_runs.specs.Asked.{IsHeard, AreHeard, Measures, head_of, results_of, reported, IsReport, AreReportsOn, AreReportsAt, AreReportsIf, AreReportsOfAll, AreReportsUpTo, AddsReports, AddsReportsIfOn, is_on}

same_ok : {A E : Type 0} (x y : A) → ◌≡◌ {A = Result A E} (Ok x) (Ok y) → x ≡ y
same_ok x y e = cc

-- what names the neighbour is one place and one code, so one is measured
pub one_heard : (site : SiteView) (cell : ℕ) (h : Heard) (position bsic : ℕ)
    → ((place code : ℕ) → (◌≡◌ {A = Option (ℕ × ℕ)} (Some (position, bsic)) (Some (place, code))) ↔ IsNamedCell site cell place code h.cell)
    → (n : Ncell) → (◌≡◌ {A = Result Ncell Unmet} (Ok (record { level = h.level; position = position; bsic = bsic })) (Ok n)) ↔ IsHeard site cell h n
one_heard site cell h position bsic named n = (there, back)
  where
    made : Ncell
    made = record { level = h.level; position = position; bsic = bsic }

    there : ◌≡◌ {A = Result Ncell Unmet} (Ok made) (Ok n) → IsHeard site cell h n
    there e = subst (IsHeard site cell h) (same_ok made n e) (record { level = refl; named = (named position bsic).0 refl })

    back : IsHeard site cell h n → ◌≡◌ {A = Result Ncell Unmet} (Ok made) (Ok n)
    back is =
        let one : ℕ × ℕ = (position, bsic) in
        let other : ℕ × ℕ = (n.position, n.bsic) in
        let same : one ≡ other = same_Some one other ((named n.position n.bsic).1 is.named) in
        λ i. Ok (record { level = sym is.level i; position = (same i).0; bsic = (same i).1 })

-- nothing more is heard
pub measures_none : (site : SiteView) (cell : ℕ) (before : List Ncell) → Measures site cell [] before (Ok tt) before
measures_none site cell before = ([], sym (append-nil before), alone)
  where
    alone : (others : List Ncell) → AreHeard site cell [] others ↔ (others ≡ [])
    alone [] = (λ _. refl, λ _. tt)
    alone (n ∷ ns) = (λ bad. absurd bad, λ e. absurd cc)

-- nothing is heard at a place
pub measures_silent : (site : SiteView) (cell : ℕ) (hs : List (Option Heard)) (before : List Ncell) (found : Result Unit Unmet) (all : List Ncell)
    → Measures site cell hs before found all → Measures site cell (None ∷ hs) before found all
measures_silent site cell hs before (Ok done) all h = h
measures_silent site cell hs before (Err unmet) all h = h

-- one is measured
pub measures_one : (site : SiteView) (cell : ℕ) (h : Heard) (hs : List (Option Heard)) (before : List Ncell) (n : Ncell) (found : Result Unit Unmet) (all : List Ncell)
    → ((m : Ncell) → (◌≡◌ {A = Result Ncell Unmet} (Ok n) (Ok m)) ↔ IsHeard site cell h m) → Measures site cell hs (before ++ n ∷ []) found all → Measures site cell (Some h ∷ hs) before found all
measures_one site cell h hs before n (Ok done) all only (ns, is, each) = (n ∷ ns, is ∙ append_assoc before (n ∷ []) ns, alone)
  where
    alone : (others : List Ncell) → AreHeard site cell (Some h ∷ hs) others ↔ (others ≡ n ∷ ns)
    alone [] = (λ bad. absurd bad, λ e. absurd cc)
    alone (m ∷ ms) = (there, back)
      where
        there : AreHeard site cell (Some h ∷ hs) (m ∷ ms) → (m ∷ ms) ≡ n ∷ ns
        there (heard, rest) = λ i. sym (same_ok n m ((only m).1 heard)) i ∷ (each ms).0 rest i

        back : (m ∷ ms) ≡ n ∷ ns → AreHeard site cell (Some h ∷ hs) (m ∷ ms)
        back e =
            let first : n ≡ m = cc in
            let rest : ms ≡ ns = cc in
            ((only m).0 (ap (λ z. Ok z) first), (each ms).1 rest)
measures_one site cell h hs before n (Err unmet) all only none = others
  where
    others : (ms : List Ncell) → AreHeard site cell (Some h ∷ hs) ms → ⊥
    others [] heard = heard
    others (m ∷ ms) heard = none ms heard.1

-- one can't be measured
pub measures_not : (site : SiteView) (cell : ℕ) (h : Heard) (hs : List (Option Heard)) (before : List Ncell) (unmet : Unmet) (all : List Ncell)
    → ((m : Ncell) → (◌≡◌ {A = Result Ncell Unmet} (Err unmet) (Ok m)) ↔ IsHeard site cell h m) → Measures site cell (Some h ∷ hs) before (Err unmet) all
measures_not site cell h hs before unmet all never [] heard = heard
measures_not site cell h hs before unmet all never (m ∷ ms) heard =
    let bad : ◌≡◌ {A = Result Ncell Unmet} (Err unmet) (Ok m) = (never m).1 heard.0 in
    absurd cc

-- whether results fit

lt_or_not : (n m : ℕ) → (n < m) ⊎ (n < m → ⊥)
lt_or_not n m = elim (cases_lt n m) [ inl less ↦ inl less | inr not_less ↦ inr (λ less. omega (arith, less, not_less)) ]

same_or_not : (n m : ℕ) → (n ≡ m) ⊎ (n ≡ m → ⊥)
same_or_not n m =
    elim (cases_lt n m) [
      | inl less ↦ inr (λ e. omega (arith, less, e))
      | inr least ↦ elim (cases_lt m n) [ inl less ↦ inr (λ e. omega (arith, less, e)) | inr most ↦ inl (omega (arith, least, most)) ]
    ]

both : {P Q : Type 0} → P ⊎ (P → ⊥) → Q ⊎ (Q → ⊥) → (P × Q) ⊎ ((P × Q) → ⊥)
both (inl p) (inl q) = inl (p, q)
both (inl p) (inr not) = inr (λ h. not h.1)
both (inr not) q = inr (λ h. not h.0)

mapped : {P Q : Type 0} → (P → Q) → (Q → P) → P ⊎ (P → ⊥) → Q ⊎ (Q → ⊥)
mapped f back (inl p) = inl (f p)
mapped f back (inr not) = inr (λ q. not (back q))

ncell_fits : (n : Ncell) → NcellFits n ⊎ (NcellFits n → ⊥)
ncell_fits n =
    mapped (λ p. record { level = p.0; position = p.1.0; bsic = p.1.1 }) (λ f. (f.level, (f.position, f.bsic)))
    (both (lt_or_not n.level 64) (both (lt_or_not n.position 32) (lt_or_not n.bsic 64)))

all_fit : (ns : List Ncell) → All NcellFits ns ⊎ (All NcellFits ns → ⊥)
all_fit [] = inl (All-nil NcellFits)
all_fit (n ∷ ns) = mapped (λ p. All-cons NcellFits n ns p.0 p.1) (λ all. (All-head NcellFits n ns all, All-tail NcellFits n ns all)) (both (ncell_fits n) (all_fit ns))

head_fits : (h : MeasHead) → HeadFits h ⊎ (HeadFits h → ⊥)
head_fits h =
    mapped (λ p. record { full = p.0; sub = p.1.0; qfull = p.1.1.0; qsub = p.1.1.1.0; count = p.1.1.1.1 }) (λ f. (f.full, (f.sub, (f.qfull, (f.qsub, f.count)))))
    (both (lt_or_not h.full 64) (both (lt_or_not h.sub 64) (both (lt_or_not h.qfull 8) (both (lt_or_not h.qsub 8) (lt_or_not h.count 8)))))

fits : (v : Results) → ResultsFit v ⊎ (ResultsFit v → ⊥)
fits v =
    mapped (λ p. record { head = p.0; each = p.1.0; count = p.1.1 }) (λ f. (f.head, (f.each, f.count)))
    (both (head_fits v.head) (both (all_fit v.neighbours) (same_or_not (length v.neighbours) (used_count v.head.count))))

-- what is measured comes in one report
pub is_report : {A : Type 0} (site : SiteView) (x : ChanId) (report : Report) (all : List Ncell) (found : Result Unit Unmet) (done : Unit) (head : MeasHead) (r : Result Results ElementFault) (v : Results) (input : Inbound A)
    → Measures site x.cell report.heard [] found all → found ≡ Ok done → head ≡ head_of report (length all)
    → ((ResultsFit (record { head = head; neighbours = all }) → ⊥) → r ≡ Err BadRange) → (ResultsFit (record { head = head; neighbours = all }) → r ≡ Ok (record { head = head; neighbours = all }))
    → r ≡ Ok v → input ≡ reported x report v → IsReport site x report input
is_report site x report all found done head r v input measured is counted bad ok made says =
    elim (fits (record { head = head; neighbours = all })) [
      | inl fit ↦ by_fit fit (subst (λ found. Measures site x.cell report.heard [] found all) is measured)
      | inr not ↦
          let same : ◌≡◌ {A = Result Results ElementFault} (Err BadRange) (Ok v) = sym (bad not) ∙ made in
          absurd cc
    ]
  where
    by_fit : ResultsFit (record { head = head; neighbours = all }) → Measures site x.cell report.heard [] (Ok done) all → IsReport site x report input
    by_fit fit (ns, same, each) =
        let results : ◌≡◌ {A = Results} (record { head = head; neighbours = all }) (results_of report all) = λ i. record { head = counted i; neighbours = all } in
        let value : v ≡ results_of report all = same_ok v (record { head = head; neighbours = all }) (sym made ∙ ok fit) ∙ results in
        record {
          neighbours = all;
          heard = (each all).1 same;
          fit = subst ResultsFit results fit;
          passed = says ∙ ap (reported x report) value;
        }

-- what doesn't fit comes in none
pub no_report : {A : Type 0} (site : SiteView) (x : ChanId) (report : Report) (all : List Ncell) (found : Result Unit Unmet) (done : Unit) (head : MeasHead) (r : Result Results ElementFault) (fault : ElementFault)
    → Measures site x.cell report.heard [] found all → found ≡ Ok done → head ≡ head_of report (length all)
    → (ResultsFit (record { head = head; neighbours = all }) → r ≡ Ok (record { head = head; neighbours = all }))
    → r ≡ Err fault → (input : Inbound A) → IsReport site x report input → ⊥
no_report site x report all found done head r fault measured is counted ok refused input said =
    let (ns, same, each) : Measures site x.cell report.heard [] (Ok done) all = subst (λ found. Measures site x.cell report.heard [] found all) is measured in
    let results : ◌≡◌ {A = Results} (record { head = head; neighbours = all }) (results_of report said.neighbours) = λ i. record { head = (counted ∙ ap (λ ns. head_of report (length ns)) (same ∙ sym ((each said.neighbours).0 said.heard))) i; neighbours = (same ∙ sym ((each said.neighbours).0 said.heard)) i } in
    let bad : ◌≡◌ {A = Result Results ElementFault} (Err fault) (Ok (record { head = head; neighbours = all })) = sym refused ∙ ok (subst ResultsFit (sym results) said.fit) in
    cc

-- what can't be measured comes in none
pub none_measured : {A : Type 0} (site : SiteView) (x : ChanId) (report : Report) (all : List Ncell) (found : Result Unit Unmet) (unmet : Unmet)
    → Measures site x.cell report.heard [] found all → found ≡ Err unmet → (input : Inbound A) → IsReport site x report input → ⊥
none_measured site x report all found unmet measured is input said =
    subst (λ found. Measures site x.cell report.heard [] found all) is measured said.neighbours said.heard

-- reports of one more channel
pub one_more : {A : Type 0} (b : State) (report : Report) (xs : List ChanId) (x : ChanId) (inputs here : List (Inbound A)) → AreReportsOfAll b report xs inputs → AreReportsIf b.site report x (is_on b x) here
    → AreReportsOfAll b report (xs ++ x ∷ []) (inputs ++ here)
one_more b report [] x inputs here none reports = (here, [], reports, refl, ap (λ i. i ++ here) none ∙ sym (append-nil here))
one_more b report (y ∷ xs) x inputs here (first, rest, k, all, is) reports =
    (first, rest ++ here, k, one_more b report xs x rest here all reports, ap (λ i. i ++ here) is ∙ append_assoc first rest here)

take_one : {X : Type 0} (xs : List X) (n : ℕ) (x : X) → slice_get xs n ≡ Some x → take (suc n) xs ≡ take n xs ++ x ∷ []
take_one [] n x at = absurd cc
take_one (y ∷ ys) zero x at = ap (λ z. z ∷ []) (same_Some y x at)
take_one (y ∷ ys) (suc n) x at = ap (λ l. y ∷ l) (take_one ys n x at)

take_all : {X : Type 0} (xs : List X) (n : ℕ) → slice_get xs n ≡ None → take (suc n) xs ≡ take n xs
take_all [] zero at = refl
take_all [] (suc n) at = refl
take_all (y ∷ ys) zero at = absurd cc
take_all (y ∷ ys) (suc n) at = ap (λ l. y ∷ l) (take_all ys n at)

pub next_reports : {A : Type 0} (b : State) (report : Report) (n : ℕ) (x : ChanId) (inputs inputs' : List (Inbound A)) → slice_get (channels b.site) n ≡ Some x → AddsReportsIfOn b report x inputs inputs'
    → AreReportsUpTo b report n inputs → AreReportsUpTo b report (n + 1) inputs'
next_reports {A = A} b report n x inputs inputs' at (here, reports, is) before =
    subst (λ i. AreReportsUpTo b report (n + 1) i) (sym is)
    (subst (λ xs. AreReportsOfAll b report xs (inputs ++ here)) (sym (ap (λ k. take k (channels b.site)) (add-one n) ∙ take_one (channels b.site) n x at)) (one_more b report (take n (channels b.site)) x inputs here before reports))

pub same_reports : {A : Type 0} (b : State) (report : Report) (n : ℕ) (inputs : List (Inbound A)) → slice_get (channels b.site) n ≡ None → AreReportsUpTo b report n inputs → AreReportsUpTo b report (n + 1) inputs
same_reports b report n inputs at before =
    subst (λ xs. AreReportsOfAll b report xs inputs) (sym (ap (λ k. take k (channels b.site)) (add-one n) ∙ take_all (channels b.site) n at)) before

-- reports about a channel that a call is on
pub reports_if_on : {A : Type 0} (b : State) (site : SiteView) (report : Report) (x : ChanId) (before after : List (Inbound A)) → site ≡ b.site → is_on b x ≡ true
    → AddsReports site report x before after → AddsReportsIfOn b report x before after
reports_if_on b site report x before after same on (here, reports, is) =
    (here, subst (λ on. AreReportsIf b.site report x on here) (sym on) (subst (λ s. AreReportsOn s report x here) same reports), is)

-- the reports about the channel of a call
pub at_channel : {A : Type 0} (site site' : SiteView) (report : Report) (o : Option ChanId) (x : ChanId) (before inputs : List (Inbound A)) → site ≡ site' → o ≡ Some x → before ≡ []
    → AddsReports site report x before inputs → AreReportsAt site' report o inputs
at_channel site site' report o x before inputs same is none (here, reports, all) =
    subst (λ o. AreReportsAt site' report o inputs) (sym is)
    (subst (λ s. AreReportsOn s report x inputs) same (subst (AreReportsOn site report x) (sym (all ∙ ap (λ i. i ++ here) none)) reports))

-- a list without elements
pub none_in : {X : Type 0} (xs : List X) (n : ℕ) → (n == 0) ≡ true → n ≡ length xs → xs ≡ []
none_in [] n is long = refl
none_in (x ∷ xs) n is long = absurd (grind (arith, nat_tests))
