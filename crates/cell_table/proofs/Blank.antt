-- A text of white space and comments is an empty document, which lacks every key.
use Rattle.std.proofs.Common.{◌≡◌, ◌≢◌, ℕ, List, Some, Ok, Err, IfOk, IfErr, true, refl, sym, ◌∙◌, ap}
use Rattle.std.proofs.lemmas.Bool.{false≢true}
use Rattle.std.specs.Result.{is_ok}
use Rattle.toml.specs.Data.{no_members, table}
use Rattle.toml.specs.Errors.{IsBlank}
use Rattle.toml.specs.Parse.{parse_document, lines}
use Rattle.cell_table.specs.declared.fault.Key.TheVariants as key
use Rattle.cell_table.specs.declared.fault.SiteFault.TheVariants.{Toml, Missing, Range, Twice, NoTraffic, NoMemory}
use Rattle.cell_table.specs.Views.{SiteView}
use Rattle.cell_table.specs.SiteFile.{handover_at, Read, site_of, read_site}

empty_document : (text : List ℕ) → IsBlank text → parse_document text ≡ Some no_members
unfolding parse_document lines
empty_document text blank = rw blank refl

empty_site : site_of (table no_members) ≡ Err (Missing key.Handover)
unfolding site_of handover_at
empty_site = refl

pub read_site-blank : (text : List ℕ) → IsBlank text → read_site text ≡ Err (Missing key.Handover)
read_site-blank text blank = rw (empty_document text blank) empty_site

-- what is answered where a document lacks its first key
pub blank_answer : (answer said : Read SiteView) → IfOk answer (λ site. said ≡ Ok site) → IfErr answer (λ fault. fault ≢ NoMemory → said ≡ Err fault)
    → (answer ≡ Err NoMemory → is_ok said ≡ true) → said ≡ Err (Missing key.Handover) → answer ≡ Err (Missing key.Handover)
blank_answer (Ok site) said described refused memory lacks =
    let differ : Ok site ≡ Err (Missing key.Handover) = sym described ∙ lacks in
    cc
blank_answer (Err Toml) said described refused memory lacks = sym (refused (λ e. cc)) ∙ lacks
blank_answer (Err (Missing k)) said described refused memory lacks = sym (refused (λ e. cc)) ∙ lacks
blank_answer (Err (Range k)) said described refused memory lacks = sym (refused (λ e. cc)) ∙ lacks
blank_answer (Err (Twice what)) said described refused memory lacks = sym (refused (λ e. cc)) ∙ lacks
blank_answer (Err (NoTraffic cell)) said described refused memory lacks = sym (refused (λ e. cc)) ∙ lacks
blank_answer (Err NoMemory) said described refused memory lacks =
    absurd (false≢true (sym (ap is_ok lacks) ∙ memory refl))
