-- All settled attempts, taken out of what the controllers of a run were asked.
use Rattle.std.specs.Prelude.{◌≡◌, ◌∷◌, ℕ, true, List, [], map, Option, Some, None, is_some, IfSome}
use Rattle.cell_table.specs.SiteFile.{described_site}
use Rattle.cell_table.specs.Site.{SiteView}
use Rattle.lab_script.specs.Script.{first_unreadable, items_of}
use Rattle.lab_runs.specs.declared.course.Run.{Run}
use Rattle.lab_runs.specs.Turns.{Position}
use Rattle.lab_runs.specs.Course.{IsRunOf, option_list}
use Rattle.radio_desk.specs.Audit.{IsAuditOf}
use Rattle.audits.specs.declared.runs.Found.{Found}
use Rattle.audits.specs.declared.runs.Audits.{Audits}

-- each is the audit of the controller at its place
abbrev pub AreTold : List Found → List Position → Type 0
AreTold [] [] = Unit {0}
AreTold [] (s ∷ ss) = ⊥
AreTold (f ∷ fs) [] = ⊥
AreTold (f ∷ fs) (s ∷ ss) = IsAuditOf s.0.desk f.audit × AreTold fs ss

-- of a run of the script over the sites these are the audits of its controllers at the end
pub record AreAuditsOf (A : Type 0) (sites : List SiteView) (script : List ℕ) (audits : Audits) : Type 0 where
  pub run : Run A
  pub ran : IsRunOf sites (items_of script) run
  pub first : IsAuditOf run.controllers.first.0.desk audits.first.audit
  pub peer_found : AreTold (option_list audits.peer) (option_list run.controllers.peer)

-- the texts are a site, a peer's where one is given, and a script for them, whose run has these audits
pub record IsAuditedRun (A : Type 0) (site : List ℕ) (peer : Option (List ℕ)) (script : List ℕ) (audits : Audits) : Type 0 where
  pub sites : List SiteView
  pub described : map described_site (site ∷ option_list peer) ≡ map Some sites
  pub readable : first_unreadable (is_some peer) script ≡ None
  pub told : AreAuditsOf A sites script audits

-- of each controller all that remains comes to the same
abbrev pub AreSame : Audits → Type 0
AreSame audits = (audits.first.audit.same ≡ true) × IfSome audits.peer (λ (found : Found). found.audit.same ≡ true)

-- of a controller what remains comes to something else
abbrev pub AreApart : Audits → Type 0
AreApart audits = AreSame audits → ⊥

-- the texts are a site, a peer's where one is given, and a script for them, and this holds of the audits of its run
abbrev pub OfItsAudits : (A : Type 0) → (Audits → Type 0) → List ℕ → Option (List ℕ) → List ℕ → Type 0
OfItsAudits A P site peer script = (audits : Audits) × IsAuditedRun A site peer script audits × P audits
