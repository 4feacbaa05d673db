use Rattle.std.proofs.Common.{◌≡◌, ◌∷◌, ◌++◌, [], Some, None, sym, ap, ◌∙◌, subst}
use Rattle.run_counts.specs.Reports.{standing_of, standing_behind, report_of, reports_of}
use Rattle.run_counts.specs.Counts.{AreCountsOf}
use Rattle.run_counts.proofs.summary.Summary.add.Goals as goal
use Rattle.run_counts.proofs.summary.Summary.add.Goals.{in-Some+in_ok-count_report, in_default}
use Rattle.run_counts.proofs.Summed.{stood, one_more, none_more}

pub returns-clause-counted : goal.returns-clause-counted
returns-clause-counted g c lines room summed =
    let t = c.args.told in
    let before = c.args.self.now in
    elim c.match-report_of.branch [
      | in-Some+in_ok-count_report w ↦
          let standing : c.standing_behind-self.result ≡ standing_behind before.standing t = c.standing_behind-self.ensures ∙ ap (λ s. standing_behind s.standing t) w.self-is in
          let is : report_of (standing_of lines) t ≡ Some w.in-Some.report = ap (λ s. report_of s t) (sym summed.standing) ∙ sym c.report_of.ensures ∙ w.in-Some.is in
          record {
            standing = stood lines t before.standing c.standing_behind-self.result summed.standing standing;
            counts = subst (λ s. AreCountsOf (reports_of (lines ++ t ∷ [])) s.rows.items) (sym w.self-is)
                (one_more lines t w.in-Some.report before.rows.items w.count_report.new.rows.items summed.counts room is w.in_ok-count_report.ensures.counted);
          }
      | in_default w ↦
          let standing : c.standing_behind-self.result ≡ standing_behind before.standing t = c.standing_behind-self.ensures ∙ ap (λ s. standing_behind s.standing t) w.self-is in
          let is : report_of (standing_of lines) t ≡ None = ap (λ s. report_of s t) (sym summed.standing) ∙ sym c.report_of.ensures ∙ w.in_default.is in
          record {
            standing = stood lines t before.standing c.standing_behind-self.result summed.standing standing;
            counts = subst (λ s. AreCountsOf (reports_of (lines ++ t ∷ [])) s.rows.items) (sym w.self-is) (none_more lines t before.rows.items summed.counts is);
          }
    ]
