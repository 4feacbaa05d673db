use Rattle.std.proofs.Common.{◌<◌, ◌≤◌, ◌+◌, sym, subst, All, length, arith}
use Rattle.cell_table.specs.Limits.{first_outside}
use Rattle.ho_candidates.specs.declared.listed.Candidate.{Candidate}
use Rattle.ho_candidates.proofs.CandidateFacts.{IsListBelow, list-same, list-lower, list-more, list-all}
use Rattle.ho_candidates.proofs.looked.candidates.Goals as goal
use Rattle.ho_candidates.proofs.looked.candidates.Goals.{in-Some+in_ok-put, in_default}

pub put-requires-clause-last : goal.put-requires-clause-last
put-requires-clause-last g c =
    let lower = list-lower c.args.window.now c.args.site.now c.args.cell c.loop-other.other c.loop-other.found.items c.loop-other.invariant in
    subst (λ n. All (λ (x : Candidate). x.cell < n) c.loop-other.found.items) (sym c.in-Some.ensures.cell) lower

pub loop-other-preserved : goal.loop-other-preserved
loop-other-preserved g c =
    let w = c.args.window.now in
    let site = c.args.site.now in
    elim c.match-candidate_in.branch [
      | in-Some+in_ok-put v ↦
          subst (λ found. IsListBelow w site c.args.cell (c.loop-other.other + 1) found.items) (sym v.found-is)
          (list-more w site c.args.cell c.loop-other.other c.loop-other.found.items v.in-Some.candidate v.put.new.found.items
          v.in-Some.ensures.cell c.loop-other.invariant v.in-Some.ensures.found v.in-Some.ensures.only v.in_ok-put.ensures.members v.in_ok-put.ensures.order)
      | in_default v ↦
          subst (λ found. IsListBelow w site c.args.cell (c.loop-other.other + 1) found.items) (sym v.found-is)
          (list-same w site c.args.cell c.loop-other.other c.loop-other.found.items c.loop-other.invariant v.in_default.ensures.none)
    ]

pub returns-clause-members : goal.returns-clause-members
returns-clause-members g c =
    let end = c.loop-other-test.false in
    let last = c.outside_cells-other-end.ensures.value in
    let all : first_outside + length c.args.site.now.outside ≤ c.loop-other.other = omega arith in
    list-all c.args.window.now c.args.site.now c.args.cell c.loop-other.other c.loop-other.found.items c.loop-other.invariant all
