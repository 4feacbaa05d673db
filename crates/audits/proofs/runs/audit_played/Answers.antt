use Rattle.audits.proofs.runs.audit_played.Goals as goal

pub returns-in_ok-audits_told-in-Some-clause-told : goal.returns-in_ok-audits_told-in-Some-clause-told
returns-in_ok-audits_told-in-Some-clause-told g c =
    let ran = rw c.in-Some.is at c.in_ok-run.ensures.ran in
    record {
      run = c.in-Some.run';
      ran = ran;
      first = c.in_ok-audits_told-in-Some.ensures.first;
      peer_found = c.in_ok-audits_told-in-Some.ensures.peer;
    }
