use Rattle.std.proofs.Common.{Some, sym, ◌∙◌, ap, subst}
use Rattle.radio_tables.specs.Stages.{stage_row}
use Rattle.radio_tables.proofs.EntryFacts.{call_kept}
use Rattle.radio_book.specs.State.{state_of}
use Rattle.radio_book.specs.Sound.{HasTarget}
use Rattle.radio_book.proofs.records.Records.activate.Goals as goal

pub send-requires : goal.send-requires
send-requires g c =
    let t = c.in-Some-target.target in
    let a = c.in-Some-attempt.attempt in
    let b = c.args.self.now in
    let known = sym c.entry.ensures.call ∙ ap call_kept c.in-Some.is in
    let opened = ap (λ r. r.attempt) (sym c.record.ensures) ∙ c.in-Some-attempt.is in
    let held = c.requires.target_by_stage c.args.call c.in-Some.entry.call a known opened in
    let aims = subst (λ o. HasTarget c.args.call (stage_row a.stage).target o (state_of b)) c.in-Some-target.is held in
    ap (λ b. state_of b t) c.set_record.ensures ∙ subst (λ s. HasTarget c.args.call (stage_row s).target (Some t) (state_of b)) c.in-Reserved.is aims
