use Rattle.std.proofs.Common.{Some, is_some, refl, sym, ◌∙◌, ap, ◌++◌, []}
use Rattle.std.specs.FinMap as map
use Rattle.radio_book.specs.Journal.{run_back, journal_of}
use Rattle.radio_book.specs.PutBack.{put_back}
use Rattle.radio_book.proofs.RunBack.{runs_last_first}
use Rattle.radio_book.proofs.PutBack.{kept_again}
use Rattle.radio_book.proofs.records.Records.run_back.Goals as goal

pub loop-inverse-init : goal.loop-inverse-init
loop-inverse-init g c = record {
  leads = ap (λ js. run_back c.args.call js (put_back c.args.call (Some c.args.entry) c.args.self.now)) c.journal-journal.ensures
      ∙ ap (run_back c.args.call (journal_of c.args.entry.call.attempt)) (kept_again c.args.call c.args.entry c.args.self.now c.requires.call (sym c.requires.timer));
  calls = refl;
}

pub loop-inverse-preserved : goal.loop-inverse-preserved
loop-inverse-preserved g c =
    let before = put_back c.args.call c.loop-inverse.kept c.loop-inverse.self in
    record {
      leads = ap (run_back c.args.call c.pop.new.self) (c.run_inverse-kept.ensures.run c.args.call)
          ∙ sym (runs_last_first c.args.call c.pop.new.self c.in-Some.inverse before)
          ∙ ap (λ js. run_back c.args.call js before) (sym c.in-Some.ensures.items)
          ∙ c.loop-inverse.invariant.leads;
      calls = c.run_inverse-kept.ensures.calls ∙ c.loop-inverse.invariant.calls;
    }

pub put_back-requires : goal.put_back-requires
put_back-requires g c = ap (λ m. is_some (map.get m c.args.call)) c.loop-inverse.invariant.calls ∙ ap is_some c.requires.call

pub returns : goal.returns
returns g c =
    let before = put_back c.args.call c.loop-inverse.kept c.loop-inverse.self in
    c.put_back.ensures
    ∙ sym (ap (λ js. run_back c.args.call js before) (c.in_default.ensures.items ∙ ap (λ js. js ++ []) c.in_default.ensures.empty))
    ∙ c.loop-inverse.invariant.leads
