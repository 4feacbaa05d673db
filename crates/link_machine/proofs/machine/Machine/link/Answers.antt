use Rattle.std.proofs.Common.{◌≡◌, ◌++◌, List, ℕ, OnOk, OnErr, subst, sym}
use Rattle.link_machine.specs.declared.calls.CallFacts.{CallFacts}
use Rattle.link_machine.specs.declared.pass.Pass.TheVariants.{Link}
use Rattle.link_machine.specs.Laws.{AllAgree}
use Rattle.link_machine.specs.Machine.{all_moved, all_done, moved_until, done_until}
use Rattle.link_machine.specs.Passes.{passed}
use Rattle.link_machine.proofs.Agreeing.{each_linked}
use Rattle.link_machine.proofs.Walks.{on_ok}
use Rattle.link_machine.proofs.machine.Machine.link.Goals as goal

pub returns-clause-done : goal.returns-clause-done
returns-clause-done g c =
    subst (λ (calls : List CallFacts). OnOk c.go_through.result (c.go_through.new.out.items ≡ c.args.out.now.items ++ all_done (passed c.args.book.now calls (Link c.args.cell c.args.trx c.args.is_up)) c.args.self.now.channels.items))
    c.deref.ensures.value c.go_through.ensures.done

pub returns-clause-told : goal.returns-clause-told
returns-clause-told g c =
    subst (λ (calls : List CallFacts). OnErr c.go_through.result ((n : ℕ) ×
    (c.go_through.new.channels.items ≡ moved_until (passed c.args.book.now calls (Link c.args.cell c.args.trx c.args.is_up)) n c.args.self.now.channels.items) ×
    (c.go_through.new.out.items ≡ c.args.out.now.items ++ done_until (passed c.args.book.now calls (Link c.args.cell c.args.trx c.args.is_up)) n c.args.self.now.channels.items)))
    c.deref.ensures.value c.go_through.ensures.told

pub returns-clause-agree : goal.returns-clause-agree
returns-clause-agree g c =
    on_ok (c.go_through.new.channels.items ≡ all_moved (passed c.args.book.now c.deref.result.now (Link c.args.cell c.args.trx c.args.is_up)) c.args.self.now.channels.items)
    (AllAgree c.args.book.now c.args.self.now.channels.items → AllAgree c.args.book.now c.go_through.new.channels.items) c.go_through.result
    (λ same agreed. subst (AllAgree c.args.book.now) (sym same) (each_linked c.args.book.now c.deref.result.now c.args.cell c.args.trx c.args.is_up c.args.self.now.channels.items agreed))
    c.go_through.ensures.channels
