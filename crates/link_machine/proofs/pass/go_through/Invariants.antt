use Rattle.std.proofs.Common.{◌≡◌, ◌++◌, length}
use Rattle.link_machine.specs.Machine.{moved_until, done_until}
use Rattle.link_machine.specs.Passes.{passed}
use Rattle.link_machine.proofs.pass.go_through.Given as goal

-- so many have moved, and are told
abbrev pub invariant-loop-place : goal.invariant-loop-place
invariant-loop-place g l = record {
  long : length l.channels.items ≡ length l.fn.channels.items;
  moved : l.channels.items ≡ moved_until (passed l.book l.calls l.pass) l.place l.fn.channels.items;
  done : l.out.items ≡ l.fn.out.items ++ done_until (passed l.book l.calls l.pass) l.place l.fn.channels.items;
}
