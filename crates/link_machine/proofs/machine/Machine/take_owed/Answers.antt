use Rattle.std.proofs.Common.{◌≡◌, ◌∙◌, ap, rules, set, slice_get, Some}
use Rattle.std.specs.List.{position}
use Rattle.link_machine.specs.Channels.{owes}
use Rattle.link_machine.specs.Machine.{first_owed}
use Rattle.link_machine.proofs.Owing.{none_owed, read_there, owed_first, paid_first}
use Rattle.link_machine.proofs.machine.Machine.take_owed.Goals as goal

pub returns-in_err-place-clause-none : goal.returns-in_err-place-clause-none
returns-in_err-place-clause-none g c =
    let same : c.from_residual.result ≡ first_owed c.args.self.now.channels.items = search rules in
    none_owed c.args.self.now.channels.items c.from_residual.result same

pub returns-clause-owed : goal.returns-clause-owed
returns-clause-owed g c =
    let cs = c.args.self.now.channels.items in
    let n = c.in_ok-place.place in
    let channel = c.in_ok-channel.field-0.now in
    let read = c.in_ok-channel.ensures.lookup in
    let at : Some n ≡ position owes cs = c.in_ok-place.ensures ∙ ap (position owes) c.deref.ensures.value in
    let there : slice_get cs n ≡ Some channel = read_there cs c.deref-2.result.now n channel c.deref-2.ensures.value read.3.0 read.1 in
    c.owed_of.ensures ∙ owed_first cs n channel at there

pub returns-clause-channels : goal.returns-clause-channels
returns-clause-channels g c =
    let cs = c.args.self.now.channels.items in
    let n = c.in_ok-place.place in
    let channel = c.in_ok-channel.field-0.now in
    let read = c.in_ok-channel.ensures.lookup in
    let at : Some n ≡ position owes cs = c.in_ok-place.ensures ∙ ap (position owes) c.deref.ensures.value in
    let there : slice_get cs n ≡ Some channel = read_there cs c.deref-2.result.now n channel c.deref-2.ensures.value read.3.0 read.1 in
    ap (set cs n) c.paid.ensures ∙ paid_first c.args.number cs n channel at there

pub returns-clause-none : goal.returns-clause-none
returns-clause-none g c = none_owed c.args.self.now.channels.items c.owed_of.result (returns-clause-owed g c)
