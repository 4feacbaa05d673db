use Rattle.std.proofs.Common.{◌≡◌, ◌<◌, ◌+◌, ◌∙◌, ap, get_or, length, refl, arith, rules, vec_len}
use Rattle.std.proofs.lemmas.List.{length-set}
use Rattle.link_machine.specs.Passes.{passed}
use Rattle.link_machine.proofs.Walks.{step_moved, step_done, end_moved, end_done, none_moved, none_done, on_err}
use Rattle.link_machine.proofs.pass.go_through.Goals as goal

pub loop-place-init : goal.loop-place-init
loop-place-init g c = record {
  long = refl;
  moved = none_moved (passed c.args.book.now c.args.calls.now c.args.pass) c.args.channels.now.items;
  done = none_done (passed c.args.book.now c.args.calls.now c.args.pass) c.args.channels.now.items c.args.out.now.items;
}

pub returns-in_err-push_done-clause-told : goal.returns-in_err-push_done-clause-told
returns-in_err-push_done-clause-told g c =
    on_err _ c.from_residual.result (c.loop-place.place, c.loop-place.invariant.moved, c.in_err-push_done.ensures.unchanged ∙ c.loop-place.invariant.done)

pub loop-place-preserved : goal.loop-place-preserved
loop-place-preserved g c =
    let f = passed c.args.book.now c.args.calls.now c.args.pass in
    let n = c.loop-place.place in
    let cs = c.args.channels.now.items in
    let items = c.loop-place.channels.items in
    let moved = c.passed-moved.result in
    let here = c.index.result.now in
    let by : moved ≡ f (get_or items n here) = c.passed-moved.ensures ∙ ap f c.index.ensures in
    let count : vec_len c.args.channels.now ≡ length c.args.channels.now.items = search rules in
    let within : n < length items = omega (arith, c.loop-place-test.true, c.loop-place.invariant.long, c.len-place-end.ensures, count) in
    record {
      long = length-set items n moved.channel ∙ c.loop-place.invariant.long;
      moved = step_moved f n (n + 1) cs items here moved (omega arith) within c.loop-place.invariant.moved by;
      done = step_done f n (n + 1) cs items here moved c.args.out.now.items c.loop-place.out.items c.push_done.new.out.items (omega arith) within c.loop-place.invariant.moved by c.loop-place.invariant.done c.in_ok-push_done.ensures.told;
    }

pub returns-clause-channels : goal.returns-clause-channels
returns-clause-channels g c =
    let count : vec_len c.args.channels.now ≡ length c.args.channels.now.items = search rules in
    end_moved (passed c.args.book.now c.args.calls.now c.args.pass) c.loop-place.place c.args.channels.now.items c.loop-place.channels.items
    (omega (arith, c.loop-place-test.false, c.loop-place.invariant.long, c.len-place-end.ensures, count)) c.loop-place.invariant.moved

pub returns-clause-done : goal.returns-clause-done
returns-clause-done g c =
    let count : vec_len c.args.channels.now ≡ length c.args.channels.now.items = search rules in
    end_done (passed c.args.book.now c.args.calls.now c.args.pass) c.loop-place.place c.args.channels.now.items c.loop-place.channels.items c.args.out.now.items c.loop-place.out.items
    (omega (arith, c.loop-place-test.false, c.loop-place.invariant.long, c.len-place-end.ensures, count)) c.loop-place.invariant.moved c.loop-place.invariant.done
