use Rattle.std.proofs.Common.{rules, ◌≡◌, ◌<◌, ◌%◌, ◌++◌, [], refl, sym, ap, ◌∙◌, length, vec_len, inl, inr}
use Rattle.std.proofs.lemmas.List.{append-nil}
use Rattle.std.proofs.lemmas.Result.{on_ok_weaker, on_err_weaker}
use Rattle.call_worker.proofs.Closings.{gives, keeps}
use Rattle.call_worker.proofs.office.Office.give.Goals as goal

pub returns-clause-ok : goal.returns-clause-ok
returns-clause-ok g c =
    let same = ap (λ y. y.workers) c.self.view_is in
    let long : vec_len c.self.inside.posts ≡ length c.self.inside.posts.items = search rules in
    let some : 0 < vec_len c.self.inside.posts = c.self.invariant.0 in
    let n = c.in_ok-number.ensures.ok in
    on_ok_weaker c.give.result (λ e. record {
      worker = c.in_ok-number.number % length c.args.self.now.workers;
      is_for = record {
        asked = n.0;
        number = c.in_ok-number.number;
        front = n.1 ∙ ap (λ y. y.front ++ n.0) c.self.view_is;
        is_number = rw (ap (λ y. y.front) c.self.view_is) at n.2;
        place = refl;
      };
      gives = gives _ _ _ _ _ _ c.index_mut-posted.result.now _ _ same refl (c.len.ensures ∙ long) (rw c.len.ensures some) c.index_mut-posted.ensures.value e;
    }) c.give.ensures.ok

pub returns-clause-err : goal.returns-clause-err
returns-clause-err g c =
    let same = ap (λ y. y.workers) c.self.view_is in
    on_err_weaker c.give.result (λ e. keeps _ _ _ c.index_mut-posted.result.now _ _ same c.index_mut-posted.ensures.value e) c.give.ensures.err

pub returns-in_err-number-clause-asked : goal.returns-in_err-number-clause-asked
returns-in_err-number-clause-asked g c = ([], c.in_err-number.ensures.kept ∙ (ap (λ y. y.front) c.self.view_is ∙ sym (append-nil _)), inl refl)

pub returns-clause-asked : goal.returns-clause-asked
returns-clause-asked g c = let n = c.in_ok-number.ensures.ok in (n.0, n.1 ∙ ap (λ y. y.front ++ n.0) c.self.view_is, inr (c.in_ok-number.number, rw (ap (λ y. y.front) c.self.view_is) at n.2))

pub returns-clause-ended : goal.returns-clause-ended
returns-clause-ended g c k e =
    let same = ap (λ y. y.workers) c.self.view_is in
    let long : vec_len c.self.inside.posts ≡ length c.self.inside.posts.items = search rules in
    let n = c.in_ok-number.ensures.ok in record {
      asked = n.0;
      number = c.in_ok-number.number;
      front = n.1 ∙ ap (λ y. y.front ++ n.0) c.self.view_is;
      is_number = rw (ap (λ y. y.front) c.self.view_is) at n.2;
      place = c.give.ensures.ended k e ∙ ap (λ l. c.in_ok-number.number % l) (c.len.ensures ∙ (long ∙ ap (λ l. length l) same));
    }
