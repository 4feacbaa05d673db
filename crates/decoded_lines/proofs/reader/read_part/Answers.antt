use Rattle.std.proofs.Common.{◌≡◌, ◌≢◌, ◌+◌, length, arith, rules, subst, refl, Some, None}
use Rattle.std.specs.List.{position}
use Rattle.std.specs.Io.BufRead.{FillKeeps}
use Rattle.std.proofs.BufReadLemmas.{Consumes_shown}
use Rattle.decoded_lines.specs.Reading.{is_feed}
use Rattle.decoded_lines.proofs.ReadingLemmas.{passes_whole, passes_open, feed_within}
use Rattle.decoded_lines.proofs.reader.read_part.Goals as goal

pub returns-in_ok-keep-in-Some-clause-bounded : goal.returns-in_ok-keep-in-Some-clause-bounded
returns-in_ok-keep-in-Some-clause-bounded g c = c.in_ok-keep-in-Some.ensures.bounded

pub returns-in_ok-keep-in-None-clause-bounded : goal.returns-in_ok-keep-in-None-clause-bounded
returns-in_ok-keep-in-None-clause-bounded g c = c.in_ok-keep-in-None.ensures.bounded

pub returns-in_ok-keep-in-Some-clause-passed : goal.returns-in_ok-keep-in-Some-clause-passed
returns-in_ok-keep-in-Some-clause-passed g c =
    let shown = c.in-Ok.shown.now in
    let place = c.in-Some.place in
    let rested = c.fill_buf.follows.lender-at-none in
    let filled = subst (FillKeeps _ (g.R.Read.remaining rested) (g.R.BufRead.consumable_len rested)) c.in-Ok.is c.fill_buf.follows.holds-at-none in
    let found : position is_feed shown ≡ Some place = search rules in
    let moved = Consumes_shown _ _ _ _ shown (place + 1) (feed_within shown place found) c.in-Ok.ensures.front c.in-Ok.ensures.end filled.0 filled.1 c.consume.ensures.bytes in
    passes_whole _ _ shown _ _ place found c.in-Ok.ensures.front moved.0 c.in_ok-keep-in-Some.ensures.kept

pub returns-in_ok-keep-in-None-clause-passed : goal.returns-in_ok-keep-in-None-clause-passed
returns-in_ok-keep-in-None-clause-passed g c =
    let shown = c.in-Ok.shown.now in
    let rested = c.fill_buf.follows.lender-at-none in
    let filled = subst (FillKeeps _ (g.R.Read.remaining rested) (g.R.BufRead.consumable_len rested)) c.in-Ok.is c.fill_buf.follows.holds-at-none in
    let none : position is_feed shown ≡ None = search rules in
    let some : length shown ≢ 0 = grind (arith, c.is_empty.ensures, c.if-is_empty.false) in
    let moved = Consumes_shown _ _ _ _ shown (length shown) (omega arith) c.in-Ok.ensures.front c.in-Ok.ensures.end filled.0 filled.1 c.consume-in-None.ensures.bytes in
    passes_open _ _ shown _ _ (length shown) none some refl moved.0 c.in_ok-keep-in-None.ensures.kept
