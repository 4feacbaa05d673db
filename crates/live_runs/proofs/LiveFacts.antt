-- What came of lines, one after another.
use Rattle.std.proofs.Common.{◌≡◌, ◌≢◌, ◌⊎◌, inl, inr, ◌++◌, ◌∷◌, ◌||◌, ◌&&◌, ℕ, ◌<◌, Bool, true, false, not, List, [], Option, Some, None, IfSome, length, take, refl, sym, ap, subst, ◌∙◌, append_assoc, arith, Result, Ok, Err, OnOk, is_some, length-take, append-nil}
use Rattle.std.specs.Io.KnownBytes.{IsAtEnd}
use Rattle.radio_book.specs.State.{State}
use Rattle.decoded_lines.specs.Reading.{first_line, behind_line, longest_line, most_kept, Gives}
use Rattle.decoded_lines.specs.declared.reader.Found.TheVariants as found
use Rattle.lab_script.specs.Script.{is_sim}
use Rattle.lab_runs.specs.declared.course.Course.{Course}
use Rattle.lab_runs.specs.declared.controllers.Controllers.{Controllers}
use Rattle.run_listeners.specs.declared.turn.Turn.{Turn}
use Rattle.lab_runs.specs.Turns.{Position, is_attach}
use Rattle.lab_runs.specs.Course.{IsAnewAt, BeginsWith, positions_of, has_peer}
use Rattle.lab_runs.specs.Course as of_course
use Rattle.live_runs.specs.declared.taking.Live.{Live}
use Rattle.lab_script.specs.declared.script.Item.{Item}
use Rattle.live_runs.specs.declared.line.Said.TheVariants as said
use Rattle.live_runs.specs.Lines.{script_line, can_be_read, given_by, sim_by, sim_behind, items_from, Says}
use Rattle.live_runs.specs.Live.{has_sim, history_of, IsShort, StaysOrRests, FirstRests, Rests, PlaysWithRests, Goes, Takes, TakesFirst, TakesAll, Played}
use Rattle.live_runs.proofs.InputFacts.{from_first, none_from, long_unreadable, long_behind, unreadable_gives_none, unreadable_gives_none_by, sim_gives_none, sim_stays, other_gives, other_attaches_none}

-- a desk that begins anew twice did so once
anew_twice : (s s' s'' : Position) → IsAnewAt s s' → IsAnewAt s' s'' → IsAnewAt s s''
anew_twice s s' s'' h k = record {
  desk = record {
    opening = k.desk.opening ∙ h.desk.book;
    book = k.desk.book ∙ h.desk.book;
    history = k.desk.history;
    room = omega (arith, k.desk.room, h.desk.room, ap length h.desk.history);
  };
  reports = k.reports ∙ h.reports;
  of_site = k.of_site ∙ h.of_site;
}

stays_twice : (s s' s'' : Position) → StaysOrRests s s' → StaysOrRests s' s'' → StaysOrRests s s''
stays_twice s s' s'' (inl e) k = subst (λ (x : Position). StaysOrRests x s'') e k
stays_twice s s' s'' (inr h) (inl e) = inr (subst (λ (x : Position). IsAnewAt s x) (sym e) h)
stays_twice s s' s'' (inr h) (inr k) = inr (anew_twice s s' s'' h k)

first_stays : (all all' : List Position) → all' ≡ all → FirstRests all all'
first_stays [] all' e = e
first_stays (s ∷ others) all' e = (s, e, inl refl)

rests_twice : (a b c : List Position) → FirstRests a b → FirstRests b c → FirstRests a c
rests_twice [] b c e k = subst (λ (x : List Position). FirstRests x c) e k
rests_twice (s ∷ others) b c (s', e, h) k =
    let behind : FirstRests (s' ∷ others) c = subst (λ (x : List Position). FirstRests x c) e k in
    (behind.0, behind.1, stays_twice s s' behind.0 h behind.2)

-- what began anew, and then was given more
rests_before : {A : Type 0} (a b : List Position) (items : List (Item A)) (turns : List (Turn A)) (c : List Position)
    → FirstRests a b → PlaysWithRests items b turns c → PlaysWithRests items a turns c
rests_before a b [] turns c h (none, k) = (none, rests_twice a b c h k)
rests_before a b (item ∷ items) turns c h (before, m, mine, rest, is, k, plays, more) =
    (before, m, mine, rest, is, rests_twice a b before h k, plays, more)

plays_joined : {A : Type 0} (items more : List (Item A)) (a : List Position) (xs : List (Turn A)) (b : List Position) (ys : List (Turn A)) (c : List Position)
    → PlaysWithRests items a xs b → PlaysWithRests more b ys c → PlaysWithRests (items ++ more) a (xs ++ ys) c
plays_joined [] more a xs b ys c (none, h) k = subst (λ xs. PlaysWithRests more a (xs ++ ys) c) (sym none) (rests_before a b more ys c h k)
plays_joined (item ∷ items) more a xs b ys c (before, m, mine, rest, is, h, plays, others) k =
    (before, m, mine, rest ++ ys, ap (λ xs. xs ++ ys) is ∙ append_assoc mine rest ys, h, plays, plays_joined items more m rest b ys c others k)

-- nothing was handled
pub stayed : {A : Type 0} (s s' : Live A) → s'.course.controllers ≡ s.course.controllers → Goes [] s s'
stayed {A = A} s s' same = record {
  turns = [];
  plays = (refl, first_stays (positions_of s.course.controllers) (positions_of s'.course.controllers) (ap (λ (all : Controllers A). positions_of all) same));
  peer = ap (λ (all : Controllers A). is_some all.peer) same;
}

-- what a course followed, whose turns aren't kept
pub went : {A : Type 0} (item : Item A) (s s' : Live A) (c : Course A) → of_course.Follows (item ∷ []) s.course c → s'.course.controllers ≡ c.controllers → Goes (item ∷ []) s s'
went {A = A} item s s' c h same =
    let first = positions_of s.course.controllers in
    let last = positions_of s'.course.controllers in
    record {
      turns = h.turns;
      plays = (
        first,
        positions_of c.controllers,
        h.turns,
        [],
        sym (append-nil h.turns),
        first_stays first first refl,
        h.plays,
        (refl, first_stays (positions_of c.controllers) last (ap (λ (all : Controllers A). positions_of all) same)),
      );
      peer = ap (λ (all : Controllers A). is_some all.peer) same ∙ h.peer;
    }

-- and then more
pub goes_on : {A : Type 0} (items more : List (Item A)) (s s' s'' : Live A) → Goes items s s' → Goes more s' s'' → Goes (items ++ more) s s''
goes_on {A = A} items more s s' s'' h k = record {
  turns = h.turns ++ k.turns;
  plays = plays_joined items more _ h.turns _ k.turns _ h.plays k.plays;
  peer = k.peer ∙ h.peer;
}

-- nothing changes that a course tells
pub kept_rests : {A : Type 0} (s : Live A) → Rests s s
kept_rests {A = A} s = record {
  first = first_stays (positions_of s.course.controllers) (positions_of s.course.controllers) refl;
  peer = refl;
  sim = refl;
}

-- a desk that began anew
pub anew_rests : {A : Type 0} (s s' : Live A) → IsAnewAt s.course.controllers.first s'.course.controllers.first
    → s'.course.controllers.peer ≡ s.course.controllers.peer → has_sim s' ≡ has_sim s → Rests s s'
anew_rests {A = A} s s' h peer sim = record {
  first = (s'.course.controllers.first, ap (λ (p : Option Position). s'.course.controllers.first ∷ of_course.option_list p) peer, inr h);
  peer = ap (λ (p : Option Position). is_some p) peer;
  sim = sim;
}

-- a line that can't be read changes nothing
pub unreadable_takes : {A : Type 0} (line : List ℕ) (s s' : Live A) → s' ≡ s → can_be_read (has_sim s) line ≡ false → has_sim s ≡ sim_behind (has_sim s) line → Takes true line s s'
unreadable_takes {A = A} line s s' same unreadable sim = subst (λ (t : Live A). Takes true line s t) (sym same) (record {
  goes = subst (λ (l : List (Item A)). Goes l s s) (sym (unreadable_gives_none {A = A} (has_sim s) line unreadable)) (stayed s s refl);
  sim = sim;
})

-- one that gives nothing
pub nothing_takes : {A : Type 0} (line : List ℕ) (s : Live A) → Says {A = A} (has_sim s) line said.Nothing → Takes true line s s
nothing_takes {A = A} line s h = record {
  goes = subst (λ (l : List (Item A)). Goes l s s) h.gives (stayed s s refl);
  sim = h.sim;
}

or_swap : (a b : Bool) → (a || b) ≡ (b || a)
or_swap true true = refl
or_swap true false = refl
or_swap false true = refl
or_swap false false = refl

-- one that gives an item
pub gives_takes : {A : Type 0} (line : List ℕ) (item : Item A) (s s' : Live A) → Says (has_sim s) line (said.Gives item) → Goes (item ∷ []) s s'
    → has_sim s' ≡ (is_attach item.given || has_sim s) → Takes true line s s'
gives_takes {A = A} line item s s' h goes sim = record {
  goes = subst (λ (l : List (Item A)). Goes l s s') h.gives goes;
  sim = sim ∙ (or_swap (is_attach item.given) (has_sim s) ∙ h.sim);
}

-- where no simulators may be attached, the line that attaches them changes nothing
sim_takes : {A : Type 0} (line : List ℕ) (s : Live A) → is_sim (script_line line) ≡ true → Takes false line s s
sim_takes {A = A} line s e = record {
  goes = subst (λ (l : List (Item A)). Goes l s s) (sym (sim_gives_none {A = A} (has_sim s) line e)) (stayed s s refl);
  sim = sym (sim_stays (has_sim s) line);
}

pub refused_takes : {A : Type 0} (sims : Bool) (line : List ℕ) (s : Live A) → (not sims && is_sim (script_line line)) ≡ true → Takes sims line s s
refused_takes true line s e = absurd cc
refused_takes false line s e = sim_takes line s e

-- any other is taken as where they may be
pub other_takes : {A : Type 0} (sims : Bool) (line : List ℕ) (s s' : Live A) → (not sims && is_sim (script_line line)) ≡ false → Takes true line s s' → Takes sims line s s'
other_takes true line s s' e h = h
other_takes {A = A} false line s s' e h = record {
  goes = subst (λ (l : List (Item A)). Goes l s s') (sym (other_gives {A = A} (has_sim s) line e)) h.goes;
  sim = h.sim ∙ other_attaches_none (has_sim s) line e;
}

-- and behind a line the desk may begin anew
pub takes_and_rests : {A : Type 0} (sims : Bool) (line : List ℕ) (s s' s'' : Live A) → Takes sims line s s' → Rests s' s'' → Takes sims line s s''
takes_and_rests {A = A} sims line s s' s'' h k = record {
  goes = subst (λ (l : List (Item A)). Goes l s s'') (append-nil (given_by sims (has_sim s) line))
      (goes_on (given_by sims (has_sim s) line) [] s s' s'' h.goes (record { turns = []; plays = (refl, k.first); peer = k.peer }));
  sim = k.sim ∙ h.sim;
}

-- of a line that is too long the front says as little as the whole
pub long_takes : {A : Type 0} (sims : Bool) (line kept : List ℕ) (s s' : Live A) → longest_line < length line → kept ≡ take most_kept line → Takes sims kept s s' → Takes sims line s s'
long_takes {A = A} sims line kept s s' long is h =
    let over : longest_line < length kept = omega (arith, long, ap length is, length-take most_kept line) in
    let none : given_by {A = A} sims (has_sim s) line ≡ [] = unreadable_gives_none_by {A = A} sims (has_sim s) line (long_unreadable (has_sim s) line long) in
    let as_little : given_by {A = A} sims (has_sim s) kept ≡ [] = unreadable_gives_none_by {A = A} sims (has_sim s) kept (long_unreadable (has_sim s) kept over) in
    record {
      goes = subst (λ (l : List (Item A)). Goes l s s') (as_little ∙ sym none) h.goes;
      sim = h.sim ∙ (long_behind sims (has_sim s) kept over ∙ sym (long_behind sims (has_sim s) line long));
    }

-- the first line was taken, as it was read
pub takes_line : {A : Type 0} (sims : Bool) (old new : Option (List ℕ)) (line : List ℕ) (s s' : Live A) → Gives found.Line old new line → Takes sims line s s' → TakesFirst sims old new s s'
takes_line sims None new line s s' gives takes = tt
takes_line {A = A} sims (Some octets) new line s s' (some, short, is, left) takes = (some, subst (λ (l : List ℕ). Takes sims l s s') is takes, left)

pub takes_long : {A : Type 0} (sims : Bool) (old new : Option (List ℕ)) (line : List ℕ) (s s' : Live A) → Gives found.TooLong old new line → Takes sims line s s' → TakesFirst sims old new s s'
takes_long sims None new line s s' gives takes = tt
takes_long sims (Some octets) new line s s' (long, is, left) takes = (some, long_takes sims (first_line octets) line s s' long is takes, left)
  where
    some : octets ≢ []
    some e = absurd (omega (arith, long, ap (λ (l : List ℕ). length (first_line l)) e))

-- What was handled so far, and what the lines give that a reader has left, is what all its lines give.
abbrev pub Follows : {A : Type 0} → Bool → Option (List ℕ) → Option (List ℕ) → Live A → Live A → Type 0
Follows {A} sims old new s0 s =
    IfSome old (λ octets. (left : List ℕ) × (new ≡ Some left) × (items : List (Item A)) × Goes items s0 s
    × (items_from sims (has_sim s0) octets ≡ items ++ items_from sims (has_sim s) left))

pub follows_begin : {A : Type 0} (sims : Bool) (octets : Option (List ℕ)) (s : Live A) → Follows sims octets octets s s
follows_begin sims None s = tt
follows_begin sims (Some octets) s = (octets, refl, [], stayed s s refl, refl)

pub follows_next : {A : Type 0} (sims : Bool) (old new next : Option (List ℕ)) (s0 s s' : Live A) → Follows sims old new s0 s → TakesFirst sims new next s s' → Follows sims old next s0 s'
follows_next sims None new next s0 s s' follows takes = tt
follows_next sims (Some octets) None next s0 s s' (left, is, items, goes, all) takes = absurd cc
follows_next {A = A} sims (Some octets) (Some ys) next s0 s s' (left, is, items, goes, all) (some, takes, behind) =
    let same : ys ≡ left = cc in
    let line = first_line ys in
    let given = given_by {A = A} sims (has_sim s) line in
    let rest : items_from {A = A} sims (has_sim s) left ≡ given ++ items_from sims (has_sim s') (behind_line ys) =
    ap (items_from {A = A} sims (has_sim s)) (sym same) ∙ from_first sims (has_sim s) ys ∙ ap (λ b. given ++ items_from sims b (behind_line ys)) (sym takes.sim) in (
      behind_line ys,
      behind,
      items ++ given,
      goes_on items given s0 s s' goes takes.goes,
      all ∙ ap (λ (l : List (Item A)). items ++ l) rest ∙ sym (append_assoc items given (items_from sims (has_sim s') (behind_line ys))),
    )

-- no line is left
pub follows_end : {A : Type 0} (sims : Bool) (old new : Option (List ℕ)) (s0 s : Live A) → Follows sims old new s0 s → IsAtEnd new → TakesAll sims old s0 s
follows_end sims None new s0 s follows end = tt
follows_end sims (Some octets) None s0 s (left, is, items, goes, all) end = absurd cc
follows_end {A = A} sims (Some octets) (Some ys) s0 s (left, is, items, goes, all) end =
    let nothing : left ≡ [] = cc in
    let whole : items_from {A = A} sims (has_sim s0) octets ≡ items =
    all ∙ (ap (λ l. items ++ items_from sims (has_sim s) l) nothing ∙ (ap (λ (l : List (Item A)). items ++ l) (none_from {A = A} sims (has_sim s)) ∙ append-nil items)) in
    subst (λ (l : List (Item A)). Goes l s0 s) (sym whole) goes

-- one controller has no peer's position
alone : {A : Type 0} (s : Live A) → has_peer s.course ≡ false → positions_of s.course.controllers ≡ s.course.controllers.first ∷ []
alone {A = A} s h = none s.course.controllers.first s.course.controllers.peer h
  where
    none : (first : Position) (peer : Option Position) → is_some peer ≡ false → (first ∷ of_course.option_list peer) ≡ first ∷ []
    none first None h = refl
    none first (Some s) h = absurd cc

-- from a book on, all was handled
pub all_played : {A : Type 0} (sims : Bool) (b : State) (old : Option (List ℕ)) (s s' : Live A) → BeginsWith b s.course.controllers.first → has_peer s.course ≡ false → has_sim s ≡ false
    → TakesAll sims old s s' → IfSome old (λ octets. Played A b (items_from sims false octets))
all_played sims b None s s' opening peer sim h = tt
all_played {A = A} sims b (Some octets) s s' opening peer sim h =
    let last = positions_of s'.course.controllers in
    record {
      first = s.course.controllers.first;
      opening = opening;
      turns = h.turns;
      last = last;
      plays = subst (λ b. PlaysWithRests (items_from {A = A} sims b octets) (s.course.controllers.first ∷ []) h.turns last) sim
          (subst (λ all. PlaysWithRests (items_from {A = A} sims (has_sim s) octets) all h.turns last) (alone s peer) h.plays);
    }

-- all was played where a call went well
pub where_played : {A X E : Type 0} (sims : Bool) (b : State) (old : Option (List ℕ)) (s s' : Live A) (r : Result X E) → BeginsWith b s.course.controllers.first → has_peer s.course ≡ false → has_sim s ≡ false
    → OnOk r (TakesAll sims old s s') → OnOk r (IfSome old (λ octets. Played A b (items_from sims false octets)))
where_played sims b old s s' (Ok x) opening peer sim h = all_played sims b old s s' opening peer sim h
where_played sims b old s s' (Err f) opening peer sim h = tt

-- a history that is short for none, or for so many entries, is short for these
pub short_for : {A : Type 0} (n entries : ℕ) (course : Course A) → (n ≡ 0) ⊎ (n ≡ entries) → IsShort n course → IsShort entries course
short_for n entries course (inr same) short = subst (λ k. IsShort k course) same short
short_for n entries course (inl none) (inr empty) = inr empty
short_for n entries course (inl none) (inl less) =
    let fewer : length (history_of course) < 0 = subst (λ k. length (history_of course) < k) none less in
    absurd (omega (arith, fewer))
