-- Channels that have moved, one after the other.
use Rattle.std.proofs.Common.{◌≡◌, ℕ, ◌<◌, ◌≤◌, zero, suc, List, [], ◌∷◌, ◌++◌, length, map, take, slice_get, get_or, set, refl, sym, ◌∙◌, ap, arith, append_assoc, append-nil, Result, Ok, Err, OnOk, OnErr}
use Rattle.std.proofs.lemmas.List.{take_all}
use Rattle.channel_fsm.specs.declared.ChanId.{ChanId}
use Rattle.link_machine.specs.declared.channel.Channel.{Channel}
use Rattle.link_machine.specs.declared.moving.Done.{Done}
use Rattle.link_machine.specs.declared.moving.Moved.{Moved}
use Rattle.link_machine.specs.Channels.{fresh, listed}
use Rattle.link_machine.specs.Machine.{Moves, told_of, moved_until, done_until, all_moved, all_done}

-- one that hasn't moved is as it was
pub unmoved : (f : Moves) (n : ℕ) (cs : List Channel) (d : Channel) → get_or (moved_until f n cs) n d ≡ get_or cs n d
unfolding moved_until
unmoved f zero cs d = refl
unmoved f (suc n) [] d = refl
unmoved f (suc n) (c ∷ cs) d = unmoved f n cs d

-- one more has moved
pub one_more : (f : Moves) (n : ℕ) (cs : List Channel) (d : Channel) → n < length cs → set (moved_until f n cs) n (f (get_or cs n d)).channel ≡ moved_until f (suc n) cs
unfolding moved_until
one_more f zero [] d within = absurd (omega arith)
one_more f zero (c ∷ cs) d within = refl
one_more f (suc n) [] d within = absurd (omega arith)
one_more f (suc n) (c ∷ cs) d within = ap (λ rest. (f c).channel ∷ rest) (one_more f n cs d (omega arith))

pub one_more_done : (f : Moves) (n : ℕ) (cs : List Channel) (d : Channel) → n < length cs → done_until f n cs ++ told_of (f (get_or cs n d)).done ≡ done_until f (suc n) cs
unfolding done_until
one_more_done f zero [] d within = absurd (omega arith)
one_more_done f zero (c ∷ cs) d within = sym (append-nil (told_of (f c).done))
one_more_done f (suc n) [] d within = absurd (omega arith)
one_more_done f (suc n) (c ∷ cs) d within = append_assoc (told_of (f c).done) (done_until f n cs) (told_of (f (get_or cs n d)).done) ∙ ap (λ rest. told_of (f c).done ++ rest) (one_more_done f n cs d (omega arith))

-- all have moved
pub all_have_moved : (f : Moves) (n : ℕ) (cs : List Channel) → length cs ≤ n → moved_until f n cs ≡ all_moved f cs
unfolding moved_until
all_have_moved f zero [] past = refl
all_have_moved f zero (c ∷ cs) past = absurd (omega arith)
all_have_moved f (suc n) [] past = refl
all_have_moved f (suc n) (c ∷ cs) past = ap (λ rest. (f c).channel ∷ rest) (all_have_moved f n cs (omega arith))

pub all_are_done : (f : Moves) (n : ℕ) (cs : List Channel) → length cs ≤ n → done_until f n cs ≡ all_done f cs
unfolding done_until
all_are_done f zero [] past = refl
all_are_done f zero (c ∷ cs) past = absurd (omega arith)
all_are_done f (suc n) [] past = refl
all_are_done f (suc n) (c ∷ cs) past = ap (λ rest. told_of (f c).done ++ rest) (all_are_done f n cs (omega arith))

pub as_many : (f : Moves) (n : ℕ) (cs : List Channel) → length (moved_until f n cs) ≡ length cs
unfolding moved_until
as_many f zero cs = refl
as_many f (suc n) [] = refl
as_many f (suc n) (c ∷ cs) = ap suc (as_many f n cs)

-- the channels of one more place are at rest
more_fresh : (n : ℕ) (xs : List ChanId) → map fresh (take n xs) ++ map fresh (listed (slice_get xs n)) ≡ map fresh (take (suc n) xs)
more_fresh zero [] = refl
more_fresh zero (x ∷ xs) = refl
more_fresh (suc n) [] = refl
more_fresh (suc n) (x ∷ xs) = ap (λ rest. fresh x ∷ rest) (more_fresh n xs)

pub one_more_fresh : (n m : ℕ) (xs : List ChanId) → m ≡ suc n → map fresh (take n xs) ++ map fresh (listed (slice_get xs n)) ≡ map fresh (take m xs)
one_more_fresh n m xs is = more_fresh n xs ∙ ap (λ k. map fresh (take k xs)) (sym is)

pub all_fresh : (n : ℕ) (xs : List ChanId) → length xs ≤ n → map fresh (take n xs) ≡ map fresh xs
all_fresh n xs past = ap (map fresh) (take_all n xs past)

-- A STEP OF THE WALK

long : (f : Moves) (n : ℕ) (cs items : List Channel) → items ≡ moved_until f n cs → length items ≡ length cs
long f n cs items so = ap length so ∙ as_many f n cs

read : (f : Moves) (n : ℕ) (cs items : List Channel) (d : Channel) (r : Moved) → items ≡ moved_until f n cs → r ≡ f (get_or items n d) → r ≡ f (get_or cs n d)
read f n cs items d r so by = by ∙ ap (λ (list : List Channel). f (get_or list n d)) so ∙ ap f (unmoved f n cs d)

pub step_moved : (f : Moves) (n m : ℕ) (cs items : List Channel) (d : Channel) (r : Moved) → m ≡ suc n → n < length items → items ≡ moved_until f n cs → r ≡ f (get_or items n d) → set items n r.channel ≡ moved_until f m cs
step_moved f n m cs items d r is within so by =
    let same = long f n cs items so in
    ap (λ (list : List Channel). set list n r.channel) so
    ∙ ap (λ (v : Moved). set (moved_until f n cs) n v.channel) (read f n cs items d r so by)
    ∙ one_more f n cs d (omega arith)
    ∙ ap (λ k. moved_until f k cs) (sym is)

pub step_done : (f : Moves) (n m : ℕ) (cs items : List Channel) (d : Channel) (r : Moved) (before out next : List Done) → m ≡ suc n → n < length items → items ≡ moved_until f n cs → r ≡ f (get_or items n d) → out ≡ before ++ done_until f n cs → next ≡ out ++ told_of r.done → next ≡ before ++ done_until f m cs
step_done f n m cs items d r before out next is within so by told appended =
    let same = long f n cs items so in
    appended
    ∙ ap (λ (list : List Done). list ++ told_of r.done) told
    ∙ append_assoc before (done_until f n cs) (told_of r.done)
    ∙ ap (λ (v : Moved). before ++ (done_until f n cs ++ told_of v.done)) (read f n cs items d r so by)
    ∙ ap (λ rest. before ++ rest) (one_more_done f n cs d (omega arith))
    ∙ ap (λ k. before ++ done_until f k cs) (sym is)

-- the walk's begin
pub none_moved : (f : Moves) (cs : List Channel) → cs ≡ moved_until f 0 cs
unfolding moved_until
none_moved f cs = refl

pub none_done : (f : Moves) (cs : List Channel) (before : List Done) → before ≡ before ++ done_until f 0 cs
unfolding done_until
none_done f cs before = sym (append-nil before)

-- the walk's end
pub end_moved : (f : Moves) (n : ℕ) (cs items : List Channel) → length cs ≤ n → items ≡ moved_until f n cs → items ≡ all_moved f cs
end_moved f n cs items past so = so ∙ all_have_moved f n cs past

pub end_done : (f : Moves) (n : ℕ) (cs items : List Channel) (before out : List Done) → length cs ≤ n → items ≡ moved_until f n cs → out ≡ before ++ done_until f n cs → out ≡ before ++ all_done f cs
end_done f n cs items before out past so told = told ∙ ap (λ rest. before ++ rest) (all_are_done f n cs past)

-- what holds in any case holds where memory is refused
pub on_err : {T E : Type 0} (P : Type 0) (r : Result T E) → P → OnErr r P
on_err P (Ok v) h = tt
on_err P (Err e) h = h

-- what follows where it holds follows where memory isn't refused
pub on_ok : {T E : Type 0} (P Q : Type 0) (r : Result T E) → (P → Q) → OnOk r P → OnOk r Q
on_ok P Q (Ok v) go h = go h
on_ok P Q (Err e) go h = tt
