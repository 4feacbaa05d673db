-- The event that a text is the text of, found among all.
use Rattle.std.proofs.Common.{◌≡◌, ◌⊎◌, ◌↔◌, inl, inr, ℕ, zero, suc, ◌+◌, ◌<◌, ◌≤◌, List, [], ◌∷◌, ◌++◌, Bool, true, false, cond, Option, Some, None, refl, sym, ap, subst, ◌∙◌, arith, map, get_or, bytes_eq}
use Rattle.std.proofs.lemmas.Bool.{true≢false, cases_lt}
use Rattle.std.proofs.lemmas.Option.{none-some, same_Some}
use Rattle.std.proofs.lemmas.Slice.Eq.{bytes_eq-Decides}
use Rattle.std.specs.List.{find, flat_map, range_with_len}
use Rattle.timeslots.specs.declared.Sub.{Sub}
use Rattle.timeslots.specs.declared.Sub.TheVariants.{Full, Half0, Half1}
use Rattle.channel_fsm.specs.declared.ChanId.{ChanId}
use Rattle.attempt_journal.specs.declared.Timer.TheVariants as timer
use Rattle.radio_book.specs.declared.event.Kind.TheVariants as kind
use Rattle.radio_book.specs.declared.event.Why.{Why}
use Rattle.radio_book.specs.declared.event.Why.TheVariants as why
use Rattle.radio_book.specs.declared.event.Event.{Event}
use Rattle.radio_book.specs.declared.event.Event.TheVariants as event
use Rattle.event_text.specs.Text.{event_text, FitsCall, FitsOctet, FitsChan, Fits}
use Rattle.event_text.specs.Events.{all_below, all_calls, all_octets, channels_at, channels_of_trx, channels_of_cell, all_channels, by_calls, all_kinds, all_events, event_of, ReadsTexts}
use Rattle.event_text.proofs.Readings.{read_of, event_parts, event_read, text_is_unique}

-- LISTS

-- this is one of the list
abbrev IsIn : {X : Type 0} → X → List X → Type 0
IsIn x [] = ⊥
IsIn x (y ∷ ys) = (x ≡ y) ⊎ IsIn x ys

in_front : {X : Type 0} (x : X) (xs ys : List X) → IsIn x xs → IsIn x (xs ++ ys)
in_front x [] ys h = absurd h
in_front x (y ∷ xs) ys (inl e) = inl e
in_front x (y ∷ xs) ys (inr h) = inr (in_front x xs ys h)

in_back : {X : Type 0} (x : X) (xs ys : List X) → IsIn x ys → IsIn x (xs ++ ys)
in_back x [] ys h = h
in_back x (y ∷ xs) ys h = inr (in_back x xs ys h)

in_map : {X Y : Type 0} (f : X → Y) (x : X) (xs : List X) → IsIn x xs → IsIn (f x) (map f xs)
in_map f x [] h = absurd h
in_map f x (y ∷ xs) (inl e) = inl (ap f e)
in_map f x (y ∷ xs) (inr h) = inr (in_map f x xs h)

in_flat : {X Y : Type 0} (f : X → List Y) (x : X) (y : Y) (xs : List X) → IsIn x xs → IsIn y (f x) → IsIn y (flat_map f xs)
in_flat f x y [] h i = absurd h
in_flat f x y (z ∷ xs) (inl e) i = in_front y (f z) (flat_map f xs) (subst (λ w. IsIn y (f w)) e i)
in_flat f x y (z ∷ xs) (inr h) i = in_back y (f z) (flat_map f xs) (in_flat f x y xs h i)

-- one of the list at this place of several
in_part : {X : Type 0} (x : X) (parts : List (List X)) (k : ℕ) → IsIn x (get_or parts k []) → IsIn x (flat_map (λ part. part) parts)
in_part x [] k h = absurd h
in_part x (part ∷ parts) zero h = in_front x part _ h
in_part x (part ∷ parts) (suc k) h = in_back x part _ (in_part x parts k h)

in_range : (a n k : ℕ) → a ≤ k → k < a + n → IsIn k (range_with_len a n)
in_range a zero k low high = absurd (omega (arith, low, high))
in_range a (suc n) k low high = by_place (cases_lt a k) (in_range (a + 1) n k)
  where
    by_place : (a < k) ⊎ (k ≤ a) → (a + 1 ≤ k → k < a + 1 + n → IsIn k (range_with_len (a + 1) n)) → (k ≡ a) ⊎ IsIn k (range_with_len (a + 1) n)
    by_place (inl more) rest = inr (rest (omega (arith, more)) (omega (arith, high)))
    by_place (inr less) rest = inl (omega (arith, low, less))

in_below : (limit n : ℕ) → n < limit → IsIn n (all_below limit)
unfolding all_below
in_below limit n l = in_range 0 limit n (omega arith) (omega (arith, l))

-- this holds of each
abbrev Each : {X : Type 0} → (X → Type 0) → List X → Type 0
Each P [] = Unit
Each P (x ∷ xs) = P x × Each P xs

each_append : {X : Type 0} (P : X → Type 0) (xs ys : List X) → Each P xs → Each P ys → Each P (xs ++ ys)
each_append P [] ys all more = more
each_append P (x ∷ xs) ys all more = (all.0, each_append P xs ys all.1 more)

-- where what holds of each has this of what is made of it
each_map : {X Y : Type 0} (P : X → Type 0) (Q : Y → Type 0) (f : X → Y) (xs : List X) → Each P xs → ((x : X) → P x → Q (f x)) → Each Q (map f xs)
each_map P Q f [] all gives = tt
each_map P Q f (x ∷ xs) all gives = (gives x all.0, each_map P Q f xs all.1 gives)

each_flat : {X Y : Type 0} (P : X → Type 0) (Q : Y → Type 0) (f : X → List Y) (xs : List X) → Each P xs → ((x : X) → P x → Each Q (f x)) → Each Q (flat_map f xs)
each_flat P Q f [] all gives = tt
each_flat P Q f (x ∷ xs) all gives = each_append Q (f x) (flat_map f xs) (gives x all.0) (each_flat P Q f xs all.1 gives)

each_part : {X : Type 0} (P : X → Type 0) (parts : List (List X)) → Each (Each P) parts → Each P (flat_map (λ part. part) parts)
each_part P [] all = tt
each_part P (part ∷ parts) all = each_append P part _ all.0 (each_part P parts all.1)

each_range : (a n limit : ℕ) → a + n ≤ limit → Each (λ k. k < limit) (range_with_len a n)
each_range a zero limit l = tt
each_range a (suc n) limit l = (omega (arith, l), each_range (a + 1) n limit (omega (arith, l)))

each_below : (limit : ℕ) → Each (λ k. k < limit) (all_below limit)
unfolding all_below
each_below limit = each_range 0 limit limit (omega arith)

-- what is found is one of the list, and passes
find_is : {X : Type 0} (P : X → Type 0) (p : X → Bool) (xs : List X) (x : X) → Each P xs → find p xs ≡ Some x → P x × (p x ≡ true)
find_is P p [] x all e = absurd (none-some x e)
find_is P p (y ∷ ys) x all e = at (p y) refl e (find_is P p ys x all.1)
  where
    at : (b : Bool) → p y ≡ b → cond b (Some y) (find p ys) ≡ Some x → (find p ys ≡ Some x → P x × (p x ≡ true)) → P x × (p x ≡ true)
    at true t e more = let same : y ≡ x = same_Some y x e in (subst P same all.0, subst (λ z. p z ≡ true) same t)
    at false t e more = more e

-- one of the list that passes is found, where no other one does
find_only : {X : Type 0} (P : X → Type 0) (p : X → Bool) (xs : List X) (x : X) → Each P xs → IsIn x xs → p x ≡ true → ((y : X) → P y → p y ≡ true → y ≡ x) → find p xs ≡ Some x
find_only P p [] x all here t only = absurd here
find_only P p (y ∷ ys) x all here t only = at (p y) refl here (λ h. find_only P p ys x all.1 h t only)
  where
    at : (b : Bool) → p y ≡ b → (x ≡ y) ⊎ IsIn x ys → (IsIn x ys → find p ys ≡ Some x) → cond b (Some y) (find p ys) ≡ Some x
    at true u here more = ap Some (only y all.0 u)
    at false u (inl same) more = absurd (true≢false (sym t ∙ (ap p same ∙ u)))
    at false u (inr h) more = more h

same_options : {X : Type 0} (a b : Option X) → ((x : X) → a ≡ Some x → b ≡ Some x) → ((x : X) → b ≡ Some x → a ≡ Some x) → a ≡ b
same_options None None there back = refl
same_options (Some x) b there back = sym (there x refl)
same_options None (Some y) there back = absurd (none-some y (back y refl))

-- ALL CHANNELS AND EVENTS

call_in : (c : ℕ) → FitsCall c → IsIn c all_calls
call_in c f = in_below 65536 c f

octet_in : (n : ℕ) → FitsOctet n → IsIn n all_octets
octet_in n f = in_below 256 n f

abbrev subs : List Sub
subs = Full ∷ Half0 ∷ Half1 ∷ []

sub_in : (sub : Sub) → IsIn sub subs
sub_in Full = inl refl
sub_in Half0 = inr (inl refl)
sub_in Half1 = inr (inr (inl refl))

channel_in : (x : ChanId) → FitsChan x → IsIn x all_channels
unfolding all_channels
channel_in x f =
    in_flat channels_of_cell x.cell x all_octets (octet_in x.cell f.cell)
    (in_flat (channels_of_trx x.cell) x.trx x all_octets (octet_in x.trx f.trx)
    (in_flat (channels_at x.cell x.trx) x.tn x all_octets (octet_in x.tn f.tn)
    (in_map {Y = ChanId} (λ (sub : Sub). record { cell = x.cell; trx = x.trx; tn = x.tn; sub = sub }) x.sub subs (sub_in x.sub))))

each_channel : Each FitsChan all_channels
unfolding all_channels
each_channel =
    each_flat FitsOctet FitsChan channels_of_cell all_octets (each_below 256) (λ cell c.
    each_flat FitsOctet FitsChan (channels_of_trx cell) all_octets (each_below 256) (λ trx t.
    each_flat FitsOctet FitsChan (channels_at cell trx) all_octets (each_below 256) (λ tn n.
    (record { cell = c; trx = t; tn = n }, (record { cell = c; trx = t; tn = n }, (record { cell = c; trx = t; tn = n }, tt))))))

by_calls_in : {X : Type 0} (make : ℕ → X → Event) (c : ℕ) (x : X) (xs : List X) → FitsCall c → IsIn x xs → IsIn (make c x) (by_calls make xs)
by_calls_in make c x xs f h = in_flat (λ d. map (make d) xs) c (make c x) all_calls (call_in c f) (in_map (make c) x xs h)

abbrev whys : List Why
whys = why.Asked ∷ why.Expired timer.T3103 ∷ why.Expired timer.T7 ∷ why.Expired timer.T8 ∷ []

why_in : (w : Why) → IsIn w whys
why_in why.Asked = inl refl
why_in (why.Expired timer.T3103) = inr (inl refl)
why_in (why.Expired timer.T7) = inr (inr (inl refl))
why_in (why.Expired timer.T8) = inr (inr (inr (inl refl)))

-- what fits is one of all
event_in : (e : Event) → Fits e → IsIn e all_events
unfolding all_kinds
event_in (event.Open c x) f = in_part _ all_kinds 0 (by_calls_in event.Open c x all_channels f.0 (channel_in x f.1))
event_in (event.Clear c) f = in_part _ all_kinds 1 (in_map event.Clear c all_calls (call_in c f))
event_in (event.Look c) f = in_part _ all_kinds 2 (in_map event.Look c all_calls (call_in c f))
event_in (event.Take c kind.Internal x) f = in_part _ all_kinds 3 (by_calls_in (λ d y. event.Take d kind.Internal y) c x all_channels f.0 (channel_in x f.1))
event_in (event.Take c kind.Incoming x) f = in_part _ all_kinds 4 (by_calls_in (λ d y. event.Take d kind.Incoming y) c x all_channels f.0 (channel_in x f.1))
event_in (event.Reserve c n) f = in_part _ all_kinds 5 (by_calls_in event.Reserve c n all_octets f.0 (octet_in n f.1))
event_in (event.Activate c) f = in_part _ all_kinds 6 (in_map event.Activate c all_calls (call_in c f))
event_in (event.Command c) f = in_part _ all_kinds 7 (in_map event.Command c all_calls (call_in c f))
event_in (event.Complete c) f = in_part _ all_kinds 8 (in_map event.Complete c all_calls (call_in c f))
event_in (event.Undo c w) f = in_part _ all_kinds 9 (by_calls_in event.Undo c w whys f (why_in w))
event_in (event.Confirm x) f = in_part _ all_kinds 10 (in_map event.Confirm x all_channels (channel_in x f))
event_in (event.Refuse x) f = in_part _ all_kinds 11 (in_map event.Refuse x all_channels (channel_in x f))
event_in (event.Detect x) f = in_part _ all_kinds 12 (in_map event.Detect x all_channels (channel_in x f))
event_in (event.Released x) f = in_part _ all_kinds 13 (in_map event.Released x all_channels (channel_in x f))
event_in (event.Owner x) f = in_part _ all_kinds 14 (in_map event.Owner x all_channels (channel_in x f))
event_in (event.Require c) f = in_part _ all_kinds 15 (in_map event.Require c all_calls (call_in c f))
event_in (event.Order c) f = in_part _ all_kinds 16 (in_map event.Order c all_calls (call_in c f))
event_in (event.Left c) f = in_part _ all_kinds 17 (in_map event.Left c all_calls (call_in c f))

by_calls_fit : {X : Type 0} (P : X → Type 0) (make : ℕ → X → Event) (xs : List X) → Each P xs → ((c : ℕ) (x : X) → FitsCall c → P x → Fits (make c x)) → Each Fits (by_calls make xs)
by_calls_fit P make xs all fit = each_flat FitsCall Fits (λ c. map (make c) xs) all_calls (each_below 65536) (λ c f. each_map P Fits (make c) xs all (λ x h. fit c x f h))

calls_fit : (make : ℕ → Event) → ((c : ℕ) → FitsCall c → Fits (make c)) → Each Fits (map make all_calls)
calls_fit make fit = each_map FitsCall Fits make all_calls (each_below 65536) fit

channels_fit : (make : ChanId → Event) → ((x : ChanId) → FitsChan x → Fits (make x)) → Each Fits (map make all_channels)
channels_fit make fit = each_map FitsChan Fits make all_channels each_channel fit

-- each of all fits
each_kind : Each (Each Fits) all_kinds
unfolding all_kinds
each_kind = (
  by_calls_fit FitsChan event.Open all_channels each_channel (λ c x f h. (f, h)),
  (
    calls_fit event.Clear (λ c f. f),
    (
      calls_fit event.Look (λ c f. f),
      (
        by_calls_fit FitsChan (λ d y. event.Take d kind.Internal y) all_channels each_channel (λ c x f h. (f, h)),
        (
          by_calls_fit FitsChan (λ d y. event.Take d kind.Incoming y) all_channels each_channel (λ c x f h. (f, h)),
          (
            by_calls_fit FitsOctet event.Reserve all_octets (each_below 256) (λ c x f h. (f, h)),
            (
              calls_fit event.Activate (λ c f. f),
              (
                calls_fit event.Command (λ c f. f),
                (
                  calls_fit event.Complete (λ c f. f),
                  (
                    by_calls_fit (λ w. Unit {0}) event.Undo whys (tt, (tt, (tt, (tt, tt)))) (λ c x f h. f),
                    (
                      channels_fit event.Confirm (λ x f. f),
                      (
                        channels_fit event.Refuse (λ x f. f),
                        (
                          channels_fit event.Detect (λ x f. f),
                          (
                            channels_fit event.Released (λ x f. f),
                            (
                              channels_fit event.Owner (λ x f. f),
                              (
                                calls_fit event.Require (λ c f. f),
                                (
                                  calls_fit event.Order (λ c f. f),
                                  (calls_fit event.Left (λ c f. f), tt),
                                ),
                              ),
                            ),
                          ),
                        ),
                      ),
                    ),
                  ),
                ),
              ),
            ),
          ),
        ),
      ),
    ),
  ),
)

each_fits : Each Fits all_events
each_fits = each_part Fits all_kinds each_kind

-- THE LAW

found_is : (text : List ℕ) (e : Event) → event_of text ≡ Some e → Fits e × (text ≡ event_text e)
unfolding event_of
found_is text e is =
    let (fits, same) = find_is Fits (λ x. bytes_eq text (event_text x)) all_events e each_fits is in
    (fits, (bytes_eq-Decides text (event_text e)).0 same)

is_found : (text : List ℕ) (e : Event) → Fits e → text ≡ event_text e → event_of text ≡ Some e
unfolding event_of
is_found text e fits own =
    find_only Fits (λ x. bytes_eq text (event_text x)) all_events e each_fits (event_in e fits) ((bytes_eq-Decides text (event_text e)).1 own)
    (λ x fit same. text_is_unique x e fit fits (sym ((bytes_eq-Decides text (event_text x)).0 same) ∙ own))

pub reads_texts : ReadsTexts
reads_texts text e = (found_is text e, λ own. is_found text e own.0 own.1)

-- what the reader reads is the event that is found
pub read_is_found : (text : List ℕ) → read_of text ≡ event_of text
read_is_found text =
    same_options (read_of text) (event_of text)
    (λ e is. let own = event_parts text e is in is_found text e own.fits own.said)
    (λ e is. let own = found_is text e is in ap read_of own.1 ∙ event_read e own.0)

-- so the reader is exact
pub exact : (text : List ℕ) (r : Option Event) → r ≡ read_of text → (e : Event) → Fits e → (r ≡ Some e) ↔ (text ≡ event_text e)
exact text r own e fits = (λ is. (event_parts text e (sym own ∙ is)).said, λ is. own ∙ (ap read_of is ∙ event_read e fits))
