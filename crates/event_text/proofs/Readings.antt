-- Events: what is written is read, and what is read was written so.
use Rattle.std.proofs.Common.{◌≡◌, ℕ, ◌<◌, ◌^◌, List, [], ◌∷◌, ◌++◌, Bool, true, false, if◌then◌else◌, Option, Some, None, option_map, refl, sym, ap, ◌∙◌, arith, bytes_eq, codes}
use Rattle.std.specs.Fmt.{decimal}
use Rattle.std.proofs.lemmas.Option.{none-some, same_Some}
use Rattle.std.proofs.lemmas.Fmt.{digits_decimal}
use Rattle.std.proofs.lemmas.Slice.Eq.{bytes_eq-Decides}
use Rattle.std.proofs.lemmas.Str.Parse.{not_in_digits}
use Rattle.timeslots.specs.declared.Sub.{Sub}
use Rattle.timeslots.specs.declared.Sub.TheVariants.{Full, Half0, Half1}
use Rattle.channel_fsm.specs.declared.ChanId.{ChanId}
use Rattle.channel_fsm.specs.Text.{timeslot_text, chan_text}
use Rattle.attempt_journal.specs.declared.Timer.TheVariants as timer
use Rattle.radio_book.specs.declared.event.Kind.{Kind}
use Rattle.radio_book.specs.declared.event.Kind.TheVariants as kind
use Rattle.radio_book.specs.declared.event.Why.{Why}
use Rattle.radio_book.specs.declared.event.Why.TheVariants as why
use Rattle.radio_book.specs.declared.event.Event.{Event}
use Rattle.radio_book.specs.declared.event.Event.TheVariants as event
use Rattle.event_text.specs.Text.{kind_word, why_word, event_text, FitsCall, FitsOctet, FitsChan, Fits, TextIsUnique}
use Rattle.event_text.specs.Reading.{◌>>=◌, cut_at, number_of, half_of, timeslot_at, timeslot_of, channel_of, kind_of, why_of, open_of, take_of, reserve_of, undo_of, by_call, on_channel, kinds, event_among, event_at}
use Rattle.event_text.proofs.Numbers.{Lacks, cut_at-none, cut_at-first, joined, numerals, number_of-decimal, number_of-parts}

-- what a chain of steps gave, each of them gave
bind_parts : {A B : Type 0} (P : Type 0) (o : Option A) (f : A → Option B) (y : B) → (o >>= f) ≡ Some y → ((x : A) → o ≡ Some x → f x ≡ Some y → P) → P
bind_parts P (Some x) f y e go = go x refl e
bind_parts P None f y e go = absurd (none-some y e)

map_parts : {A B : Type 0} (P : Type 0) (f : A → B) (o : Option A) (y : B) → option_map f o ≡ Some y → ((x : A) → o ≡ Some x → f x ≡ y → P) → P
map_parts P f (Some x) y e go = go x refl (same_Some (f x) y e)
map_parts P f None y e go = absurd (none-some y e)

-- digits have no blank and no slash
no_slash : (n : ℕ) → n < 2 ^ 64 → Lacks 47 (decimal n)
no_slash n small = not_in_digits numerals (decimal n) 47 (digits_decimal numerals n small) (λ r. omega arith)

no_blank : (n : ℕ) → n < 2 ^ 64 → Lacks 32 (decimal n)
no_blank n small = not_in_digits numerals (decimal n) 32 (digits_decimal numerals n small) (λ r. omega arith)

-- a number's digits before a blank
word_cut : (c : ℕ) (rest : List ℕ) → FitsCall c → cut_at 32 (decimal c ++ 32 ∷ rest) ≡ Some (decimal c, rest)
word_cut c rest f = cut_at-first 32 (decimal c) rest (no_blank c (omega arith))

part_cut : (n : ℕ) (rest : List ℕ) → FitsOctet n → cut_at 47 (decimal n ++ 47 ∷ rest) ≡ Some (decimal n, rest)
part_cut n rest f = cut_at-first 47 (decimal n) rest (no_slash n (omega arith))

call_read : (c : ℕ) → FitsCall c → number_of 65536 (decimal c) ≡ Some c
call_read c f = number_of-decimal 65536 c (omega arith) f

octet_read : (n : ℕ) → FitsOctet n → number_of 256 (decimal n) ≡ Some n
octet_read n f = number_of-decimal 256 n (omega arith) f

-- NAMES

-- a test by names
by_name : {X : Type 0} (P : Type 0) (text name : List ℕ) (x y : X) (rest : Option X) → (if bytes_eq text name then Some x else rest) ≡ Some y → (text ≡ name → x ≡ y → P) → (rest ≡ Some y → P) → P
by_name P text name x y rest e when_same otherwise = at (bytes_eq text name) refl e
  where
    at : (b : Bool) → bytes_eq text name ≡ b → (if b then Some x else rest) ≡ Some y → P
    at true t e = when_same ((bytes_eq-Decides text name).0 t) (same_Some x y e)
    at false t e = otherwise e

-- CHANNELS

half_parts : (text : List ℕ) (sub : Sub) → half_of text ≡ Some sub → (tn : ℕ) → decimal tn ++ 47 ∷ text ≡ timeslot_text tn sub
half_parts text sub e tn =
    by_name (decimal tn ++ 47 ∷ text ≡ timeslot_text tn sub) text (codes "0") Half0 sub _ e (λ t s. ap (λ half. decimal tn ++ 47 ∷ half) t ∙ ap (timeslot_text tn) s) (λ e.
    by_name (decimal tn ++ 47 ∷ text ≡ timeslot_text tn sub) text (codes "1") Half1 sub _ e (λ t s. ap (λ half. decimal tn ++ 47 ∷ half) t ∙ ap (timeslot_text tn) s) (λ e. absurd (none-some sub e)))

timeslot_read : (tn : ℕ) (sub : Sub) → FitsOctet tn → timeslot_of (timeslot_text tn sub) ≡ Some (tn, sub)
unfolding timeslot_of
timeslot_read tn Full f = rw (cut_at-none 47 (decimal tn) (no_slash tn (omega arith)), octet_read tn f) refl
timeslot_read tn Half0 f = rw (part_cut tn (codes "0") f, octet_read tn f) refl
timeslot_read tn Half1 f = rw (part_cut tn (codes "1") f, octet_read tn f) refl

record IsTimeslot (text : List ℕ) (slot : ℕ × Sub) : Type 0 where
  pub said : text ≡ timeslot_text slot.0 slot.1
  pub fits : FitsOctet slot.0

timeslot_parts : (text : List ℕ) (slot : ℕ × Sub) → timeslot_of text ≡ Some slot → IsTimeslot text slot
unfolding timeslot_of
timeslot_parts text slot e = by_cut (cut_at 47 text) refl e
  where
    by_cut : (cut : Option (List ℕ × List ℕ)) → cut_at 47 text ≡ cut → timeslot_at cut text ≡ Some slot → IsTimeslot text slot
    by_cut None c e =
        bind_parts (IsTimeslot text slot) (number_of 256 text) _ slot e (λ tn n e.
        let same : (tn, Full) ≡ slot = same_Some (tn, Full) slot e in
        let tn_is = number_of-parts 256 text tn (omega arith) n in
        rw (← same) (record { said = tn_is.said; fits = tn_is.below }))
    by_cut (Some p) c e =
        bind_parts (IsTimeslot text slot) (number_of 256 p.0) _ slot e (λ tn n e.
        bind_parts (IsTimeslot text slot) (half_of p.1) _ slot e (λ sub h e.
        let same : (tn, sub) ≡ slot = same_Some (tn, sub) slot e in
        let tn_is = number_of-parts 256 p.0 tn (omega arith) n in
        let said = joined 47 text p.0 p.1 c ∙ ap (λ front. front ++ 47 ∷ p.1) tn_is.said ∙ half_parts p.1 sub h tn in
        rw (← same) (record { said = said; fits = tn_is.below })))

channel_read : (x : ChanId) → FitsChan x → channel_of (chan_text x) ≡ Some x
unfolding channel_of
channel_read x f =
    rw (part_cut x.cell (decimal x.trx ++ 47 ∷ timeslot_text x.tn x.sub) f.cell, part_cut x.trx (timeslot_text x.tn x.sub) f.trx, octet_read x.cell f.cell, octet_read x.trx f.trx, timeslot_read x.tn x.sub f.tn) refl

pub record IsChannel (text : List ℕ) (x : ChanId) : Type 0 where
  pub said : text ≡ chan_text x
  pub fits : FitsChan x

channel_parts : (text : List ℕ) (x : ChanId) → channel_of text ≡ Some x → IsChannel text x
unfolding channel_of
channel_parts text x e =
    bind_parts (IsChannel text x) (cut_at 47 text) _ x e (λ p cut e.
    bind_parts (IsChannel text x) (cut_at 47 p.1) _ x e (λ q cut2 e.
    bind_parts (IsChannel text x) (number_of 256 p.0) _ x e (λ cell c e.
    bind_parts (IsChannel text x) (number_of 256 q.0) _ x e (λ trx t e.
    bind_parts (IsChannel text x) (timeslot_of q.1) _ x e (λ slot s e.
    let same : record { cell = cell; trx = trx; tn = slot.0; sub = slot.1 } ≡ x = same_Some _ x e in
    let first = joined 47 text p.0 p.1 cut in
    let second = joined 47 p.1 q.0 q.1 cut2 in
    let cell_is = number_of-parts 256 p.0 cell (omega arith) c in
    let trx_is = number_of-parts 256 q.0 trx (omega arith) t in
    let slot_is = timeslot_parts q.1 slot s in
    rw (← same) (record {
      said = first ∙ rw (cell_is.said, second, trx_is.said, slot_is.said) refl;
      fits = record { cell = cell_is.below; trx = trx_is.below; tn = slot_is.fits };
    }))))))

kind_read : (k : Kind) → kind_of (kind_word k) ≡ Some k
kind_read kind.Internal = refl
kind_read kind.Incoming = refl

kind_parts : (text : List ℕ) (k : Kind) → kind_of text ≡ Some k → text ≡ kind_word k
kind_parts text k e =
    by_name (text ≡ kind_word k) text (codes "internal") kind.Internal k _ e (λ t s. t ∙ ap kind_word s) (λ e.
    by_name (text ≡ kind_word k) text (codes "incoming") kind.Incoming k _ e (λ t s. t ∙ ap kind_word s) (λ e. absurd (none-some k e)))

why_read : (w : Why) → why_of (why_word w) ≡ Some w
why_read why.Asked = refl
why_read (why.Expired timer.T3103) = refl
why_read (why.Expired timer.T7) = refl
why_read (why.Expired timer.T8) = refl

why_parts : (text : List ℕ) (w : Why) → why_of text ≡ Some w → text ≡ why_word w
why_parts text w e =
    by_name (text ≡ why_word w) text (codes "asked") why.Asked w _ e (λ t s. t ∙ ap why_word s) (λ e.
    by_name (text ≡ why_word w) text (codes "t3103") (why.Expired timer.T3103) w _ e (λ t s. t ∙ ap why_word s) (λ e.
    by_name (text ≡ why_word w) text (codes "t7") (why.Expired timer.T7) w _ e (λ t s. t ∙ ap why_word s) (λ e.
    by_name (text ≡ why_word w) text (codes "t8") (why.Expired timer.T8) w _ e (λ t s. t ∙ ap why_word s) (λ e. absurd (none-some w e)))))

kind_cut : (k : Kind) (rest : List ℕ) → cut_at 32 (kind_word k ++ 32 ∷ rest) ≡ Some (kind_word k, rest)
kind_cut kind.Internal rest = refl
kind_cut kind.Incoming rest = refl

-- ONE KIND OF EVENT

-- what is read behind a kind's word was written so
pub record IsRest (word : List ℕ) (text : List ℕ) (e : Event) : Type 0 where
  pub said : event_text e ≡ word ++ 32 ∷ text
  pub fits : Fits e

abbrev pub Reads : List ℕ × (List ℕ → Option Event) → Type 0
Reads k = (text : List ℕ) (e : Event) → k.1 text ≡ Some e → IsRest k.0 text e

open_reads : Reads (codes "open", open_of)
unfolding open_of
open_reads text v e =
    bind_parts (IsRest (codes "open") text v) (cut_at 32 text) _ v e (λ p cut e.
    bind_parts (IsRest (codes "open") text v) (number_of 65536 p.0) _ v e (λ c called e.
    bind_parts (IsRest (codes "open") text v) (channel_of p.1) _ v e (λ x chan e.
    let same : event.Open c x ≡ v = same_Some _ v e in
    let call = number_of-parts 65536 p.0 c (omega arith) called in
    let channel = channel_parts p.1 x chan in
    rw (← same) (record {
      said = rw (joined 32 text p.0 p.1 cut, call.said, channel.said) refl;
      fits = (call.below, channel.fits);
    }))))

take_reads : Reads (codes "take", take_of)
unfolding take_of
take_reads text v e =
    bind_parts (IsRest (codes "take") text v) (cut_at 32 text) _ v e (λ p cut e.
    bind_parts (IsRest (codes "take") text v) (cut_at 32 p.1) _ v e (λ q cut2 e.
    bind_parts (IsRest (codes "take") text v) (number_of 65536 p.0) _ v e (λ c called e.
    bind_parts (IsRest (codes "take") text v) (kind_of q.0) _ v e (λ k named e.
    bind_parts (IsRest (codes "take") text v) (channel_of q.1) _ v e (λ x chan e.
    let same : event.Take c k x ≡ v = same_Some _ v e in
    let call = number_of-parts 65536 p.0 c (omega arith) called in
    let channel = channel_parts q.1 x chan in
    rw (← same) (record {
      said = rw (joined 32 text p.0 p.1 cut, joined 32 p.1 q.0 q.1 cut2, call.said, kind_parts q.0 k named, channel.said) refl;
      fits = (call.below, channel.fits);
    }))))))

reserve_reads : Reads (codes "reserve", reserve_of)
unfolding reserve_of
reserve_reads text v e =
    bind_parts (IsRest (codes "reserve") text v) (cut_at 32 text) _ v e (λ p cut e.
    bind_parts (IsRest (codes "reserve") text v) (number_of 65536 p.0) _ v e (λ c called e.
    bind_parts (IsRest (codes "reserve") text v) (number_of 256 p.1) _ v e (λ n numbered e.
    let same : event.Reserve c n ≡ v = same_Some _ v e in
    let call = number_of-parts 65536 p.0 c (omega arith) called in
    let number = number_of-parts 256 p.1 n (omega arith) numbered in
    rw (← same) (record {
      said = rw (joined 32 text p.0 p.1 cut, call.said, number.said) refl;
      fits = (call.below, number.below);
    }))))

undo_reads : Reads (codes "undo", undo_of)
unfolding undo_of
undo_reads text v e =
    bind_parts (IsRest (codes "undo") text v) (cut_at 32 text) _ v e (λ p cut e.
    bind_parts (IsRest (codes "undo") text v) (number_of 65536 p.0) _ v e (λ c called e.
    bind_parts (IsRest (codes "undo") text v) (why_of p.1) _ v e (λ w named e.
    let same : event.Undo c w ≡ v = same_Some _ v e in
    let call = number_of-parts 65536 p.0 c (omega arith) called in
    rw (← same) (record {
      said = rw (joined 32 text p.0 p.1 cut, call.said, why_parts p.1 w named) refl;
      fits = call.below;
    }))))

-- a kind that names a call alone, and one that names a channel alone
call_reads : (word : List ℕ) (make : ℕ → Event) → ((c : ℕ) → event_text (make c) ≡ word ++ 32 ∷ decimal c) → ((c : ℕ) → FitsCall c → Fits (make c)) → Reads (word, by_call make)
call_reads word make writes fit text v e =
    map_parts (IsRest word text v) make (number_of 65536 text) v e (λ c called same.
    let call = number_of-parts 65536 text c (omega arith) called in
    rw (← same, call.said) (record { said = writes c; fits = fit c call.below }))

channel_reads : (word : List ℕ) (make : ChanId → Event) → ((x : ChanId) → event_text (make x) ≡ word ++ 32 ∷ chan_text x) → ((x : ChanId) → FitsChan x → Fits (make x)) → Reads (word, on_channel make)
channel_reads word make writes fit text v e =
    map_parts (IsRest word text v) make (channel_of text) v e (λ x chan same.
    let channel = channel_parts text x chan in
    rw (← same, channel.said) (record { said = writes x; fits = fit x channel.fits }))

-- ALL KINDS

abbrev AllRead : List (List ℕ × (List ℕ → Option Event)) → Type 0
AllRead [] = Unit
AllRead (k ∷ ks) = Reads k × AllRead ks

among_reads : (ks : List (List ℕ × (List ℕ → Option Event))) → AllRead ks → (word text : List ℕ) (e : Event) → event_among ks word text ≡ Some e → IsRest word text e
among_reads [] all word text v e = absurd (none-some v e)
among_reads (k ∷ ks) all word text v e = at (bytes_eq word k.0) refl e (among_reads ks all.1 word text v)
  where
    at : (b : Bool) → bytes_eq word k.0 ≡ b → (if b then k.1 text else event_among ks word text) ≡ Some v → (event_among ks word text ≡ Some v → IsRest word text v) → IsRest word text v
    at true t e more = rw ((bytes_eq-Decides word k.0).0 t) (all.0 text v e)
    at false t e more = more e

all_read : AllRead kinds
all_read = (
  open_reads,
  (
    call_reads _ event.Clear (λ c. refl) (λ c f. f),
    (
      call_reads _ event.Look (λ c. refl) (λ c f. f),
      (
        take_reads,
        (
          reserve_reads,
          (
            call_reads _ event.Activate (λ c. refl) (λ c f. f),
            (
              undo_reads,
              (
                channel_reads _ event.Confirm (λ x. refl) (λ x f. f),
                (
                  channel_reads _ event.Refuse (λ x. refl) (λ x f. f),
                  (
                    channel_reads _ event.Released (λ x. refl) (λ x f. f),
                    (
                      call_reads _ event.Command (λ c. refl) (λ c f. f),
                      (
                        call_reads _ event.Complete (λ c. refl) (λ c f. f),
                        (
                          channel_reads _ event.Detect (λ x. refl) (λ x f. f),
                          (
                            channel_reads _ event.Owner (λ x. refl) (λ x f. f),
                            (
                              call_reads _ event.Require (λ c. refl) (λ c f. f),
                              (call_reads _ event.Order (λ c. refl) (λ c f. f), (call_reads _ event.Left (λ c. refl) (λ c f. f), tt)),
                            ),
                          ),
                        ),
                      ),
                    ),
                  ),
                ),
              ),
            ),
          ),
        ),
      ),
    ),
  ),
)

-- what the reader reads of a whole text
abbrev pub read_of : List ℕ → Option Event
read_of text = cut_at 32 text >>= (λ p. event_at p.0 p.1)

pub record IsText (text : List ℕ) (e : Event) : Type 0 where
  pub said : text ≡ event_text e
  pub fits : Fits e

-- what is read is the event whose text it is
pub event_parts : (text : List ℕ) (e : Event) → read_of text ≡ Some e → IsText text e
event_parts text v e =
    bind_parts (IsText text v) (cut_at 32 text) _ v e (λ p cut e.
    let rest = among_reads kinds all_read p.0 p.1 v e in
    record { said = joined 32 text p.0 p.1 cut ∙ sym rest.said; fits = rest.fits })

-- an event's text is read as the event
pub event_read : (e : Event) → Fits e → read_of (event_text e) ≡ Some e
unfolding open_of take_of reserve_of undo_of
event_read (event.Open c x) f = rw (word_cut c (chan_text x) f.0, call_read c f.0, channel_read x f.1) refl
event_read (event.Clear c) f = rw (call_read c f) refl
event_read (event.Look c) f = rw (call_read c f) refl
event_read (event.Take c k x) f = rw (word_cut c (kind_word k ++ 32 ∷ chan_text x) f.0, kind_cut k (chan_text x), call_read c f.0, kind_read k, channel_read x f.1) refl
event_read (event.Reserve c n) f = rw (word_cut c (decimal n) f.0, call_read c f.0, octet_read n f.1) refl
event_read (event.Activate c) f = rw (call_read c f) refl
event_read (event.Command c) f = rw (call_read c f) refl
event_read (event.Complete c) f = rw (call_read c f) refl
event_read (event.Undo c w) f = rw (word_cut c (why_word w) f, call_read c f, why_read w) refl
event_read (event.Confirm x) f = rw (channel_read x f) refl
event_read (event.Refuse x) f = rw (channel_read x f) refl
event_read (event.Detect x) f = rw (channel_read x f) refl
event_read (event.Released x) f = rw (channel_read x f) refl
event_read (event.Owner x) f = rw (channel_read x f) refl
event_read (event.Require c) f = rw (call_read c f) refl
event_read (event.Order c) f = rw (call_read c f) refl
event_read (event.Left c) f = rw (call_read c f) refl

pub text_is_unique : TextIsUnique
text_is_unique e f fits other same =
    same_Some e f (sym (event_read e fits) ∙ (ap read_of same ∙ event_read f other))
