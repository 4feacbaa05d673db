-- What a trace says, line by line. A text is the list of its bytes.
use Rattle.std.specs.Prelude.{◌≡◌, ◌==◌, ◌||◌, ℕ, Bool, nat_eq, bytes_eq, not, if◌then◌else◌, List, [], ◌∷◌, length, drop, map, zip, codes, Option, Some, None, is_some, option_map, option_and_then}
use Rattle.std.specs.List.{slice_split, starts_with, position_from, find, filter_map, enumerate_from}
use Rattle.std.specs.Str.Lines.{strip_carriage_return}
use Rattle.radio_book.specs.declared.event.Event.{Event}
use Rattle.radio_book.specs.declared.event.Reply.{Reply}
use Rattle.event_text.specs.Events.{event_of}
use Rattle.trace_entries.specs.declared.entries.Entry.{Entry}
use Rattle.trace_entries.specs.declared.entries.Foreign.{Foreign}
use Rattle.trace_entries.specs.Replies.{reply_text}

-- what stands behind a front
abbrev pub behind : List ℕ → List ℕ → Option (List ℕ)
behind front text = if starts_with nat_eq text front then Some (drop (length front) text) else None

-- the texts before and behind the first place where a mark stands
abbrev pub cut_text : List ℕ → List ℕ → Option (List ℕ × List ℕ)
cut_text mark [] = None
cut_text mark (b ∷ bs) = if starts_with nat_eq (b ∷ bs) mark then Some ([], drop (length mark) (b ∷ bs)) else option_map (λ cut. (b ∷ cut.0, cut.1)) (cut_text mark bs)

-- what stands behind `event ` says an event: its text stands before the first ` -> `
abbrev pub event_before : List ℕ → Option Event
event_before text = option_and_then (λ cut. event_of cut.0) (cut_text (codes " -> ") text)

-- the event of a line that begins with `event `
abbrev pub event_in : List ℕ → Option Event
event_in line = option_and_then event_before (behind (codes "event ") line)

-- a line of a trace of two controllers
abbrev pub is_of_two : List ℕ → Bool
is_of_two line = starts_with nat_eq line (codes "1: ") || starts_with nat_eq line (codes "2: ")

-- a line that begins with `event ` can't be read where that says none
abbrev pub is_unreadable_at : Option (List ℕ) → List ℕ → Bool
is_unreadable_at (Some text) line = not (is_some (event_before text))
is_unreadable_at None line = is_of_two line

abbrev pub is_unreadable : List ℕ → Bool
is_unreadable line = is_unreadable_at (behind (codes "event ") line) line

-- the lines of a text
abbrev pub lines_of : List ℕ → List (List ℕ)
lines_of text = map strip_carriage_return (slice_split (λ b. b == 10) text)

-- the number of the first line that can't be read, counted from 1
abbrev pub first_unreadable : List ℕ → Option ℕ
first_unreadable trace = position_from is_unreadable 1 (lines_of trace)

abbrev pub entry_at : ℕ → List ℕ → Option Entry
entry_at index line = option_map (λ e. record { index = index; event = e }) (event_in (strip_carriage_return line))

-- the entries of a trace, in the order of their lines
abbrev pub entries_of : List ℕ → List Entry
entries_of trace = filter_map (λ p. entry_at p.0 p.1) (enumerate_from 0 (slice_split (λ b. b == 10) trace))

abbrev pub events_of : List Entry → List Event
events_of entries = map (λ (e : Entry). e.event) entries

-- the text of the reply in a line that begins with `event `: what stands behind the first ` -> `
abbrev pub reply_in : List ℕ → Option (List ℕ)
reply_in line = option_and_then (λ text. option_map (λ cut. cut.1) (cut_text (codes " -> ") text)) (behind (codes "event ") line)

-- the texts of all replies of a trace, in the order of their lines
abbrev pub replies_in : List ℕ → List (List ℕ)
replies_in trace = filter_map reply_in (lines_of trace)

-- the replies of a trace are these
abbrev pub HasReplies : List ℕ → List Reply → Type 0
HasReplies trace replies = replies_in trace ≡ map reply_text replies

-- a text is that of a reply
abbrev pub is_reply : List ℕ → Reply → Bool
is_reply text reply = bytes_eq text (reply_text reply)

-- The first of all entries, each with the text of its reply and with the book's reply, for which these differ.
abbrev pub first_other : List Entry → List (List ℕ) → List Reply → Option Foreign
first_other entries texts replies =
    option_map (λ p. record { entry = p.0; reply = p.1.1 }) (find (λ p. not (is_reply p.1.0 p.1.1)) (zip entries (zip texts replies)))
