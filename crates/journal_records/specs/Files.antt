-- The first line of a journal's file. Ours, of no standard. A text is the list of its bytes.
use Rattle.std.specs.Prelude.{◌≡◌, List, ℕ, length, take, codes}

-- by this a file is known as a journal
abbrev pub kind : List ℕ
kind = codes "gofnild journal "

-- the kind, the version of its form, and a line feed
abbrev pub first_line : List ℕ
first_line = codes "gofnild journal 1\n"

-- a text begins so
abbrev pub Begins : List ℕ → List ℕ → Type 0
Begins front text = take (length front) text ≡ front
