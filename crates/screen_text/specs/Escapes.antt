-- How a text is shown: its control characters, and those that a reader can't see, by their escapes. A text is the list of
-- its bytes. Ours, of no standard; the names of characters are Unicode's.
use Rattle.std.specs.Prelude.{ℕ, ◌==◌, Bool, ◌||◌, if◌then◌else◌, List, [], ◌∷◌, encode_utf8_all, chars}
use Rattle.std.specs.Int.{is_in_range}
use Rattle.std.specs.List.{flat_map}
use Rattle.std.specs.Char.{is_control}
use Rattle.std.specs.Char.Escape.{escape_default}

-- whether a character, which is no control character, can't be seen, looks like a space and is another character, or
-- turns the direction of the text behind it
abbrev pub is_unseen : ℕ → Bool
is_unseen c =
    -- NO-BREAK SPACE
    (c == 0xA0)
    -- SOFT HYPHEN
    || (c == 0xAD)
    -- COMBINING GRAPHEME JOINER
    || (c == 0x34F)
    -- ARABIC LETTER MARK
    || (c == 0x61C)
    -- HANGUL CHOSEONG FILLER, HANGUL JUNGSEONG FILLER
    || is_in_range 0x115F 0x1160 c
    -- OGHAM SPACE MARK
    || (c == 0x1680)
    -- KHMER VOWEL INHERENT AQ, KHMER VOWEL INHERENT AA
    || is_in_range 0x17B4 0x17B5 c
    -- MONGOLIAN FREE VARIATION SELECTORs, with MONGOLIAN VOWEL SEPARATOR among them
    || is_in_range 0x180B 0x180F c
    -- EN QUAD to HAIR SPACE, ZERO WIDTH SPACE, NON-JOINER and JOINER, LEFT-TO-RIGHT MARK, RIGHT-TO-LEFT MARK
    || is_in_range 0x2000 0x200F c
    -- LINE SEPARATOR, PARAGRAPH SEPARATOR, embeddings and overrides of direction, NARROW NO-BREAK SPACE
    || is_in_range 0x2028 0x202F c
    -- MEDIUM MATHEMATICAL SPACE, WORD JOINER, INVISIBLE operators, isolates of direction, shapes of digits
    || is_in_range 0x205F 0x206F c
    -- BRAILLE PATTERN BLANK
    || (c == 0x2800)
    -- IDEOGRAPHIC SPACE
    || (c == 0x3000)
    -- HANGUL FILLER
    || (c == 0x3164)
    -- VARIATION SELECTOR-1 to -16
    || is_in_range 0xFE00 0xFE0F c
    -- ZERO WIDTH NO-BREAK SPACE, which is the mark of an order of bytes
    || (c == 0xFEFF)
    -- HALFWIDTH HANGUL FILLER
    || (c == 0xFFA0)
    -- INTERLINEAR ANNOTATION ANCHOR, SEPARATOR and TERMINATOR
    || is_in_range 0xFFF9 0xFFFB c
    -- MUSICAL SYMBOL BEGIN BEAM to END PHRASE
    || is_in_range 0x1D173 0x1D17A c
    -- LANGUAGE TAG, TAG SPACE to CANCEL TAG
    || is_in_range 0xE0000 0xE007F c
    -- VARIATION SELECTOR-17 to -256
    || is_in_range 0xE0100 0xE01EF c

-- how a character is shown: by its escape (`\n`, `\t`, `\r` or `\u{..}`) where it is a control character or can't be
-- seen, else as it is
abbrev pub shown_character : ℕ → List ℕ
shown_character c = encode_utf8_all (if is_control c || is_unseen c then escape_default c else c ∷ [])

-- how a text is shown
abbrev pub shown_text : List ℕ → List ℕ
shown_text text = flat_map shown_character (chars text)
