-- Facts of the replies of a trace.
use Rattle.std.proofs.Common.{◌≡◌, ℕ, true, false, map, ◌+◌, ◌<◌, ◌≤◌, zero, suc, min, List, [], ◌∷◌, ◌++◌, Some, None, refl, sym, ap, ◌∙◌, arith, length, drop, get_or, Bor, append-nil}
use Rattle.std.specs.List.{filter_map}
use Rattle.std.specs.Str.Lines.{strip_carriage_return}
use Rattle.std.proofs.lemmas.List.{map-append, drop_more}
use Rattle.std.proofs.lemmas.List.Elements.{filter_map-append}
use Rattle.radio_book.specs.declared.event.Reply.{Reply}
use Rattle.trace_entries.specs.declared.entries.Entry.{Entry}
use Rattle.trace_entries.specs.Entries.{reply_in, is_reply, first_other}

-- texts that are lent
abbrev pub now_of : List (Bor (List ℕ)) → List (List ℕ)
now_of texts = map (λ text. text.now) texts

-- the texts of the replies in lines that a carriage return may end
abbrev pub replies_of : List (List ℕ) → List (List ℕ)
replies_of lines = filter_map reply_in (map strip_carriage_return lines)

replies_more : (lines : List (List ℕ)) (line : List ℕ) → replies_of (lines ++ line ∷ []) ≡ replies_of lines ++ replies_of (line ∷ [])
replies_more lines line =
    ap (filter_map reply_in) (map-append strip_carriage_return lines (line ∷ [])) ∙ filter_map-append reply_in (map strip_carriage_return lines) (strip_carriage_return line ∷ [])

-- the lines so far, and one more, which has a reply
pub text_more : (lines : List (Bor (List ℕ))) (line text : Bor (List ℕ)) (texts : List (Bor (List ℕ)))
    → reply_in (strip_carriage_return line.now) ≡ Some text.now → now_of texts ≡ replies_of (now_of lines)
    → now_of (texts ++ text ∷ []) ≡ replies_of (now_of (lines ++ line ∷ []))
text_more lines line text texts one all =
    rw (map-append (λ (x : Bor (List ℕ)). x.now) texts (text ∷ []), map-append (λ (x : Bor (List ℕ)). x.now) lines (line ∷ []), replies_more (now_of lines) line.now, all, one) refl

-- or which has none
pub line_more : (lines : List (Bor (List ℕ))) (line : Bor (List ℕ)) (texts : List (Bor (List ℕ)))
    → reply_in (strip_carriage_return line.now) ≡ None → now_of texts ≡ replies_of (now_of lines)
    → now_of texts ≡ replies_of (now_of (lines ++ line ∷ []))
line_more lines line texts none all =
    rw (map-append (λ (x : Bor (List ℕ)). x.now) lines (line ∷ []), replies_more (now_of lines) line.now, all, none) (sym (append-nil (replies_of (now_of lines))))

-- behind the first of each, where these agree
others_behind : (e : Entry) (es : List Entry) (t : List ℕ) (ts : List (List ℕ)) (r : Reply) (rs : List Reply)
    → is_reply t r ≡ true → first_other (e ∷ es) (t ∷ ts) (r ∷ rs) ≡ first_other es ts rs
others_behind e es t ts r rs same = rw same refl

-- the first of each, where these differ
other_first : (e : Entry) (es : List Entry) (t : List ℕ) (ts : List (List ℕ)) (r : Reply) (rs : List Reply)
    → is_reply t r ≡ false → first_other (e ∷ es) (t ∷ ts) (r ∷ rs) ≡ Some (record { entry = e; reply = r })
other_first e es t ts r rs differ = rw differ refl

no_texts : (es : List Entry) (rs : List Reply) → first_other es [] rs ≡ None
no_texts [] rs = refl
no_texts (e ∷ es) rs = refl

no_replies : (es : List Entry) (ts : List (List ℕ)) → first_other es ts [] ≡ None
no_replies [] ts = refl
no_replies (e ∷ es) [] = refl
no_replies (e ∷ es) (t ∷ ts) = refl

-- at the end of one of them
pub none_left : (i : ℕ) (es : List Entry) (ts : List (Bor (List ℕ))) (rs : List Reply)
    → min (min (length es) (length ts)) (length rs) ≤ i → first_other (drop i es) (now_of (drop i ts)) (drop i rs) ≡ None
none_left zero [] ts rs end = refl
none_left zero (e ∷ es) [] rs end = refl
none_left zero (e ∷ es) (t ∷ ts) [] end = refl
none_left zero (e ∷ es) (t ∷ ts) (r ∷ rs) end = absurd (omega (arith, end))
none_left (suc i) [] ts rs end = refl
none_left (suc i) (e ∷ es) [] rs end = no_texts (drop i es) (drop (suc i) rs)
none_left (suc i) (e ∷ es) (t ∷ ts) [] end = no_replies (drop i es) (now_of (drop i ts))
none_left (suc i) (e ∷ es) (t ∷ ts) (r ∷ rs) end = none_left i es ts rs (omega (arith, end))

-- one of each more, which agree
pub others_on : (es : List Entry) (ts : List (Bor (List ℕ))) (rs : List Reply) (i : ℕ) (e : Entry) (t : Bor (List ℕ)) (r : Reply)
    → i < length es → i < length ts → i < length rs → is_reply (get_or ts i t).now (get_or rs i r) ≡ true
    → first_other (drop (i + 1) es) (now_of (drop (i + 1) ts)) (drop (i + 1) rs) ≡ first_other (drop i es) (now_of (drop i ts)) (drop i rs)
others_on es ts rs i e t r in_es in_ts in_rs same =
    rw (drop_more es i e in_es, drop_more ts i t in_ts, drop_more rs i r in_rs)
    (sym (others_behind (get_or es i e) (drop (i + 1) es) (get_or ts i t).now (now_of (drop (i + 1) ts)) (get_or rs i r) (drop (i + 1) rs) same))

-- or which differ
pub other_at : (es : List Entry) (ts : List (Bor (List ℕ))) (rs : List Reply) (i : ℕ) (e : Entry) (t : Bor (List ℕ)) (r : Reply)
    → i < length es → i < length ts → i < length rs → is_reply (get_or ts i t).now (get_or rs i r) ≡ false
    → Some (record { entry = get_or es i e; reply = get_or rs i r }) ≡ first_other (drop i es) (now_of (drop i ts)) (drop i rs)
other_at es ts rs i e t r in_es in_ts in_rs differ =
    rw (drop_more es i e in_es, drop_more ts i t in_ts, drop_more rs i r in_rs)
    (sym (other_first (get_or es i e) (drop (i + 1) es) (get_or ts i t).now (now_of (drop (i + 1) ts)) (get_or rs i r) (drop (i + 1) rs) differ))
