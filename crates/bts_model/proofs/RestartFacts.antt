-- What is sent of one timeslot more, and of the parts of a timeslot.
use Rattle.std.proofs.Common.{◌≡◌, ℕ, ◌+◌, List, [], ◌++◌, map, flat_map, sym, ap, ◌∙◌, append_assoc}
use Rattle.std.specs.List.{range_with_len}
use Rattle.std.proofs.lemmas.List.{map-append}
use Rattle.octet_elements.proofs.Numbered.{flat_map_next}

joined : {X Y : Type 0} (h : X → Y) (front : List Y) (one other : List X) → (front ++ map h one) ++ map h other ≡ front ++ map h (one ++ other)
joined h front one other = append_assoc front (map h one) (map h other) ∙ ap (λ l. front ++ l) (sym (map-append h one other))

pub next_sent : {X Y : Type 0} (h : X → Y) (front : List Y) (f : ℕ → List X) (n : ℕ) → (front ++ map h (flat_map f (range_with_len 0 n))) ++ map h (f n) ≡ front ++ map h (flat_map f (range_with_len 0 (n + 1)))
next_sent h front f n = joined h front (flat_map f (range_with_len 0 n)) (f n) ∙ ap (λ l. front ++ map h l) (flat_map_next [] f n)

pub three_sent : {X Y : Type 0} (h : X → Y) (front : List Y) (a b c : List X) → ((front ++ map h a) ++ map h b) ++ map h c ≡ front ++ map h (a ++ (b ++ c))
three_sent h front a b c = joined h (front ++ map h a) b c ∙ joined h front a (b ++ c)
