-- The locations of a linked program's words are in the store.
use Rattle.ed_link.proofs.Kit.{Size, [], arith, length, List, None, Option, Some, suc, sym, ℕ, ◌+◌, ◌<◌, ◌∙◌, ◌∷◌, ◌≡◌}
use Rattle.ed_link.proofs.Kit.{Line, map, zero, IsLinked, linked_words, empty_table, table_of, words_from}
use Rattle.ed_link.proofs.Kit.{linked_places, Linked, Placed}
use Rattle.std.proofs.Common.{All}
use Rattle.ed_link.proofs.Lengths.{empty_length, put_all_length}
use Rattle.ed_link.proofs.Maps.{places_are}

-- the locations of words in ascending order are below the end of their table
below : (n : ℕ) (table : List (Option ℕ))
    → All (λ a. a < n + length table) (map (λ (p : Placed). p.place) (words_from n table))
below n [] k d h = absurd (omega (arith, h))
below n (None ∷ ws) k d h = let r = below (n + 1) ws k d h in omega (arith, r)
below n (Some w ∷ ws) zero d h = omega arith
below n (Some w ∷ ws) (suc k) d h = let r = below (n + 1) ws k d (omega (arith, h)) in omega (arith, r)

pub places_below : (z : Size) (lines : List Line) (k : Linked) (places : List ℕ) → IsLinked z lines k
    → places ≡ map (λ (p : Placed). p.place) k.words.items → All (λ a. a < 1024) places
unfolding linked_places
places_below z lines k places is e =
    let table = table_of (linked_words lines) in
    let size : length table ≡ 1024 = put_all_length empty_table (linked_words lines) ∙ empty_length in
    let same : places ≡ map (λ (p : Placed). p.place) (words_from 0 table) =
    e ∙ is.places ∙ sym (places_are (linked_words lines)) in
    rw same (λ i d h. let b = below 0 table i d h in omega (arith, b, size))
