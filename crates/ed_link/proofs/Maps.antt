-- The words in ascending order of location are the map of the words in the order of the lines.
use Rattle.ed_link.proofs.Kit.{reverse, eq-eqb, ne_eqb, length-set, placed_at, [], ap, arith, Bool}
use Rattle.ed_link.proofs.Kit.{false, get_or, if◌then◌else◌, length, List, nat_eq, None, Option, refl, set, Some, suc}
use Rattle.ed_link.proofs.Kit.{sym, true, ℕ, ◌++◌, ◌+◌, ◌<◌, ◌∙◌, ◌∷◌, ◌≡◌, map, zero}
use Rattle.ed_link.proofs.Kit.{is_some, empty_table, put_all, table_of, word_at, words_from, Placed}
use Rattle.std.specs.List.{filter, range_with_len}
use Rattle.std.proofs.lemmas.List.{get_or-replicate, append-nil}
use Rattle.ed_link.proofs.Lengths.{empty_length, put_all_length}
use Rattle.ed_link.proofs.Orders.{placed_more}
use Rattle.ed_link.proofs.Kit.{rules}

-- one word is put
one : {found : Option ℕ} (t : List (Option ℕ)) (p w a : ℕ) (b : Bool) → nat_eq p a ≡ b → a < length t
    → get_or t a None ≡ found
    → get_or (set t p (Some w)) a None ≡ (if b then Some w else found)
one t p w a b e l h = search rules

-- words are put
put_is : (ps m : List (ℕ × ℕ)) (t : List (Option ℕ)) (a : ℕ) → a < length t → get_or t a None ≡ placed_at m a
    → get_or (put_all t ps) a None ≡ placed_at (reverse ps ++ m) a
put_is [] m t a l h = h
put_is (p ∷ ps) m t a l h =
    let l2 : a < length (set t p.0 (Some p.1)) = omega (arith, length-set t p.0 (Some p.1)) in
    put_is ps (p ∷ m) _ a l2 (one t p.0 p.1 a _ refl l h) ∙ ap (λ x. placed_at x a) (placed_more p ps m)

-- the empty table has no word
empty_none : (a : ℕ) → a < 1024 → get_or empty_table a None ≡ None
unfolding empty_table
empty_none a h = get_or-replicate {A = Option ℕ} 1024 a None None h

-- the table has the words of the map
table_is : (ps : List (ℕ × ℕ)) (a : ℕ) → a < 1024 → get_or (table_of ps) a None ≡ placed_at (reverse ps) a
table_is ps a h =
    let l : a < length empty_table = omega (arith, empty_length) in
    put_is ps [] empty_table a l (empty_none a h) ∙ ap (λ x. placed_at x a) (append-nil _)

-- there is no word below the first location
below : (t : List (Option ℕ)) (b a : ℕ) → a < b → word_at (words_from b t) a ≡ None
below [] b a h = refl
below (None ∷ t) b a h = below t (b + 1) a (omega arith)
below (Some w ∷ t) b a h = let e = ne_eqb b a (omega arith) in rw e (below t (b + 1) a (omega arith))

-- the word at a location
at : (t : List (Option ℕ)) (b k : ℕ) → word_at (words_from b t) (b + k) ≡ get_or t k None
at [] b k = refl
at (None ∷ t) b zero = below t (b + 1) (b + 0) (omega arith)
at (None ∷ t) b (suc k) = let e : b + suc k ≡ b + 1 + k = omega arith in rw e (at t (b + 1) k)
at (Some w ∷ t) b zero = let e : nat_eq b (b + 0) ≡ true = eq-eqb b (b + 0) (omega arith) in rw e refl
at (Some w ∷ t) b (suc k) = search (rules, ne_eqb, at t (b + 1) k)

-- the words in ascending order of location are the map
pub words_are : (ps : List (ℕ × ℕ)) (a : ℕ) → a < 1024
    → word_at (words_from 0 (table_of ps)) a ≡ placed_at (reverse ps) a
words_are ps a h =
    let e : 0 + a ≡ a = omega arith in
    ap (λ x. word_at (words_from 0 (table_of ps)) x) (sym e) ∙ at (table_of ps) 0 a ∙ table_is ps a h

-- the locations of a table's words, by a test that tells which of its cells have one
places_from : (f : ℕ → Bool) (t : List (Option ℕ)) (b : ℕ)
    → ((i : ℕ) → i < length t → f (b + i) ≡ is_some (get_or t i None))
    → map (λ (p : Placed). p.place) (words_from b t) ≡ filter f (range_with_len b (length t))
places_from f [] b h = refl
places_from f (None ∷ t) b h =
    let here : f b ≡ false = ap f (omega arith) ∙ h 0 (omega arith) in
    rw here (places_from f t (b + 1) (λ i l. ap f (omega arith) ∙ h (suc i) (omega (arith, l))))
places_from f (Some w ∷ t) b h =
    let here : f b ≡ true = ap f (omega arith) ∙ h 0 (omega arith) in
    rw here (ap (λ (places : List ℕ). b ∷ places)
    (places_from f t (b + 1) (λ i l. ap f (omega arith) ∙ h (suc i) (omega (arith, l)))))

-- the locations of the words are those at which the map has one
pub places_are : (ps : List (ℕ × ℕ))
    → map (λ (p : Placed). p.place) (words_from 0 (table_of ps))
    ≡ filter (λ a. is_some (placed_at (reverse ps) a)) (range_with_len 0 1024)
places_are ps =
    let long : length (table_of ps) ≡ 1024 = put_all_length empty_table ps ∙ empty_length in
    places_from (λ a. is_some (placed_at (reverse ps) a)) _ 0 (λ i l. let at : 0 + i ≡ i = omega arith in
    ap (λ a. is_some (placed_at (reverse ps) a)) at
    ∙ ap (λ (w : Option ℕ). is_some w) (sym (table_is ps i (omega (arith, l, long)))))
    ∙ ap (λ (n : ℕ). filter (λ a. is_some (placed_at (reverse ps) a)) (range_with_len 0 n)) long
