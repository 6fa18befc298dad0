-- A table keeps its length; how words are put into it.
use Rattle.ed_link.proofs.Kit.{length-set, [], arith, length, List, None, Option, refl, replicate}
use Rattle.ed_link.proofs.Kit.{set, Some, sym, ℕ, ◌++◌, ◌+◌, ◌∙◌, ◌∷◌, ◌≡◌, length-replicate}
use Rattle.ed_link.proofs.Kit.{placed_words, empty_table, put_all, rules}

-- words that are put into a table leave its length
pub put_all_length : (table : List (Option ℕ)) (ps : List (ℕ × ℕ)) → length (put_all table ps) ≡ length table
put_all_length table [] = refl
put_all_length table (p ∷ ps) = put_all_length (set table p.0 (Some p.1)) ps ∙ length-set table p.0 (Some p.1)

-- a table of 1024 empty cells is the empty one
pub empty_is : (xs : List (Option ℕ)) → xs ≡ replicate 1024 None → xs ≡ empty_table
unfolding empty_table
empty_is xs h = h

-- it has 1024 entries
pub empty_length : length empty_table ≡ 1024
unfolding empty_table
empty_length = length-replicate {A = Option ℕ} 1024 None

-- words, and then more words
pub put_all_append : (table : List (Option ℕ)) (ps qs : List (ℕ × ℕ))
    → put_all (put_all table ps) qs ≡ put_all table (ps ++ qs)
put_all_append table [] qs = refl
put_all_append table (p ∷ ps) qs = put_all_append (set table p.0 (Some p.1)) ps qs

-- one more word
pub placed_push : (place : ℕ) (ws : List ℕ) (w : ℕ)
    → placed_words place (ws ++ w ∷ []) ≡ placed_words place ws ++ (place + length ws, w) ∷ []
placed_push place [] w = let e : place + 0 ≡ place = omega arith in rw e refl
placed_push place (v ∷ ws) w = search (rules, placed_push (place + 1) ws w)

-- one more word is put
pub put_push : (table : List (Option ℕ)) (ps : List (ℕ × ℕ)) (p : ℕ × ℕ)
    → put_all table (ps ++ p ∷ []) ≡ set (put_all table ps) p.0 (Some p.1)
put_push table ps p = sym (put_all_append table ps (p ∷ []))
