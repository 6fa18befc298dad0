-- The content of a location is the map's if it has the location, and the store's otherwise.
use Rattle.ed_notation.proofs.Kit.{[], Bool, false, if_means, if◌then◌else◌, length, List, None, Option, refl, set}
use Rattle.ed_notation.proofs.Kit.{Some, true, unwrap_or, ℕ, ◌<◌, ◌∷◌, ◌≡◌, ◌≢◌, eqb-false, eqb-true, get_or-set_other}
use Rattle.ed_notation.proofs.Kit.{length-replicate, arith, get_or, nat_eq, sym, ◌∙◌, ArePlaces, marks_of, over}
use Rattle.std.proofs.lemmas.List.{get_or-set_same, length-set, get_or-replicate}
use Rattle.ed_notation.specs.Checks.{ContentIsMapOrStore}
use Rattle.ed_notation.specs.Fold.{placed_at}

pub length-over : (placed : List (ℕ × ℕ)) (words : List ℕ) → length (over placed words) ≡ length words
length-over [] words = refl
length-over (p ∷ placed) words = length-set (over placed words) p.0 p.1 ∙ length-over placed words

pub length-marked : (placed : List (ℕ × ℕ)) → length (marks_of placed) ≡ 1024
length-marked [] = length-replicate {A = Bool} 1024 false
length-marked (p ∷ placed) = length-set (marks_of placed) p.0 true ∙ length-marked placed

differs : (a b : ℕ) → nat_eq a b ≡ false → b ≢ a
differs a b h e = eqb-false a b h (sym e)

-- the content of a location
pub content_is : ContentIsMapOrStore
content_is words l [] a are = refl
content_is words l (p ∷ placed) a are =
    let W : List ℕ = over placed words in
    if_means (λ (o : Option ℕ). get_or (set W p.0 p.1) a 0 ≡ unwrap_or o (get_or words a 0)) (nat_eq p.0 a) _ _ (λ e.
    let inside : p.0 < length W = omega (arith, are.0, length-over placed words, l) in
    rw (sym (eqb-true p.0 a e)) (get_or-set_same W p.0 p.1 0 inside)) (λ e.
    get_or-set_other W p.0 a p.1 0 (differs p.0 a e) ∙ content_is words l placed a are.1)

abbrev word_where : Bool → ℕ → Option ℕ
word_where marks_of word = if marks_of then Some word else None

-- the word placed at a location, by marks and contents
pub word_is : (words : List ℕ) → length words ≡ 1024 → (placed : List (ℕ × ℕ)) (a : ℕ) → a < 1024 → ArePlaces placed
    → word_where (get_or (marks_of placed) a false) (get_or (over placed words) a 0) ≡ placed_at placed a
word_is words l [] a h are = rw (get_or-replicate 1024 a false false h) refl
word_is words l (p ∷ placed) a h are =
    let M : List Bool = marks_of placed in
    let W : List ℕ = over placed words in
    if_means (λ (o : Option ℕ). word_where (get_or (set M p.0 true) a false) (get_or (set W p.0 p.1) a 0) ≡ o)
    (nat_eq p.0 a) _ _ (λ e.
    let m : p.0 < length M = omega (arith, are.0, length-marked placed) in
    let inside : p.0 < length W = omega (arith, are.0, length-over placed words, l) in
    rw (sym (eqb-true p.0 a e), get_or-set_same M p.0 true false m, get_or-set_same W p.0 p.1 0 inside) refl) (λ e.
    let d = differs p.0 a e in
    rw (get_or-set_other M p.0 a true false d, get_or-set_other W p.0 a p.1 0 d) (word_is words l placed a h are.1))
