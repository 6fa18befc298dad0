-- Words and digits of packed cells.
use Rattle.ed_store.proofs.Kit.{ap, arith, get_or, nat_eq, sym, ◌%◌, ◌*◌, ◌/◌, ◌^◌, ◌∙◌, Cells, long_at, sandwich_at}
use Rattle.ed_store.proofs.Kit.{short_at, unpacked_cells}
use Rattle.std.proofs.Common.{◌≡◌, ℕ, zero, suc, ◌<◌, ◌≢◌, refl, ap₂, lit<, false, List, [], ◌∷◌, drop, length, set}
use Rattle.std.proofs.Common.{replicate}
use Rattle.std.proofs.lemmas.Bool.Decides.{nat_tests}
use Rattle.std.proofs.lemmas.List.{set-get_or, get_or-set_other, get_or_read, length-replicate}
use Rattle.ed_words.specs.Words.{digit}
use Rattle.ed_store.specs.Cells.{IsStore, cleared_cells, even, odd, with_short, with_long}
use Rattle.ed_store.specs.Packed.{cell_words, sandwich_digits, ArePacked}

-- two stores with the same words and digits are equal
cells_equal : (a b : Cells) → a.words ≡ b.words → a.sandwich ≡ b.sandwich → a ≡ b
cells_equal a b words digits = λ i. record { words = words i; sandwich = digits i }

twice : (k : ℕ) → 2 * suc k ≡ suc (suc (2 * k))
twice k = omega arith

-- the word and the digit at an index
get_low : (cs : List ℕ) (k : ℕ) → get_or (cell_words cs) (2 * k) 0 ≡ get_or cs k 0 % 2 ^ 17
get_low [] k = refl
get_low (c ∷ cs) zero = refl
get_low (c ∷ cs) (suc k) = rw (twice k) (get_low cs k)

get_high : (cs : List ℕ) (k : ℕ) → get_or (cell_words cs) (suc (2 * k)) 0 ≡ get_or cs k 0 / 2 ^ 18
get_high [] k = refl
get_high (c ∷ cs) zero = refl
get_high (c ∷ cs) (suc k) = rw (twice k) (get_high cs k)

get_digit : (cs : List ℕ) (k : ℕ) → get_or (sandwich_digits cs) k false ≡ nat_eq (get_or cs k 0 / 2 ^ 17 % 2) 1
get_digit [] k = refl
get_digit (c ∷ cs) zero = refl
get_digit (c ∷ cs) (suc k) = get_digit cs k

-- a cell written is both words of its pair and its digit written
set_words : (cs : List ℕ) (k x : ℕ)
    → cell_words (set cs k x) ≡ set (set (cell_words cs) (2 * k) (x % 2 ^ 17)) (suc (2 * k)) (x / 2 ^ 18)
set_words [] k x = refl
set_words (c ∷ cs) zero x = refl
set_words (c ∷ cs) (suc k) x = rw (twice k) (ap (λ ws. c % 2 ^ 17 ∷ c / 2 ^ 18 ∷ ws) (set_words cs k x))

set_digits : (cs : List ℕ) (k x : ℕ)
    → sandwich_digits (set cs k x) ≡ set (sandwich_digits cs) k (nat_eq (x / 2 ^ 17 % 2) 1)
set_digits [] k x = refl
set_digits (c ∷ cs) zero x = refl
set_digits (c ∷ cs) (suc k) x = ap (λ ds. nat_eq (c / 2 ^ 17 % 2) 1 ∷ ds) (set_digits cs k x)

length-words : (cs : List ℕ) → length (cell_words cs) ≡ 2 * length cs
length-words [] = refl
length-words (c ∷ cs) = omega (arith, length-words cs)

length-digits : (cs : List ℕ) → length (sandwich_digits cs) ≡ length cs
length-digits [] = refl
length-digits (c ∷ cs) = ap suc (length-digits cs)

words_fit : (cs : List ℕ) → ((k : ℕ) → get_or cs k 0 < 2 ^ 35) → (i : ℕ) → get_or (cell_words cs) i 0 < 2 ^ 17
words_fit [] h i = lit< tt
words_fit (c ∷ cs) h zero = omega arith
words_fit (c ∷ cs) h (suc zero) = omega (arith, h 0)
words_fit (c ∷ cs) h (suc (suc i)) = words_fit cs (λ k. h (suc k)) i

-- packed cells are a store
pub is_store : (cs : List ℕ) → ArePacked cs → IsStore (unpacked_cells cs)
is_store cs packed = record {
  words_are = omega (arith, length-words cs, packed.many);
  digits_are = length-digits cs ∙ packed.many;
  fits = words_fit cs packed.fits;
}

-- the cell that was read for a location
pub cell_read : (cs : List ℕ) (a at x : ℕ) → ArePacked cs → a < 1024 → at ≡ a / 2 → x ≡ get_or cs at x
    → x ≡ get_or cs (a / 2) 0
cell_read cs a at x packed fits is read =
    let here : x ≡ get_or cs (a / 2) x = read ∙ ap (λ k. get_or cs k x) is in
    get_or_read cs (a / 2) x (omega (arith, packed.many)) here 0

-- a location's word from the cell of its pair
pub short_low : (cs : List ℕ) (a : ℕ) → a % 2 ≡ 0 → short_at (unpacked_cells cs) a ≡ get_or cs (a / 2) 0 % 2 ^ 17
short_low cs a h = let e : a ≡ 2 * (a / 2) = omega arith in ap (λ i. get_or (cell_words cs) i 0) e ∙ get_low cs (a / 2)

pub short_high : (cs : List ℕ) (a : ℕ) → a % 2 ≢ 0 → short_at (unpacked_cells cs) a ≡ get_or cs (a / 2) 0 / 2 ^ 18
short_high cs a h = let e : a ≡ suc (2 * (a / 2)) = omega arith in ap (λ i. get_or (cell_words cs) i 0) e
    ∙ get_high cs (a / 2)

-- the upper word of a cell has 17 digits
pub high_fits : (x : ℕ) → x < 2 ^ 35 → x / 2 ^ 18 % 2 ^ 17 ≡ x / 2 ^ 18
high_fits x h = omega arith

-- the sandwich digit of a location's pair from its cell
pub digit_is : (cs : List ℕ) (a : ℕ) → sandwich_at (unpacked_cells cs) a ≡ nat_eq (get_or cs (a / 2) 0 / 2 ^ 17 % 2) 1
digit_is cs a = get_digit cs (a / 2)

digit_number : (n : ℕ) → digit (nat_eq (n % 2) 1) ≡ n % 2
digit_number n = grind (arith, nat_tests)

-- the long word of a location's pair is its cell
pub long_is : (cs : List ℕ) (a : ℕ) → long_at (unpacked_cells cs) a ≡ get_or cs (a / 2) 0
long_is cs a =
    let e : even a ≡ 2 * (a / 2) = omega arith in
    let o : odd a ≡ suc (2 * (a / 2)) = omega arith in
    let cell = get_or cs (a / 2) 0 in
    let low = ap (λ i. get_or (cell_words cs) i 0) e ∙ get_low cs (a / 2) in
    let high = ap (λ i. get_or (cell_words cs) i 0) o ∙ get_high cs (a / 2) in
    let middle : digit (get_or (sandwich_digits cs) (a / 2) false) ≡ cell / 2 ^ 17 % 2 = ap digit (get_digit cs (a / 2))
    ∙ digit_number (cell / 2 ^ 17) in
    omega (arith, low, high, middle)

-- cell k is the long word of the pair of 2k
pub cell_is : (cs : List ℕ) (k : ℕ) → get_or cs k 0 ≡ long_at (unpacked_cells cs) (2 * k)
cell_is cs k = let e : 2 * k / 2 ≡ k = omega arith in sym (long_is cs (2 * k) ∙ ap (λ i. get_or cs i 0) e)

-- a cell is written
pub put_long_is : (cs : List ℕ) (a x : ℕ) → unpacked_cells (set cs (a / 2) x) ≡ with_long (unpacked_cells cs) a x
put_long_is cs a x =
    let e : 2 * (a / 2) ≡ even a = omega arith in
    let o : suc (2 * (a / 2)) ≡ odd a = omega arith in
    cells_equal _ _ (set_words cs (a / 2) x ∙ ap₂ (λ i j. set (set (cell_words cs) i (x % 2 ^ 17)) j (x / 2 ^ 18)) e o)
    (set_digits cs (a / 2) x)

-- if a cell's sandwich digit is the one it had before, the digits are unchanged
same_digit : (cs : List ℕ) (k x : ℕ) → x / 2 ^ 17 % 2 ≡ get_or cs k 0 / 2 ^ 17 % 2
    → sandwich_digits (set cs k x) ≡ sandwich_digits cs
same_digit cs k x same =
    set_digits cs k x ∙ ap (λ n. set (sandwich_digits cs) k (nat_eq n 1)) same
    ∙ ap (set (sandwich_digits cs) k) (sym (get_digit cs k))
    ∙ set-get_or (sandwich_digits cs) k false

-- the lower half of a cell is written: the upper half and the sandwich digit are unchanged
pub put_low_is : (cs : List ℕ) (a x w : ℕ) → a % 2 ≡ 0 → x % 2 ^ 17 ≡ w → x / 2 ^ 17 ≡ get_or cs (a / 2) 0 / 2 ^ 17
    → unpacked_cells (set cs (a / 2) x) ≡ with_short (unpacked_cells cs) a w
put_low_is cs a x w h low rest =
    let k = a / 2 in let ws = cell_words cs in
    let place : 2 * k ≡ a = omega arith in
    let other : suc (2 * k) ≢ 2 * k = omega arith in
    let upper : x / 2 ^ 18 ≡ get_or cs k 0 / 2 ^ 18 = omega arith in
    let same : x / 2 ^ 18 ≡ get_or (set ws (2 * k) w) (suc (2 * k)) 0 =
    upper ∙ sym (get_high cs k) ∙ sym (get_or-set_other ws (2 * k) (suc (2 * k)) w 0 other) in
    let words : cell_words (set cs k x) ≡ set ws a w =
    set_words cs k x ∙ ap₂ (λ v u. set (set ws (2 * k) v) (suc (2 * k)) u) low same
    ∙ set-get_or (set ws (2 * k) w) (suc (2 * k)) 0 ∙ ap (λ i. set ws i w) place in
    cells_equal _ _ words (same_digit cs k x (omega arith))

-- the upper half of a cell is written: the lower half and the sandwich digit are unchanged
pub put_high_is : (cs : List ℕ) (a x w : ℕ) → a % 2 ≢ 0 → x / 2 ^ 18 ≡ w → x % 2 ^ 18 ≡ get_or cs (a / 2) 0 % 2 ^ 18
    → unpacked_cells (set cs (a / 2) x) ≡ with_short (unpacked_cells cs) a w
put_high_is cs a x w h high rest =
    let k = a / 2 in let ws = cell_words cs in
    let place : suc (2 * k) ≡ a = omega arith in
    let lower : x % 2 ^ 17 ≡ get_or cs k 0 % 2 ^ 17 = omega arith in
    let middle : x / 2 ^ 17 % 2 ≡ get_or cs k 0 / 2 ^ 17 % 2 = omega arith in
    let words : cell_words (set cs k x) ≡ set ws a w =
    set_words cs k x ∙ ap₂ (λ v u. set (set ws (2 * k) v) (suc (2 * k)) u) (lower ∙ sym (get_low cs k)) high
    ∙ ap (λ vs. set vs (suc (2 * k)) w) (set-get_or ws (2 * k) 0) ∙ ap (λ i. set ws i w) place in
    cells_equal _ _ words (same_digit cs k x middle)

zeros_fit : (n k : ℕ) → get_or (replicate n 0) k 0 < 2 ^ 35
zeros_fit zero k = lit< tt
zeros_fit (suc n) zero = lit< tt
zeros_fit (suc n) (suc k) = zeros_fit n k

-- 0 in every cell is 0 everywhere
pub cleared_is : unpacked_cells (replicate 512 0) ≡ cleared_cells
cleared_is = refl

pub cleared_packed : ArePacked (replicate 512 0)
cleared_packed = record { many = length-replicate {A = ℕ} 512 0; fits = zeros_fit 512 }

-- a cell is its three parts
same_cell : (c d : ℕ) → c % 2 ^ 17 ≡ d % 2 ^ 17 → c / 2 ^ 18 ≡ d / 2 ^ 18
    → nat_eq (c / 2 ^ 17 % 2) 1 ≡ nat_eq (d / 2 ^ 17 % 2) 1 → c ≡ d
same_cell c d low high middle =
    let digit_same : c / 2 ^ 17 % 2 ≡ d / 2 ^ 17 % 2 = sym (digit_number (c / 2 ^ 17)) ∙ ap digit middle
    ∙ digit_number (d / 2 ^ 17) in
    omega (arith, low, high, digit_same)

from_parts : (cs ds : List ℕ) → cell_words cs ≡ cell_words ds → sandwich_digits cs ≡ sandwich_digits ds → cs ≡ ds
from_parts [] [] w d = refl
from_parts [] (y ∷ ys) w d = absurd (cc)
from_parts (x ∷ xs) [] w d = absurd (cc)
from_parts (x ∷ xs) (y ∷ ys) w d =
    let low = ap (λ ws. get_or ws 0 0) w in
    let high = ap (λ ws. get_or ws 1 0) w in
    let middle = ap (λ ds. get_or ds 0 false) d in
    ap₂ (λ c cs. c ∷ cs) (same_cell x y low high middle) (from_parts xs ys (ap (drop 2) w) (ap (drop 1) d))

-- different cells are different stores
pub unpacked_injective : (cs ds : List ℕ) → unpacked_cells cs ≡ unpacked_cells ds → cs ≡ ds
unpacked_injective cs ds e = from_parts cs ds (ap (λ (c : Cells). c.words) e) (ap (λ (c : Cells). c.sandwich) e)
