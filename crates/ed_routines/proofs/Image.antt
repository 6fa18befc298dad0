-- The link between a routine's table in the library and the words that a path uses: its image at a base, without the
-- words at its working locations.
use Rattle.ed_routines.proofs.Kit.{◌==◌, list_any, Holds, [], ap, arith, Bool, false, get_or, length, List, nat_lt}
use Rattle.ed_routines.proofs.Kit.{Option, refl, rules, Some, suc, sym, true, zero, ℕ, ◌*◌, ◌+◌, ◌-◌, ◌<◌, ◌∙◌, ◌∷◌}
use Rattle.ed_routines.proofs.Kit.{◌≡◌, ◌≤◌, if◌then◌else◌}
use Rattle.ed_notation.proofs.Kit.{nat_eq, nat_le, None, ◌&&◌, and_parts, le-leb, leb-true, digit}
use Rattle.std.proofs.Common.{◌||◌}
use Rattle.std.proofs.lemmas.Bool.{ne_eqb}
use Rattle.std.proofs.lemmas.List.Recursion.{and_at}
use Rattle.ed_machine.proofs.Kit.Standing.{Meets}
use Rattle.ed_notation.specs.Fold.{value_of, word_with}
use Rattle.ed_library.specs.Images.{parameter_store, routine_word}
use Rattle.ed_library.specs.Routines.{missing_row, table_item}
use Rattle.ed_library.specs.declared.tables.TableRow.{TableRow}
use Rattle.ed_library.proofs.Letters.{value_of_parameter}

-- the word of a row at a base, with H, N, M and so on the locations hs
abbrev pub row_word : ℕ → List ℕ → TableRow → ℕ
row_word b hs row =
    if nat_eq row.end 18 then 4096 * row.function + digit row.mark + 2 * (b + row.number)
    else if nat_eq row.end 19 then 4096 * row.function + 2 * row.number + digit row.mark + 1
    else if nat_le 21 row.end then
    4096 * row.function + 2 * row.number + digit row.mark + 2 * get_or hs (row.end - 21) 0
    else 4096 * row.function + 2 * row.number + digit row.mark

-- a row that ends with F, θ or D, or with one of the parameters that the routine takes, and whose word is not
-- reduced
abbrev pub is_plain : ℕ → TableRow → Bool
is_plain takes row =
    nat_le (4096 * row.function + 2 * row.number) 124928
    && (nat_eq row.end 17
    || (nat_eq row.end 18 || (nat_eq row.end 19 || (nat_le 21 row.end && nat_lt row.end (21 + takes)))))

abbrev pub all_plain : ℕ → List TableRow → Bool
all_plain takes [] = true
all_plain takes (row ∷ rows) = is_plain takes row && all_plain takes rows

-- the words of the rows from row i onwards, except at the working locations
abbrev pub image_from : List TableRow → List ℕ → ℕ → List ℕ → ℕ → List (Option ℕ)
image_from [] working b hs i = []
image_from (row ∷ rows) working b hs i =
    (if list_any (λ p. p == i) working then None else Some (row_word b hs row)) ∷ image_from rows working b hs (i + 1)

pub length_image : (rows : List TableRow) (working : List ℕ) (b : ℕ) (hs : List ℕ) (i : ℕ)
    → length (image_from rows working b hs i) ≡ length rows
length_image [] working b hs i = refl
length_image (row ∷ rows) working b hs i = ap suc (length_image rows working b hs (i + 1))

-- the word at an offset
image_at : (rows : List TableRow) (working : List ℕ) (b : ℕ) (hs : List ℕ) (i j : ℕ) (d : TableRow) → j < length rows
    → get_or (image_from rows working b hs i) j None
    ≡ (if list_any (λ p. p == (i + j)) working then None else Some (row_word b hs (get_or rows j d)))
image_at [] working b hs i j d l = absurd (omega arith)
image_at (row ∷ rows) working b hs i zero d l = let z : i + 0 ≡ i = omega arith in rw z refl
image_at (row ∷ rows) working b hs i (suc j) d l = search (rules, image_at rows working b hs (i + 1) j d (omega arith))

-- the letters of such rows
pub data IsLetter (takes c : ℕ) : Type 0 where
  F : c ≡ 17 → IsLetter takes c
  theta : c ≡ 18 → IsLetter takes c
  D : c ≡ 19 → IsLetter takes c
  parameter : 21 ≤ c → c < 21 + takes → IsLetter takes c

letter_of : (takes c : ℕ)
    → (nat_eq c 17 || (nat_eq c 18 || (nat_eq c 19 || (nat_le 21 c && nat_lt c (21 + takes))))) ≡ true
    → IsLetter takes c
letter_of takes c e = search rules

digit_low : (d : Bool) → digit d ≤ 1
digit_low d = grind arith

-- the parameters that make H, N, M and so on these locations
pub data Makes : List ℕ → List ℕ → Type 0 where
  none : {ps : List ℕ} → Makes ps []
  more : {p h : ℕ} {ps hs : List ℕ} → h ≤ 1023 → p ≡ 2 * h → Makes ps hs → Makes (p ∷ ps) (h ∷ hs)

near : {ps hs : List ℕ} → Makes ps hs → (p : ℕ) → p < length hs → get_or hs p 0 ≤ 1023
near none p l = absurd (omega arith)
near (more low is rest) zero l = low
near (more low is rest) (suc p) l = near rest p (omega arith)

twice : {ps hs : List ℕ} → Makes ps hs → (p : ℕ) → p < length hs → get_or ps p 0 ≡ 2 * get_or hs p 0
twice none p l = absurd (omega arith)
twice (more low is rest) zero l = is
twice (more low is rest) (suc p) l = twice rest p (omega arith)

module _ {parameters hs : List ℕ} {b : ℕ} (low : b ≤ 1024) (makes : Makes parameters hs) where
  abbrev takes : ℕ
  takes = length hs

  by_letter : (f n c : ℕ) (d : Bool) → 4096 * f + 2 * n ≤ 124928 → IsLetter takes c
      → word_with f n d (value_of (parameter_store parameters) (2 * b) c)
      ≡ row_word b hs (record { function = f; number = n; mark = d; end = c })
  by_letter f n c d small h =
      search (rules, digit_low, value_of, value_of_parameter, twice, near, ne_eqb, le-leb)

  -- the word that the library gives a row
  pub row_word_is : (row : TableRow) → is_plain takes row ≡ true
      → routine_word parameters b (table_item row) ≡ row_word b hs row
  row_word_is row plain = search (rules, and_parts, by_letter, leb-true, letter_of)

  module _ (working : List ℕ) (no_row : TableRow) where
    here_meets : (t : Bool) (row : TableRow) (x : ℕ) → is_plain takes row ≡ true
        → (t ≡ false → x ≡ routine_word parameters b (table_item row))
        → Meets (if t then None else Some (row_word b hs row)) x
    here_meets t row x plain e = grind (arith, row_word_is)

    -- a store with the library's words at a base, except at the working locations, holds the image
    pub holds_rows : (rows : List TableRow) (ws : List ℕ) → all_plain takes rows ≡ true
        → ((j : ℕ) → j < length rows → list_any (λ p. p == j) working ≡ false
        → get_or ws (b + j) 0 ≡ routine_word parameters b (table_item (get_or rows j no_row)))
        → Holds (image_from rows working b hs 0) ws b
    holds_rows rows ws plain words j l =
        let z : 0 + j ≡ j = omega arith in
        let inside : j < length rows = omega (arith, l, length_image rows working b hs 0) in
        let is_row = and_at (all_plain takes) (is_plain takes) refl (λ _ _. refl) rows j no_row inside plain in
        rw (image_at rows working b hs 0 j no_row inside, z)
        (here_meets (list_any (λ p. p == j) working) (get_or rows j no_row) _ is_row (words j inside))

here_working : (t : Bool) (w : ℕ) → ◌≡◌ {A = Option ℕ} (if t then None else Some w) None → t ≡ true
here_working t w e = grind arith

-- the image leaves out words at working locations only
pub working_at : (rows : List TableRow) (working : List ℕ) (b : ℕ) (hs : List ℕ) (i j : ℕ) → j < length rows
    → get_or (image_from rows working b hs i) j None ≡ None
    → list_any (λ p. p == (i + j)) working ≡ true
working_at rows working b hs i j l e =
    here_working _ (row_word b hs (get_or rows j missing_row)) (sym (image_at rows working b hs i j missing_row l) ∙ e)
