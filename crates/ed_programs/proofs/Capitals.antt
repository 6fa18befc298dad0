-- Capital letters: each spells a row of tape, and is printed as it is.
use Rattle.ed_programs.proofs.Kit.{Letters, bytes_eq, bytes_eq-Decides, list_all-numbers, [], ap, arith, Bool, false}
use Rattle.ed_programs.proofs.Kit.{length, List, nat_le, None, not, refl, true, ℕ, ◌++◌, ◌==◌, ◌∷◌, ◌≡◌, ◌≤◌, list_all}
use Rattle.ed_programs.proofs.Kit.{and_from, and_parts, leb-true, not-true, Text, row_of, row, ◌&&◌, paper_from}
use Rattle.ed_programs.proofs.Kit.{is_capital}
use Rattle.ed_printer.specs.Paper.{struck_bytes}
use Rattle.ed_programs.specs.Hello.{letters_refusal}
use Rattle.ed_programs.proofs.RowTexts.{is_row_byte, text_rows}
use Rattle.std.proofs.Common.{rules}

-- 1 to `most` capital letters
pub record AreLetters (most : ℕ) (letters : Text) : Type 0 where
  pub some : 1 ≤ length letters
  pub few : length letters ≤ most
  pub capital : list_all is_capital letters ≡ true

-- a text that is not refused is such letters
pub are_letters : (most : ℕ) (letters : Text) → letters_refusal most letters ≡ None → AreLetters most letters
are_letters most letters taken = search rules

-- what is so of each letter, as a test
abbrev fine : ℕ → Bool
fine b = is_row_byte b
    && (bytes_eq (struck_bytes Letters (row (row_of b))) (b ∷ [])
    && (not (row (row_of b) == 11) && not (row (row_of b) == 15)))

pub record Letter (b : ℕ) : Type 0 where
  pub row_byte : is_row_byte b ≡ true
  pub struck_is : struck_bytes Letters (row (row_of b)) ≡ b ∷ []
  pub no_figures : (row (row_of b) == 11) ≡ false
  pub no_letters : (row (row_of b) == 15) ≡ false

pub Letter-between : (b : ℕ) → (nat_le 65 b && nat_le b 90) ≡ true → Letter b
Letter-between b h =
    let p = and_parts (nat_le 65 b) (nat_le b 90) h in
    let q = and_parts _ _ (list_all-numbers fine 65 26 b refl (leb-true 65 b p.0) (omega (arith, leb-true b 90 p.1))) in
    let r = and_parts _ _ q.1 in
    let t = and_parts _ _ r.1 in
    record {
      row_byte = q.0;
      struck_is = (bytes_eq-Decides (struck_bytes Letters (row (row_of b))) (b ∷ [])).0 r.0;
      no_figures = not-true (row (row_of b) == 11) t.0;
      no_letters = not-true (row (row_of b) == 15) t.1;
    }

pub are_rows : (q : Text) → list_all (λ b. nat_le 65 b && nat_le b 90) q ≡ true → list_all is_row_byte q ≡ true
are_rows [] h = refl
are_rows (b ∷ q) h =
    let p = and_parts _ _ h in and_from _ _ (Letter-between b p.0).row_byte (are_rows q p.1)

-- letters are printed as they are
pub capitals_shown : (q : Text) (more : List ℕ) → list_all is_capital q ≡ true
    → paper_from Letters (text_rows q ++ more) ≡ q ++ paper_from Letters more
capitals_shown [] more h = refl
capitals_shown (b ∷ q) more h =
    let p = and_parts _ _ h in
    let l = Letter-between b p.0 in
    rw (l.no_figures, l.no_letters, l.struck_is) (ap (λ (x : Text). b ∷ x) (capitals_shown q more p.1))

-- and a new line follows
pub letters_shown : (q : Text) → list_all (λ b. nat_le 65 b && nat_le b 90) q ≡ true
    → paper_from Letters (text_rows q ++ 18 ∷ 24 ∷ []) ≡ q ++ 13 ∷ 10 ∷ []
letters_shown q h = capitals_shown q (18 ∷ 24 ∷ []) h
