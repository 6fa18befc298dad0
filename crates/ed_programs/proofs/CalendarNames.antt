-- The name of the month in `examples/calendar.tape`.
use Rattle.ed_programs.proofs.Kit.{◌%◌, Size, LD, followed, list_all-numbers, [], arith, Bool, get_or, List, nat_lt}
use Rattle.ed_programs.proofs.Kit.{Option, refl, subst, suc, take, ℕ, ◌*◌, ◌+◌, ◌<◌, ◌∙◌, ◌∷◌, ◌≡◌, and_parts, ltb-true}
use Rattle.ed_programs.proofs.Kit.{bytes_eq, bytes_eq-Decides, drop, Moment, Path, ◌&&◌, name_codes, to}
use Rattle.ed_programs.proofs.CalendarCells.{at, frame, have_part, sign_at, signs, Have, IsAround, Work}
use Rattle.ed_programs.proofs.CalendarSigns.{in_words}
use Rattle.ed_programs.proofs.Orders.{A, A_by, A_low, L, S, T, U, obeys}

-- a, b and c are the letters of name i: they are the signs from 39 + 3 i on
pub record IsName (i a b c : ℕ) : Type 0 where
  pub name_is : name_codes i ≡ a ∷ b ∷ c ∷ []
  pub letters : (x y u : ℕ) → Have (signs x y u) (39 + 3 * i) (in_words (a ∷ b ∷ c ∷ []))
  pub few : (a < 32) × (b < 32) × (c < 32)

-- they are put into the title
abbrev pub named : ℕ → ℕ → ℕ → ℕ → Work → Work
named i a b c k = record k {
  one = 4096 * a;
  two = 4096 * b;
  three = 4096 * c;
  takes_one = to 28 (156 + (39 + 3 * i));
  takes_two = to 28 (156 + suc (39 + 3 * i));
  takes_three = to 28 (156 + suc (suc (39 + 3 * i)));
}

-- letter t of name i, and all three
abbrev pub letter : ℕ → ℕ → ℕ
letter i t = get_or (name_codes i) t 0

abbrev name : ℕ → List ℕ
name i = letter i 0 ∷ letter i 1 ∷ letter i 2 ∷ []

-- one test for a name
abbrev stands : ℕ → ℕ → ℕ → ℕ → Bool
stands x y u i =
    bytes_eq (name_codes i) (name i)
    && (bytes_eq (take 3 (drop (39 + 3 * i) (signs x y u))) (in_words (name i))
    && (nat_lt (letter i 0) 32 && (nat_lt (letter i 1) 32 && nat_lt (letter i 2) 32)))

pub is_name : (i : ℕ) → i < 12 → IsName i (letter i 0) (letter i 1) (letter i 2)
is_name i few =
    let test = λ (x y u : ℕ). and_parts _ _ (list_all-numbers (stands x y u) 0 12 i refl (omega arith) (omega arith)) in
    let codes = and_parts _ _ (and_parts _ _ (test 0 0 0).1).1 in
    let others = and_parts _ _ codes.1 in
    record {
      name_is = (bytes_eq-Decides (name_codes i) (name i)).0 (test 0 0 0).0;
      letters = λ x y u. subst (Have (signs x y u) (39 + 3 * i))
          ((bytes_eq-Decides (take 3 (drop (39 + 3 * i) (signs x y u))) (in_words (name i))).0
          (and_parts _ _ (test x y u).1).0) (have_part (39 + 3 * i) 3 (signs x y u));
      few = (ltb-true _ 32 codes.0, ltb-true _ 32 others.0, ltb-true _ 32 others.1);
    }

-- a number that is read from a cell into the cleared accumulator, and written
read_is : {n j x u : ℕ} → j < n → x ≡ u → u < 131072
    → ((j < n) × ((0 + x) % 131072 ≡ u)) × (Unit {0} × Unit {0})
read_is inside e small = ((inside, omega (arith, e, small)), (tt, tt))

module _ (z : Size) (m : Moment) (o : IsAround m.words) where
  -- the orders that read them are made, and obeyed
  pub name_taken : (i a b c : ℕ) (k : Work) (last : Option ℕ) → k.month ≡ suc i → i < 12 → IsName i a b c
      → Path (frame z) 18 (at m 66 0 k last) [] (at m 84 0 (record (named i a b c k) { scrap = 2 * i }) last)
  name_taken i a b c k last is few name =
      let at2 = o.at2 in
      let code_a = name.few.0 in let code_b = name.few.1 in let code_c = name.few.2 in
      let j : ℕ = 39 + 3 * i in
      let k0 : Work = record k {
        scrap = 2 * i;
        takes_one = to 28 (156 + j);
        takes_two = to 28 (156 + suc j);
        takes_three = to 28 (156 + suc (suc j));
      } in
      let k1 : Work = record k0 { one = 4096 * a } in
      let k2 : Work = record k1 { two = 4096 * b } in
      followed (obeys 66 0 (A 295 (suc i) ∷ S 299 i ∷ L LD (2 * i) ∷ U 300 ∷ L LD (4 * i) ∷ A 300 (6 * i)
      ∷ A 132 (to 28 (156 + j)) ∷ U 78 ∷ A_low 2 (to 28 (156 + suc j)) ∷ U 80
      ∷ A_low 2 (to 28 (156 + suc (suc j))) ∷ T 82 ∷ []) refl (omega (arith, is, few)))
      (followed (obeys 78 0 (A_by (156 + j) (4096 * a) ∷ T 163 ∷ []) refl (read_is (omega (arith, few))
      (sign_at k0 j (omega (arith, few)) ∙ (name.letters k.one k.two k.three).0) (omega (arith, code_a))))
      (followed (obeys 80 0 (A_by (156 + suc j) (4096 * b) ∷ T 164 ∷ []) refl (read_is (omega (arith, few))
      (sign_at k1 (suc j) (omega (arith, few)) ∙ (name.letters (4096 * a) k.two k.three).1.0)
      (omega (arith, code_b))))
      (obeys 82 0 (A_by (156 + suc (suc j)) (4096 * c) ∷ T 165 ∷ []) refl (read_is (omega (arith, few))
      (sign_at k2 (suc (suc j)) (omega (arith, few)) ∙ (name.letters (4096 * a) (4096 * b) k.three).1.1.0)
      (omega (arith, code_c))))))
