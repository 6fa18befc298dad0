-- The routine's paths: it fetches the guest's order, tests it, restores and saves the 71 digits, and advances the
-- guest's counter.
use Rattle.ed_checker.proofs.Kit.{A_F, L_F, followed, pair, sum-parts, [], arith, Bool, get_or, List, lit<, nat_eq}
use Rattle.ed_checker.proofs.Kit.{Option, refl, Some, ℕ, ◌%◌, ◌*◌, ◌+◌, ◌-◌, ◌/◌, ◌<◌, ◌^◌, ◌∷◌, ◌≡◌, ◌≤◌, Frame}
use Rattle.ed_checker.proofs.Kit.{Moment, Path}
use Rattle.ed_routines.proofs.Kit.{A, E_jumps, G_jumps, L, S, on, prints, stay, out, own}
use Rattle.ed_words.specs.declared.order_words.TheConstants.{A_D, E_F, G_F, O_F, R_F, S_D, S_F, T_D, T_F, U_D, U_F}
use Rattle.ed_machine.proofs.Kit.Moves.{T_top, U_top, R, E_stays, G_stays, O}
use Rattle.ed_machine.proofs.Kit.Orders.{word_is}
use Rattle.ed_machine.proofs.Kit.Places.{IsOutside}
use Rattle.ed_machine.proofs.Kit.Shifts.{RF, R4F, LF, L64F}
use Rattle.ed_checker.proofs.Saving.{high_of, middle_of, low_of, whole}

-- the routine's changing words: 0, 40, 58 and 59, and its three long words
pub record Work : Type 0 where
  pub at0 : ℕ
  pub at40 : ℕ
  pub at58 : ℕ
  pub at59 : ℕ
  pub high : ℕ
  pub middle : ℕ
  pub low : ℕ

-- the routine's words, with those of its last six locations
abbrev pub cells_with : ℕ → Work → ℕ → ℕ → ℕ → ℕ → ℕ → ℕ → List ℕ
cells_with b w a60 a61 a62 a63 a64 a65 =
    w.at0 ∷ (U_F + 2 * (b + 40)) ∷ (O_F + 2 * (b + 40)) ∷ (E_F + 2 * (b + 13)) ∷ (S_F + 2 * (b + 53))
    ∷ (G_F + 2 * (b + 30)) ∷ (S_F + 2 * (b + 55)) ∷ (E_F + 2 * (b + 30)) ∷ (A_F + 2 * (b + 56))
    ∷ (T_F + 2 * (b + 58)) ∷ (A_D + 2 * (b + 60)) ∷ (G_F + 2 * (b + 26)) ∷ (E_F + 2 * (b + 21))
    ∷ (S_F + 2 * (b + 54)) ∷ (G_F + 2 * (b + 30)) ∷ (S_F + 2 * (b + 55)) ∷ (E_F + 2 * (b + 30))
    ∷ (A_F + 2 * (b + 56)) ∷ (T_F + 2 * (b + 58)) ∷ (A_D + 2 * (b + 60)) ∷ (E_F + 2 * (b + 26))
    ∷ (T_F + 2 * (b + 59)) ∷ (A_F + 2 * (b + 0)) ∷ (A_F + 2 * (b + 57)) ∷ (T_F + 2 * (b + 0))
    ∷ (E_F + 2 * (b + 0)) ∷ (T_F + 2 * (b + 59)) ∷ (A_F + 2 * (b + 58)) ∷ (T_F + 2 * (b + 0))
    ∷ (E_F + 2 * (b + 0)) ∷ (T_F + 2 * (b + 59)) ∷ (A_D + 2 * (b + 64)) ∷ R_F ∷ R_F ∷ 16392
    ∷ (A_D + 2 * (b + 62)) ∷ R_F ∷ R_F ∷ 16392 ∷ (A_D + 2 * (b + 60)) ∷ w.at40
    ∷ (U_D + 2 * (b + 60)) ∷ (S_D + 2 * (b + 60)) ∷ L_F ∷ L_F ∷ 102528 ∷ (U_D + 2 * (b + 62))
    ∷ (S_D + 2 * (b + 62)) ∷ L_F ∷ L_F ∷ 102528 ∷ (T_D + 2 * (b + 64)) ∷ (E_F + 2 * (b + 22))
    ∷ G_F ∷ E_F ∷ 4096 ∷ 118784 ∷ 2 ∷ w.at58 ∷ w.at59 ∷ a60 ∷ a61 ∷ a62 ∷ a63 ∷ a64 ∷ a65 ∷ []

abbrev pub cells : ℕ → Work → List ℕ
cells b w = cells_with b w (w.high % 2 ^ 17) (w.high / 2 ^ 18) (w.middle % 2 ^ 17) (w.middle / 2 ^ 18)
    (w.low % 2 ^ 17) (w.low / 2 ^ 18)

-- the sandwich digits of its three long words, from that of pair 30 upwards
abbrev pub pairs : Work → List Bool
pairs w = nat_eq (w.high / 2 ^ 17 % 2) 1 ∷ nat_eq (w.middle / 2 ^ 17 % 2) 1 ∷ nat_eq (w.low / 2 ^ 17 % 2) 1 ∷ []

-- what the routine leaves alone: the store outside, the multiplier and the tape
pub record Around : Type 0 where
  pub words : List ℕ
  pub digits : List Bool
  pub multiplier : ℕ
  pub tape : List ℕ

abbrev pub moment : ℕ → Around → Work → ℕ → ℕ → Option ℕ → Moment
moment b o w acc at last = record {
  words = o.words;
  digits = o.digits;
  cells = cells b w;
  pairs = pairs w;
  acc = acc;
  multiplier = o.multiplier;
  counter = b + at;
  tape = o.tape;
  last = last;
}

-- the three long words of a saved accumulator, the last with its two digits at the upper end
pub record IsSaved (high middle low : ℕ) : Type 0 where
  pub digits : ℕ
  pub few : digits < 4
  pub low_is : low ≡ digits * 2 ^ 32
  pub middle_fits : middle < 2 ^ 34
  pub high_fits : high < 2 ^ 35

module _ (f : Frame 66 30) (f_even : f.base % 2 ≡ 0) (o : Around) where
  -- words 22 to 25: the guest's counter is increased by one
  pub Path-advance : (w : Work) (last : Option ℕ) → w.at0 + 2 < 2 ^ 17
      → Path f 4 (moment f.base o w 0 22 last) [] (moment f.base o (record w { at0 = w.at0 + 2 }) 0 0 last)
  Path-advance w last h =
      on (A 22 (own 0) (w.at0 * 2 ^ 54) refl (omega arith))
      (on (A 23 (own 57) ((w.at0 + 2) * 2 ^ 54) refl (omega arith))
      (on (T_top 24 (own 0) (w.at0 + 2) refl (omega arith))
      (on (E_jumps 25 (own 0) refl (lit< tt)) stay)))

  -- words 26 to 29: the guest's counter is the location of a jump
  pub jump : (w : Work) (acc : ℕ) (last : Option ℕ) → w.at58 < 2 ^ 17
      → Path f 4 (moment f.base o w acc 26 last) []
      (moment f.base o (record w { at59 = acc / 2 ^ 54; at0 = w.at58 }) 0 0 last)
  jump w acc last h =
      on (T_top 26 (own 59) (acc / 2 ^ 54) refl refl)
      (on (A 27 (own 58) (w.at58 * 2 ^ 54) refl (omega arith))
      (on (T_top 28 (own 0) w.at58 refl (omega arith))
      (on (E_jumps 29 (own 0) refl (lit< tt)) stay)))

  -- words 30 to 39: the accumulator is restored
  pub Path-restore : {acc : ℕ} {last : Option ℕ} (w : Work) → IsSaved w.high w.middle w.low
      → Path f 10 (moment f.base o w acc 30 last) []
      (moment f.base o (record w { at59 = acc / 2 ^ 54 }) (whole w.high w.middle w.low) 40 last)
  Path-restore {acc} w saved =
      let l = saved.digits in
      let lf = saved.few in
      let is = saved.low_is in
      let mf = saved.middle_fits in
      let hf = saved.high_fits in
      let small : 4 * w.middle + l < 2 ^ 36 = omega arith in
      on (T_top 30 (own 59) (acc / 2 ^ 54) refl refl)
      (on (A 31 (pair 64 2 f_even) (l * 2 ^ 68) refl (rw (sum-parts w.low) (omega arith)))
      (on (R 32 RF (l * 2 ^ 53) refl (omega arith, omega arith))
      (on (R 33 RF (l * 2 ^ 38) refl (omega arith, omega arith))
      (on (R 34 R4F (l * 2 ^ 34) refl (omega arith, omega arith))
      (on (A 35 (pair 62 1 f_even) ((4 * w.middle + l) * 2 ^ 34) refl (rw (sum-parts w.middle) (omega arith)))
      (on (R 36 RF ((4 * w.middle + l) * 2 ^ 19) refl (omega arith, omega arith))
      (on (R 37 RF ((4 * w.middle + l) * 2 ^ 4) refl (omega arith, omega arith))
      (on (R 38 R4F (4 * w.middle + l) refl (omega arith, omega arith))
      (on (A 39 (pair 60 0 f_even) (whole w.high w.middle w.low) refl
      (rw (sum-parts w.high) (omega arith))) stay)))))))))

  -- words 41 to 52: the accumulator is saved
  pub Path-save : (w : Work) (a : ℕ) (last : Option ℕ) → a < 2 ^ 71
      → Path f 12 (moment f.base o w a 41 last) []
      (moment f.base o (record w { high = high_of a; middle = middle_of a; low = low_of a }) 0 22 last)
  Path-save w a last h =
      let d : a % 2 ^ 36 < 2 ^ 36 = omega arith in
      let e : a % 4 < 4 = omega arith in
      on (U_top 41 (pair 60 0 f_even) (high_of a) refl refl)
      (on (S 42 (pair 60 0 f_even) (a % 2 ^ 36) refl (omega arith, rw (sum-parts (high_of a)) (omega arith)))
      (on (L 43 LF (a % 2 ^ 36 * 2 ^ 13) refl (omega arith))
      (on (L 44 LF (a % 2 ^ 36 * 2 ^ 26) refl (omega arith))
      (on (L 45 L64F (a % 2 ^ 36 * 2 ^ 34) refl (omega arith))
      (on (U_top 46 (pair 62 1 f_even) (middle_of a) refl (omega arith))
      (on (S 47 (pair 62 1 f_even) (a % 4 * 2 ^ 34) refl (omega arith, rw (sum-parts (middle_of a)) (omega arith)))
      (on (L 48 LF (a % 4 * 2 ^ 47) refl (omega arith))
      (on (L 49 LF (a % 4 * 2 ^ 60) refl (omega arith))
      (on (L 50 L64F (a % 4 * 2 ^ 68) refl (omega arith))
      (on (T_top 51 (pair 64 2 f_even) (low_of a) refl (omega arith))
      (on (E_jumps 52 (own 22) refl (lit< tt)) stay)))))))))))

  -- words 0 to 2: the guest's order is fetched and copied, and its function printed
  pub Path-fetch : {c x : ℕ} {last : Option ℕ} (w : Work) → w.at0 ≡ A_F + 2 * c → IsOutside f o.words c
      → get_or o.words c 0 ≡ x → x < 2 ^ 17
      → Path f 3 (moment f.base o w 0 0 last) (x / 4096 ∷ [])
      (moment f.base o (record w { at40 = x }) (x * 2 ^ 54) 3 (Some (x / 4096)))
  Path-fetch {c} {x} w is outside word fits =
      on (A 0 (out c outside) (x * 2 ^ 54) (word_is is) (omega arith))
      (on (U_top 1 (own 40) x refl (omega arith))
      (prints (O 2 (own 40) (x / 4096) refl (omega arith)) stay))

  -- words 3 to 16: the tests, for a function that is neither E nor G
  pub below_E : (w : Work) (x : ℕ) (last : Option ℕ) → x < E_F
      → Path f 3 (moment f.base o w (x * 2 ^ 54) 3 last) [] (moment f.base o w ((x + 118784) * 2 ^ 54) 30 last)
  below_E w x last h =
      on (E_jumps 3 (own 13) refl (omega arith))
      (on (S 13 (own 54) ((x + 118784) * 2 ^ 54) refl (omega arith, omega arith))
      (on (G_jumps 14 (own 30) refl (omega arith)) stay))

  pub above_E : (w : Work) (x : ℕ) (last : Option ℕ) → 16384 ≤ x → x < 65536
      → Path f 5 (moment f.base o w (x * 2 ^ 54) 3 last) [] (moment f.base o w ((x - 16384) * 2 ^ 54) 30 last)
  above_E w x last low high =
      on (E_jumps 3 (own 13) refl (omega arith))
      (on (S 13 (own 54) ((x - E_F) * 2 ^ 54) refl (omega arith, omega arith))
      (on (G_stays 14 (own 30) refl (omega arith))
      (on (S 15 (own 55) ((x - 16384) * 2 ^ 54) refl (omega arith, omega arith))
      (on (E_jumps 16 (own 30) refl (omega arith)) stay))))

  pub below_G : (w : Work) (x : ℕ) (last : Option ℕ) → 65536 ≤ x → x < G_F
      → Path f 3 (moment f.base o w (x * 2 ^ 54) 3 last) [] (moment f.base o w ((x + T_F) * 2 ^ 54) 30 last)
  below_G w x last low high =
      on (E_stays 3 (own 13) refl (omega arith))
      (on (S 4 (own 53) ((x + T_F) * 2 ^ 54) refl (omega arith, omega arith))
      (on (G_jumps 5 (own 30) refl (omega arith)) stay))

  pub above_G : (w : Work) (x : ℕ) (last : Option ℕ) → A_F ≤ x → x < 2 ^ 17
      → Path f 5 (moment f.base o w (x * 2 ^ 54) 3 last) [] (moment f.base o w ((x - A_F) * 2 ^ 54) 30 last)
  above_G w x last low high =
      on (E_stays 3 (own 13) refl (omega arith))
      (on (S 4 (own 53) ((x - G_F) * 2 ^ 54) refl (omega arith, omega arith))
      (on (G_stays 5 (own 30) refl (omega arith))
      (on (S 6 (own 55) ((x - A_F) * 2 ^ 54) refl (omega arith, omega arith))
      (on (E_jumps 7 (own 30) refl (omega arith)) stay))))

  -- for E and G the address of the jump is made an A order, and the saved accumulator is brought to the most
  -- significant end
  at_E : {last : Option ℕ} (w : Work) (x : ℕ) → (E_F ≤ x) × (x < 16384) → w.high < 2 ^ 35
      → Path f 8 (moment f.base o w (x * 2 ^ 54) 3 last) []
      (moment f.base o (record w { at58 = x + L_F }) (w.high * 2 ^ 36) 20 last)
  at_E w x range fits =
      let low = range.0 in
      let high = range.1 in
      on (E_jumps 3 (own 13) refl (omega arith))
      (on (S 13 (own 54) ((x - E_F) * 2 ^ 54) refl (omega arith, omega arith))
      (on (G_stays 14 (own 30) refl (omega arith))
      (on (S 15 (own 55) ((x + A_F) * 2 ^ 54) refl (omega arith, omega arith))
      (on (E_stays 16 (own 30) refl (omega arith))
      (on (A 17 (own 56) ((x + L_F) * 2 ^ 54) refl (omega arith))
      (on (T_top 18 (own 58) (x + L_F) refl (omega arith))
      (on (A 19 (pair 60 0 f_even) (w.high * 2 ^ 36) refl (rw (sum-parts w.high) (omega arith))) stay)))))))

  at_G : {last : Option ℕ} (w : Work) (x : ℕ) → (G_F ≤ x) × (x < A_F) → w.high < 2 ^ 35
      → Path f 8 (moment f.base o w (x * 2 ^ 54) 3 last) []
      (moment f.base o (record w { at58 = x + 4096 }) (w.high * 2 ^ 36) 11 last)
  at_G w x range fits =
      let low = range.0 in
      let high = range.1 in
      on (E_stays 3 (own 13) refl (omega arith))
      (on (S 4 (own 53) ((x - G_F) * 2 ^ 54) refl (omega arith, omega arith))
      (on (G_stays 5 (own 30) refl (omega arith))
      (on (S 6 (own 55) ((x + 16384) * 2 ^ 54) refl (omega arith, omega arith))
      (on (E_stays 7 (own 30) refl (omega arith))
      (on (A 8 (own 56) ((x + 4096) * 2 ^ 54) refl (omega arith))
      (on (T_top 9 (own 58) (x + 4096) refl (omega arith))
      (on (A 10 (pair 60 0 f_even) (w.high * 2 ^ 36) refl (rw (sum-parts w.high) (omega arith))) stay)))))))

  -- an E or G order of the guest, from word 3 to the beginning of the next turn: the four cases
  pub E_taken : {last : Option ℕ} (w : Work) (x : ℕ) → (E_F ≤ x) × (x < 16384) → w.high < 2 ^ 34
      → Path f 13 (moment f.base o w (x * 2 ^ 54) 3 last) []
      (moment f.base o (record w { at0 = x + L_F; at58 = x + L_F; at59 = w.high * 2 ^ 36 / 2 ^ 54 }) 0 0 last)
  E_taken {last} w x range fits =
      followed (at_E w x range (omega arith))
      (on (E_jumps 20 (own 26) refl (omega arith))
      (jump (record w { at58 = x + L_F }) (w.high * 2 ^ 36) last (omega (arith, range.0, range.1))))

  pub E_passed : {last : Option ℕ} (w : Work) (x : ℕ) → (E_F ≤ x) × (x < 16384)
      → (2 ^ 34 ≤ w.high) × (w.high < 2 ^ 35) → w.at0 + 2 < 2 ^ 17
      → Path f 14 (moment f.base o w (x * 2 ^ 54) 3 last) []
      (moment f.base o (record w { at0 = w.at0 + 2; at58 = x + L_F; at59 = w.high * 2 ^ 36 / 2 ^ 54 }) 0 0 last)
  E_passed {last} w x range sign room =
      let negative = sign.0 in
      let fits = sign.1 in
      followed (at_E w x range fits)
      (on (E_stays 20 (own 26) refl (omega arith))
      (on (T_top 21 (own 59) (w.high * 2 ^ 36 / 2 ^ 54) refl refl)
      (Path-advance (record w { at58 = x + L_F; at59 = w.high * 2 ^ 36 / 2 ^ 54 }) last room)))

  pub G_taken : {last : Option ℕ} (w : Work) (x : ℕ) → (G_F ≤ x) × (x < A_F)
      → (2 ^ 34 ≤ w.high) × (w.high < 2 ^ 35)
      → Path f 13 (moment f.base o w (x * 2 ^ 54) 3 last) []
      (moment f.base o (record w { at0 = x + 4096; at58 = x + 4096; at59 = w.high * 2 ^ 36 / 2 ^ 54 }) 0 0 last)
  G_taken {last} w x range sign =
      let negative = sign.0 in
      let fits = sign.1 in
      followed (at_G w x range fits)
      (on (G_jumps 11 (own 26) refl (omega arith))
      (jump (record w { at58 = x + 4096 }) (w.high * 2 ^ 36) last (omega (arith, range.0, range.1))))

  pub G_passed : {last : Option ℕ} (w : Work) (x : ℕ) → (G_F ≤ x) × (x < A_F) → w.high < 2 ^ 34
      → w.at0 + 2 < 2 ^ 17
      → Path f 15 (moment f.base o w (x * 2 ^ 54) 3 last) []
      (moment f.base o (record w { at0 = w.at0 + 2; at58 = x + 4096; at59 = w.high * 2 ^ 36 / 2 ^ 54 }) 0 0 last)
  G_passed {last} w x range fits room =
      followed (at_G w x range (omega arith))
      (on (G_stays 11 (own 26) refl (omega arith))
      (on (E_jumps 12 (own 21) refl (omega arith))
      (on (T_top 21 (own 59) (w.high * 2 ^ 36 / 2 ^ 54) refl refl)
      (Path-advance (record w { at58 = x + 4096; at59 = w.high * 2 ^ 36 / 2 ^ 54 }) last room))))
