-- The orders of the post-mortem, by their listing: paths that print a word, the loop over the words, and the stop.
use Rattle.ed_postmortem.proofs.Kit.{append-nil, C_F, O_F, Size, Stopped, Frame, begun, shown, append_assoc}
use Rattle.ed_postmortem.proofs.Kit.{locations_most, [], ap, arith, Bool, false, get_or, inr, length, List, lit<, lit≤}
use Rattle.ed_postmortem.proofs.Kit.{nat_lt, Option, refl, Some, suc, sym, true, zero, ℕ, ◌%◌, ◌*◌, ◌++◌, ◌+◌, ◌-◌, ◌/◌}
use Rattle.ed_postmortem.proofs.Kit.{◌<◌, ◌^◌, ◌∙◌, ◌∷◌, ◌≡◌, ◌≤◌, nat_tests, locations, Moment, address_digits}
use Rattle.ed_postmortem.proofs.Kit.{is_even, length_code, length_orders, number_in, printed_codes, word_codes}
use Rattle.ed_postmortem.proofs.Kit.{word_orders, words_orders}
use Rattle.std.proofs.Common.{nat_eq}
use Rattle.ed_words.specs.declared.order_words.TheConstants.{S_F, V_F, Z_F}
use Rattle.ed_orders.specs.declared.kind.Kind.TheVariants.{Z as KindZ}
use Rattle.ed_machine.proofs.Kit.Frames.{short}
use Rattle.ed_machine.proofs.Kit.Moves.{A, S, T, U, O, H, C, L, Z, E_jumps, E_stays, G_jumps, G_stays}
use Rattle.ed_machine.proofs.Kit.Orders.{Does, there_is}
use Rattle.ed_machine.proofs.Kit.Paths.{Path, stay, on, prints, followed}
use Rattle.ed_machine.proofs.Kit.Places.{IsOutside, early, own, out}
use Rattle.ed_machine.proofs.Kit.Shifts.{L512F}
use Rattle.ed_machine.proofs.Kit.Sums.{common_4095, common_1}
use Rattle.ed_machine.proofs.Kit.Zeros.{flag_of, spared, last_of, taken_away}
use Rattle.ed_postmortem.proofs.Digits.{began, Digits, digits_are}

-- the cells that change
pub record Work : Type 0 where
  pub at5 : ℕ
  pub at8 : ℕ
  pub at19 : ℕ
  pub at78 : ℕ
  pub at79 : ℕ
  pub at80 : ℕ
  pub at81 : ℕ
  pub at82 : ℕ
  pub at83 : ℕ

abbrev pub cells : Work → List ℕ
cells w =
    114966 ∷ 49156 ∷ 110830 ∷ 20758 ∷ 37104 ∷ w.at5 ∷ 37106 ∷ 86260 ∷ w.at8 ∷ 20748 ∷ 86262 ∷ 123148
    ∷ 20750 ∷ 20752 ∷ 114938 ∷ 20630 ∷ 20756 ∷ 20754 ∷ 114956 ∷ w.at19 ∷ 110756 ∷ 20748 ∷ 114962 ∷ 114936
    ∷ 20754 ∷ 12436 ∷ 20756 ∷ 114962 ∷ 114960 ∷ 49400 ∷ 110774 ∷ 37138 ∷ 20756 ∷ 114936 ∷ 20752 ∷ 20756
    ∷ 114838 ∷ 114692 ∷ 28822 ∷ 49404 ∷ 110736 ∷ 114956 ∷ 49422 ∷ 103424 ∷ 20754 ∷ 37138 ∷ 37104 ∷ 114958
    ∷ 49398 ∷ 12504 ∷ 37118 ∷ 110810 ∷ 37120 ∷ 37128 ∷ 37130 ∷ 20756 ∷ 114810 ∷ 114692 ∷ 20602 ∷ 114816
    ∷ 114692 ∷ 20608 ∷ 12400 ∷ Z_F ∷ 61440 ∷ 45056 ∷ 4095 ∷ 1 ∷ 4096 ∷ 49410 ∷ 49416 ∷ 69632
    ∷ 77824 ∷ 2000 ∷ 200 ∷ 20 ∷ 73728 ∷ 98304 ∷ w.at78 ∷ w.at79 ∷ w.at80 ∷ w.at81 ∷ w.at82 ∷ w.at83 ∷ []

-- the cells before the word at p, where c words are left to print
abbrev pub ready : ℕ → ℕ → Work → Work
ready p c w = record w { at5 = O_F + 2 * p; at8 = C_F + 2 * p; at83 = 2 * c }

-- the post-mortem at 56, in a store of these words and sandwich digits around it
pub record Given : Type 0 where
  pub size : Size
  pub sandwich : List Bool
  pub room : 56 + 84 ≤ locations size
  pub ws : List ℕ
  pub tape : List ℕ
  pub at2 : get_or ws 2 0 ≡ 2
  pub all : length ws ≡ 1024

module _ (given : Given) where
  open given use {size, sandwich, room, ws, tape, at2, all}

  abbrev pub f : Frame 84 0
  f = record { size = size; base = 56; top = locations size; under = room; fits = omega arith }

  -- its words, the short number at the upper end of the accumulator, the multiplier, the cell of the next
  -- order, and the last code
  abbrev pub moment : Work → ℕ → ℕ → ℕ → Option ℕ → Moment
  moment w top m i last = record {
    words = ws;
    digits = sandwich;
    cells = cells w;
    pairs = [];
    acc = short top;
    multiplier = m;
    counter = 56 + i;
    tape = tape;
    last = last;
  }

  -- cell j holds twice a power of ten; the tests for it and for the next power leave these numbers
  record Power (j t before after : ℕ) : Type 0 where
    holds : (w : Work) → get_or (cells w) j 0 ≡ t
    own : nat_lt j 84 ≡ true
    most : t ≤ 2000
    inside : j < 76
    low : before < 2 ^ 17
    next_is : (2 * j + 2 + (2 ^ 17 - 152)) % 2 ^ 17 ≡ after

  -- k orders print the codes of words, and lead to the turn for the word at p with c words left
  record Prints (k : ℕ) (r : Moment) (cs : List ℕ) (p c : ℕ) : Type 0 where
    pub work : Work
    pub last : Option ℕ
    pub unit : ℕ
    pub path : Path f k r cs (moment (ready p c work) 0 unit 0 last)

  -- the word at p, with c more to come
  module _ (p c : ℕ) where
    abbrev v : ℕ
    v = get_or ws p 0

    -- its odd digit
    abbrev o : ℕ
    o = v % 2

    -- while it is printed: the power of ten at cell j, what is left of the number, whether a digit was printed, the
    -- digit so far, and what the accumulator was cleared into; then the top of the accumulator, the cell of the next
    -- order and the last code
    abbrev at : ℕ → ℕ → ℕ → ℕ → ℕ → ℕ → ℕ → Option ℕ → Moment
    at j left flag count spare top i last = moment (record {
      at5 = O_F + 2 * p;
      at8 = C_F + 2 * p;
      at19 = S_F + 2 * (56 + j);
      at78 = left;
      at79 = o;
      at80 = flag;
      at81 = count;
      at82 = spare;
      at83 = 2 * c;
    }) top (1 * 2 ^ 18) i last

    -- the power is subtracted once, and the digit counted
    subtract : {j t before after flag spare : ℕ} {last : Option ℕ} → Power j t before after → (u d : ℕ) → u + t < 4096
        → d < 9
        → Path f 8 (at j (u + t) flag (4096 * d) spare 0 18 last) []
        (at j u flag (4096 * (d + 1)) spare 0 18 last)
    subtract {j} {t} power u d low few =
        let most = power.most in
        on (A 18 (own 78) (short (u + t)) refl (omega arith))
        (on (S 19 (own j) (short u) (there_is power.own) (rw (power.holds _) (omega arith)))
        (on (G_stays 20 (own 26) refl (omega arith))
        (on (T 21 (own 78) _ refl refl)
        (on (A 22 (own 81) (short (4096 * d)) refl (omega arith))
        (on (A 23 (own 68) (short (4096 * (d + 1))) refl (omega arith))
        (on (T 24 (own 81) _ refl refl)
        (on (E_jumps 25 (own 18) refl (lit< tt)) stay)))))))

    -- the next power
    next : {j t before after rest flag count spare : ℕ} {last : Option ℕ} (top : ℕ) → Power j t before after
        → top < 2 ^ 17
        → Path f 5 (at j rest flag count spare top 35 last) [] (at (j + 1) rest flag count top after 40 last)
    next {j} {after = after} top power low =
        let is = power.next_is in
        let inside = power.inside in
        let second = at2 in
        on (T 35 (own 82) _ refl refl)
        (on (A 36 (own 19) (short (S_F + 2 * (56 + j))) refl (omega arith))
        (on (A 37 (out 2 (early 2 (lit≤ tt) (lit< tt) all)) (short (S_F + 2 * (56 + (j + 1)))) refl (omega arith))
        (on (U 38 (own 19) (S_F + 2 * (56 + (j + 1))) refl (omega arith))
        (on (S 39 (own 70) (short after) refl (omega arith)) stay))))

    -- a digit is printed, or omitted as a leading zero
    print_digit : {rest spare : ℕ} {last : Option ℕ} (j q flag top : ℕ) → q ≤ 9 → flag ≤ 4096
        → 4096 ≤ 4096 * q + flag → top < 2 ^ 17
        → Path f 9 (at j rest flag (4096 * q) spare top 26 last) (q ∷ [])
        (at j rest 4096 (4096 * q) (4096 * q + flag - 4096) 0 35 (Some q))
    print_digit j q flag top few low some fits =
        on (T 26 (own 82) _ refl refl)
        (on (A 27 (own 81) (short (4096 * q)) refl (omega arith))
        (on (A 28 (own 80) (short (4096 * q + flag)) refl (omega arith))
        (on (S 29 (own 68) (short (4096 * q + flag - 4096)) refl (omega arith))
        (on (G_stays 30 (own 35) refl (omega arith))
        (prints (O 31 (own 81) q refl (omega arith))
        (on (T 32 (own 82) _ refl refl)
        (on (A 33 (own 68) (short 4096) refl refl)
        (on (T 34 (own 80) _ refl refl) stay))))))))

    skip_digit : {rest spare : ℕ} {last : Option ℕ} (j top : ℕ) → top < 2 ^ 17
        → Path f 5 (at j rest 0 0 spare top 26 last) [] (at j rest 0 0 top V_F 35 last)
    skip_digit j top fits =
        on (T 26 (own 82) _ refl refl)
        (on (A 27 (own 81) (short 0) refl refl)
        (on (A 28 (own 80) (short 0) refl refl)
        (on (S 29 (own 68) (short V_F) refl (omega arith))
        (on (G_jumps 30 (own 35) refl (lit≤ tt)) stay))))

    -- from the test of a digit to the test for the next power
    show : {j t before after rest spare : ℕ} {last : Option ℕ} (q top : ℕ) (b : Bool) → Power j t before after
        → q ≤ 9 → top < 2 ^ 17
        → Path f (10 + 4 * length (shown b q)) (at j rest (flag_of b) (4096 * q) spare top 26 last) (shown b q)
        (at (j + 1) rest (flag_of (begun b q)) (4096 * q) (spared b q) after 40 (last_of last (shown b q)))
    show {j} zero top false power few fits = followed (skip_digit j top fits) (next V_F power (lit< tt))
    show {j} (suc q) top false power few fits =
        followed (print_digit j (suc q) 0 top few (lit≤ tt) (omega arith) fits) (next 0 power (lit< tt))
    show {j} q top true power few fits =
        followed (print_digit j q 4096 top few (lit≤ tt) (omega arith) fits) (next 0 power (lit< tt))

    -- a digit before the units
    turn : {j t before after left spare count : ℕ} {last : Option ℕ} (q r : ℕ) (b : Bool) → Power j t before after
        → (left ≡ q * t + r) × (r < t) → left < 4096 → q ≤ 9
        → Path f (15 + 8 * q + 4 * length (shown b q)) (at j left (flag_of b) count spare before 16 last) (shown b q)
        (at (j + 1) r (flag_of (begun b q)) (4096 * q) (spared b q) after 40 (last_of last (shown b q)))
    turn {j} {t} {before} {after} {left} {spare} {count} {last} q r b power parts low few =
        let most = power.most in
        let fits = power.low in
        let sum = parts.0 in
        let less = parts.1 in
        let n : 15 + 8 * q + 4 * length (shown b q) ≡ 2 + (8 * q + (3 + (10 + 4 * length (shown b q)))) = omega arith in
        let first : Path f 2 (at j left (flag_of b) count spare before 16 last) []
        (at j left (flag_of b) (4096 * 0) before 0 18 last)
        = on (T 16 (own 82) _ refl refl) (on (T 17 (own 81) 0 refl refl) stay) in
        let last_try : Path f 3 (at j r (flag_of b) (4096 * q) before 0 18 last) []
        (at j r (flag_of b) (4096 * q) before (r + (2 ^ 17 - t)) 26 last)
        = on (A 18 (own 78) (short r) refl (omega arith))
        (on (S 19 (own j) (short (r + (2 ^ 17 - t))) (there_is power.own) (rw (power.holds _) (omega arith)))
        (on (G_jumps 20 (own 26) refl (omega arith)) stay)) in
        let z : 0 + q ≡ q = omega arith in
        let loop : Path f (8 * q) (at j left (flag_of b) (4096 * 0) before 0 18 last) []
        (at j r (flag_of b) (4096 * q) before 0 18 last)
        = rw sum (rw z at (taken_away (λ u d. at j u (flag_of b) (4096 * d) before 0 18 last) t 4096 (subtract power)
        q 0 r (omega arith, omega arith))) in
        rw n (followed first (followed loop
        (followed last_try (show q (r + (2 ^ 17 - t)) b power few (omega arith)))))

    -- a power is left
    again : {rest flag count spare : ℕ} {last : Option ℕ} (j u : ℕ) → 2 ^ 16 ≤ u
        → Path f 1 (at j rest flag count spare u 40 last) [] (at j rest flag count spare u 16 last)
    again j u high = on (G_jumps 40 (own 16) refl (omega arith)) stay

    -- the units, and the code before the length
    units : {flag count spare : ℕ} {last : Option ℕ} (d u : ℕ) → d ≤ 9 → o < 2 → (o + (2 ^ 17 - 1)) % 2 ^ 17 ≡ u
        → Path f 9 (at 76 (2 * d + o) flag count spare 0 40 last) (d ∷ 15 ∷ [])
        (at 76 (2 * d + o) flag (4096 * d) spare u 49 (Some 15))
    units d u few bit is =
        on (G_stays 40 (own 16) refl (lit< tt))
        (on (A 41 (own 78) (short (2 * d + o)) refl (omega arith))
        (on (S 42 (own 79) (short (2 * d)) refl (omega arith))
        (on (L 43 L512F (short (4096 * d)) refl (omega arith))
        (on (T 44 (own 81) _ refl refl)
        (prints (O 45 (own 81) d refl (omega arith))
        (prints (O 46 (own 64) 15 refl refl)
        (on (A 47 (own 79) (short o) refl (omega arith))
        (on (S 48 (own 67) (short u) refl (omega arith)) stay))))))))

    -- the length of an even and of an odd word
    length_even : {left flag count spare : ℕ} {last : Option ℕ}
        → Path f 3 (at 76 left flag count spare 131071 49 last) (17 ∷ [])
        (at 76 left flag count spare 131071 53 (Some 17))
    length_even =
        on (E_stays 49 (own 52) refl (lit≤ tt))
        (prints (O 50 (own 71) 17 refl refl) (on (G_jumps 51 (own 53) refl (lit≤ tt)) stay))

    length_odd : {left flag count spare : ℕ} {last : Option ℕ}
        → Path f 2 (at 76 left flag count spare 0 49 last) (19 ∷ []) (at 76 left flag count spare 0 53 (Some 19))
    length_odd =
        on (E_jumps 49 (own 52) refl (lit< tt)) (prints (O 52 (own 72) 19 refl refl) stay)

    -- by whether the word is even
    length_printed : {left flag count spare : ℕ} {last : Option ℕ} (u : ℕ) (e : Bool) → o < 2 → nat_eq o 0 ≡ e
        → (o + (2 ^ 17 - 1)) % 2 ^ 17 ≡ u
        → Path f (1 + length_orders e) (at 76 left flag count spare u 49 last) (length_code e ∷ [])
        (at 76 left flag count spare u 53 (Some (length_code e)))
    length_printed u true bit is sum =
        let z : o ≡ 0 = grind (arith, nat_tests) in
        let u : u ≡ 131071 = omega arith in
        rw u length_even
    length_printed u false bit is sum =
        let z : o ≡ 1 = grind (arith, nat_tests) in
        let u : u ≡ 0 = omega arith in
        rw u length_odd

    -- a new line, and the two orders that name the word's location are advanced
    moved_on : {left flag count spare : ℕ} {last : Option ℕ} (u : ℕ) → p < 1024
        → Path f 10 (at 76 left flag count spare u 53 last) (18 ∷ 24 ∷ [])
        (moment (record {
          at5 = O_F + 2 * (p + 1);
          at8 = C_F + 2 * (p + 1);
          at19 = S_F + 2 * (56 + 76);
          at78 = left;
          at79 = o;
          at80 = flag;
          at81 = count;
          at82 = u;
          at83 = 2 * c;
        }) 0 (1 * 2 ^ 18) 0 (Some 24))
    moved_on u low =
        let second = at2 in
        prints (O 53 (own 76) 18 refl refl)
        (prints (O 54 (own 77) 24 refl refl)
        (on (T 55 (own 82) _ refl refl)
        (on (A 56 (own 5) (short (O_F + 2 * p)) refl (omega arith))
        (on (A 57 (out 2 (early 2 (lit≤ tt) (lit< tt) all)) (short (O_F + 2 * (p + 1))) refl (omega arith))
        (on (T 58 (own 5) _ refl refl)
        (on (A 59 (own 8) (short (C_F + 2 * p)) refl (omega arith))
        (on (A 60 (out 2 (early 2 (lit≤ tt) (lit< tt) all)) (short (C_F + 2 * (p + 1))) refl (omega arith))
        (on (T 61 (own 8) _ refl refl)
        (on (E_jumps 62 (own 0) refl (lit< tt)) stay)))))))))

    -- the count is tested, and the function of the word at p is printed; its number and its length are kept
    opened : (w : Work) (m : ℕ) (last : Option ℕ) → c < 1024 → IsOutside f ws p → v < 2 ^ 17
        → Path f 16 (moment (ready p (c + 1) w) 0 m 0 last) (15 ∷ v / 4096 ∷ 11 ∷ [])
        (at 73 (v % 4096) 0 w.at81 w.at82 0 16 (Some 11))
    opened w m last few away fits =
        let second = at2 in
        on (A 0 (own 83) (short (2 * (c + 1))) refl (omega arith))
        (on (S 1 (out 2 (early 2 (lit≤ tt) (lit< tt) all)) (short (2 * c)) refl (omega arith))
        (on (G_stays 2 (own 63) refl (omega arith))
        (on (T 3 (own 83) _ refl refl)
        (prints (O 4 (own 64) 15 refl refl)
        (prints (O 5 (out p away) (v / 4096) refl (omega arith))
        (prints (O 6 (own 65) 11 refl refl)
        (on (H 7 (own 66) refl)
        (on (C 8 (out p away) (v % 4096 * 2 ^ 18) (short (v % 4096)) refl (common_4095 v fits) (omega arith))
        (on (T 9 (own 78) _ refl refl)
        (on (H 10 (own 67) refl)
        (on (C 11 (own 78) (v % 2 * 2 ^ 18) (short (v % 2)) refl (common_1 (v % 4096) (omega arith) ∙ omega arith)
        (omega arith))
        (on (T 12 (own 79) _ refl refl)
        (on (T 13 (own 80) 0 refl refl)
        (on (A 14 (own 69) (short 49410) refl refl)
        (on (T 15 (own 19) _ refl refl) stay)))))))))))))))

    -- a word
    word : (w : Work) (m : ℕ) (last : Option ℕ) → c < 1024 → IsOutside f ws p → v < 2 ^ 17
        → Prints (word_orders v) (moment (ready p (c + 1) w) 0 m 0 last) (word_codes v) (p + 1) c
    word w m last few away fits =
        let n : ℕ = number_in v in
        let q1 : ℕ = n / 1000 in
        let q2 : ℕ = n / 100 % 10 in
        let q3 : ℕ = n / 10 % 10 in
        let d : ℕ = n % 10 in
        let r1 : ℕ = 2 * (n % 1000) + o in
        let r2 : ℕ = 2 * (n % 100) + o in
        let e : Bool = is_even v in
        let u : ℕ = (o + (2 ^ 17 - 1)) % 2 ^ 17 in
        let b1 : Bool = began n 1 in
        let b2 : Bool = began n 2 in
        let b3 : Bool = began n 3 in
        let p1 : Power 73 2000 0 131068 =
        record { holds = λ w. refl; own = refl; most = lit≤ tt; inside = lit< tt; low = lit< tt; next_is = refl } in
        let p2 : Power 74 200 131068 131070 =
        record { holds = λ w. refl; own = refl; most = lit≤ tt; inside = lit< tt; low = lit< tt; next_is = refl } in
        let p3 : Power 75 20 131070 0 =
        record { holds = λ w. refl; own = refl; most = lit≤ tt; inside = lit< tt; low = lit< tt; next_is = refl } in
        let low : v % 4096 < 4096 = omega arith in
        let g : Digits n = digits_are n (omega arith) in
        let t1 : ℕ = 15 + 8 * q1 + 4 * length (shown false q1) in
        let t2 : ℕ = 15 + 8 * q2 + 4 * length (shown b1 q2) in
        let t3 : ℕ = 15 + 8 * q3 + 4 * length (shown b2 q3) in
        let orders : word_orders v ≡ 16 + (t1 + (1 + (t2 + (1 + (t3 + (9 + (1 + length_orders e + 10))))))) =
        omega (arith, g.sum, g.count) in
        let codes : address_digits n ++ (15 ∷ length_code e ∷ 18 ∷ 24 ∷ [])
        ≡ shown false q1 ++ (shown b1 q2 ++ (shown b2 q3 ++ (d ∷ 15 ∷ length_code e ∷ 18 ∷ 24 ∷ []))) =
        ap (λ x. (x ++ (d ∷ [])) ++ (15 ∷ length_code e ∷ 18 ∷ 24 ∷ [])) (sym g.are)
        ∙ append_assoc (shown false q1 ++ (shown b1 q2 ++ shown b2 q3)) (d ∷ []) _
        ∙ append_assoc (shown false q1) (shown b1 q2 ++ shown b2 q3) _
        ∙ ap (λ x. shown false q1 ++ x) (append_assoc (shown b1 q2) (shown b2 q3) _) in
        record {
          work = record {
            at5 = 0;
            at8 = 0;
            at19 = S_F + 2 * (56 + 76);
            at78 = 2 * d + o;
            at79 = o;
            at80 = flag_of b3;
            at81 = 4096 * d;
            at82 = u;
            at83 = 0;
          };
          last = Some 24;
          unit = 1 * 2 ^ 18;
          path = rw (orders, codes) (
              followed (opened w m last few away fits)
              (followed (turn q1 r1 false p1 (omega arith, omega arith) low (omega arith))
              (followed (again 74 131068 (lit≤ tt))
              (followed (turn q2 r2 b1 p2 (omega arith, omega arith) (omega arith) (omega arith))
              (followed (again 75 131070 (lit≤ tt))
              (followed (turn q3 (2 * d + o) b2 p3 (omega arith, omega arith) (omega arith) (omega arith))
              (followed (units d u (omega arith) (omega arith) refl)
              (followed (length_printed u e (omega arith) refl refl)
              (moved_on u (omega (arith, away.below, locations_most size)))))))))));
        }

  -- all words: the loop
  words : (c : ℕ) (w : Work) (p m : ℕ) (last : Option ℕ) → 140 ≤ p → p + c ≤ locations size
      → ((i : ℕ) → 140 ≤ i → get_or ws i 0 < 2 ^ 17)
      → Prints (words_orders ws p c) (moment (ready p c w) 0 m 0 last) (printed_codes ws p c) (p + c) 0
  unfolding printed_codes words_orders
  words zero w p m last behind fits low =
      let e : p + 0 ≡ p = omega arith in
      rw e (record { work = w; last = last; unit = m; path = stay })
  words (suc c) w p m last behind fits low =
      let b = locations_most size in
      let e : suc c ≡ c + 1 = omega arith in
      let g : p + suc c ≡ p + 1 + c = omega arith in
      let away : IsOutside f ws p = record { below = omega arith; beside = inr (omega arith) } in
      let first = word p c w m last (omega arith) away (low p behind) in
      let rest = words c first.work (p + 1) first.unit first.last (omega arith) (omega arith) low in
      let whole : Path f (word_orders (get_or ws p 0) + words_orders ws (p + 1) c)
      (moment (ready p (c + 1) w) 0 m 0 last)
      (word_codes (get_or ws p 0) ++ printed_codes ws (p + 1) c)
      (moment (ready (p + 1 + c) 0 rest.work) 0 rest.unit 0 rest.last) =
      followed {m = moment (ready (p + 1) c first.work) 0 first.unit 0 first.last}
      {t = moment (ready (p + 1 + c) 0 rest.work) 0 rest.unit 0 rest.last}
      first.path rest.path in
      rw (g, e) (record { work = rest.work; last = rest.last; unit = rest.unit; path = whole })

  -- no word is left
  closed : (w : Work) (p m : ℕ) (last : Option ℕ)
      → Path f 3 (moment (ready p 0 w) 0 m 0 last) [] (moment (ready p 0 w) 131070 m 63 last)
  closed w p m last =
      let second = at2 in
      on (A 0 (own 83) (short 0) refl refl)
      (on (S 1 (out 2 (early 2 (lit≤ tt) (lit< tt) all)) (short 131070) refl (omega arith))
      (on (G_jumps 2 (own 63) refl (lit≤ tt)) stay))

  stops : (w : Work) (p m : ℕ) (last : Option ℕ)
      → Does f KindZ (moment (ready p 0 w) 131070 m 63 last) Stopped (moment (ready p 0 w) 131070 m 64 last)
  stops w p m last = Z 63 Z_F refl refl

  -- all words printed, and the states before and after the order that stops
  pub record PrintsAll (first count m : ℕ) (w : Work) (last : Option ℕ) : Type 0 where
    pub work : Work
    pub last_code : Option ℕ
    pub unit : ℕ
    pub path : Path f (words_orders ws first count + 3) (moment (ready first count w) 0 m 0 last)
        (printed_codes ws first count)
        (moment (ready (first + count) 0 work) 131070 unit 63 last_code)
    pub stops : Does f KindZ (moment (ready (first + count) 0 work) 131070 unit 63 last_code) Stopped
        (moment (ready (first + count) 0 work) 131070 unit 64 last_code)

  pub prints_all : {m : ℕ} {w : Work} {last : Option ℕ} (first count : ℕ) → 140 ≤ first
      → first + count ≤ locations size
      → ((i : ℕ) → 140 ≤ i → get_or ws i 0 < 2 ^ 17) → PrintsAll first count m w last
  prints_all {m} {w} {last} first count behind fits low =
      let a = words count w first m last behind fits low in
      record {
        work = a.work;
        last_code = a.last;
        unit = a.unit;
        path = rw (append-nil (printed_codes ws first count)) at
            (followed a.path (closed a.work (first + count) a.unit a.last));
        stops = stops a.work (first + count) a.unit a.last;
      }
