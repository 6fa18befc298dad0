-- The program of `examples/fraction.edsac`, at any base and for all its numbers: division as on paper.
use Rattle.ed_programs.proofs.Kit.{A_F, E_F, G_F, L_D, O_F, S_F, T_F, U_F, Z_F, L1F, after_call, along, IsOther-beside}
use Rattle.ed_programs.proofs.Kit.{has_after, IsIn, Journey, no_working, still_in, then, Bool, Option, Reads, Jumps}
use Rattle.ed_programs.proofs.Kit.{any, LD, print_goes, print_left, print_line, get_own, [], arith, inl, inr, length}
use Rattle.ed_programs.proofs.Kit.{List, lit<, lit≤, refl, rules, Some, subst, suc, ℕ, ◌%◌, ◌*◌, ◌+◌, ◌/◌, ◌<◌, ◌∙◌}
use Rattle.ed_programs.proofs.Kit.{◌∷◌, ◌≡◌, ◌≤◌, locations_most, Frame, Moment, short, Path, own, print, read, with_h}
use Rattle.ed_programs.proofs.Kit.{digits, print_orders, HasRoutine, divide, divide_orders, with_hnm, HasRead}
use Rattle.ed_programs.proofs.Kit.{journey_counted}
use Rattle.ed_programs.proofs.Divides.{HasDivided, IsDivided, divide_line}
use Rattle.ed_programs.proofs.NumberShown.{then_on}
use Rattle.ed_programs.proofs.Orders.{A, E_jumps, G_stays, L, S, T, U, obeys}

-- the cells that change
pub record Work : Type 0 where
  pub number : ℕ
  pub low : ℕ
  pub rest : ℕ
  pub divisor : ℕ
  pub scrap : ℕ

-- its words at b, with `read`, `divide` and `print` at r, d and p
abbrev pub cells : ℕ → ℕ → ℕ → ℕ → Work → List ℕ
cells b r d p k =
    (A_F + 2 * (b + 0)) ∷ (G_F + 2 * r) ∷ (A_F + 2 * (b + 33)) ∷ (T_F + 2 * (b + 34))
    ∷ (A_F + 2 * (b + 4))
    ∷ (G_F + 2 * r) ∷ (A_F + 2 * (b + 33)) ∷ (T_F + 2 * (b + 36)) ∷ (A_F + 2 * (b + 8)) ∷ (G_F + 2 * r)
    ∷ (A_F + 2 * (b + 10)) ∷ (G_F + 2 * d) ∷ (A_F + 2 * (b + 12)) ∷ (G_F + 2 * p) ∷ (O_F + 2 * (b + 37))
    ∷ (T_F + 2 * (b + 39)) ∷ (A_F + 2 * (b + 33)) ∷ (S_F + 2 * (b + 38)) ∷ (G_F + 2 * (b + 32))
    ∷ (T_F + 2 * (b + 33)) ∷ (A_F + 2 * (b + 35)) ∷ L_D ∷ (U_F + 2 * (b + 34)) ∷ 102402
    ∷ (A_F + 2 * (b + 34)) ∷ (T_F + 2 * (b + 34)) ∷ (T_F + 2 * (b + 35)) ∷ (A_F + 2 * (b + 27))
    ∷ (G_F + 2 * d) ∷ (A_F + 2 * (b + 29)) ∷ (G_F + 2 * p) ∷ (E_F + 2 * (b + 15)) ∷ Z_F
    ∷ k.number ∷ k.low ∷ k.rest ∷ k.divisor ∷ 94208 ∷ 1 ∷ k.scrap ∷ []

-- its base, and the routines after it
pub record Given : Type 0 where
  pub f : Frame 40 0
  pub above : 56 ≤ f.base
  pub r : ℕ
  pub d : ℕ
  pub p : ℕ
  pub read_divide : r + 24 ≤ d
  pub divide_print : d + 41 ≤ p
  pub even : d % 2 ≡ 0

-- what is around it, and so at a moment
pub record IsBeside (given : Given) (words : List ℕ) (longs : List Bool) : Type 0 where
  pub all : length words ≡ 1024
  pub digits_long : length longs ≡ 512
  pub reads : HasRoutine given.f words read given.r (with_h (given.f.base + 33))
  pub divides : HasRoutine given.f words divide given.d
      (with_hnm (given.f.base + 35) (given.f.base + 34) (given.f.base + 36))
  pub prints : HasRoutine given.f words print given.p (with_h (given.f.base + 34))

abbrev pub IsAround : Given → Moment → Type 0
IsAround given around = IsBeside given around.words around.digits

module _ (given : Given) where
  open given use {f, above, r, d, p}

  abbrev pub at : Moment → ℕ → Work → Moment
  at around i k = record around { cells = cells f.base r d p k; pairs = []; acc = 0; counter = f.base + i }

  pub in_at : (around : Moment) (i : ℕ) (k : Work) → IsAround given around → IsIn f (at around i k)
  in_at around i k o = record { above = above; all = o.all; own = refl }

  -- ---- its routines

  pub after_read : (around : Moment) {k : Work} {i v : ℕ} {rest : List ℕ} (o : IsAround given around)
      (one : HasRead (in_at around i k o) i 33 r v rest) → IsBeside given one.words around.digits
  after_read around o one =
      let a = given.read_divide in let b = given.divide_print in
      record {
        all = one.still_in.all;
        digits_long = o.digits_long;
        reads = one.has o.reads (λ m l free. no_working m free);
        divides = one.has o.divides (λ m l free. IsOther-beside (d + m) (inr (omega arith)));
        prints = one.has o.prints (λ m l free. IsOther-beside (p + m) (inr (omega arith)));
      }

  -- where a part of the program leads: to the cell i, with these cells
  pub record Part (from : Moment) (many : ℕ) (codes : List ℕ) (i : ℕ) (k : Work) : Type 0 where
    pub now : Moment
    pub is : IsAround given now
    pub journey : Journey f many from codes (at now i k)

  module _ (around : Moment) (i : ℕ) (k : Work) (o : IsAround given around) (room : i + 3 ≤ 40)
      (first : Reads {f = f} {r = at around i k} i 28 (own i)) where
    abbrev calling : Moment
    calling = record (at around i k) { acc = short (A_F + 2 * (f.base + i)); counter = f.base + (i + 1) }

    -- `divide` of the number in the cell `low`
    division : (u l : ℕ) → k.rest ≡ 0 → k.low ≡ u → k.divisor ≡ l → u < 65536 → 0 < l → l ≤ 6553
        → IsDivided 40 (at around i k) 35 34 36 0 u l
    division u l clear low by small some few = search rules

    pub Part-divided : (u l : ℕ) → k.rest ≡ 0 → k.low ≡ u → k.divisor ≡ l → u < 65536 → 0 < l → l ≤ 6553
        → Jumps {f = f} {r = calling} (i + 1) 27 (any d o.divides.reached)
        → Part (at around i k) (2 + divide_orders (u / l)) [] (i + 2) (record k { rest = u % l; low = u / l })
    Part-divided u l clear low by small some few second =
        let a = given.read_divide in let b = given.divide_print in
        let same : 65536 * 0 + u ≡ u = omega arith in
        let one : HasDivided (at around i k) (in_at around i k o) i d 35 34 u l =
        subst (λ x. HasDivided (at around i k) (in_at around i k o) i d 35 34 x l) same
        (divide_line (at around i k) (in_at around i k o) i o.divides given.even
        (division u l clear low by small some few) room refl first second) in
        record {
          now = record around { words = one.words; digits = one.digits };
          is = record {
            all = one.all;
            digits_long = one.digits_long;
            reads = one.has o.reads (λ m l free. IsOther-beside (r + m) (inl (omega arith)));
            divides = one.has o.divides (λ m l free. no_working m free);
            prints = one.has o.prints (λ m l free. IsOther-beside (p + m) (inr (omega arith)));
          };
          journey = one.journey;
        }

    -- `print` of it
    pub Part-printed : (v : ℕ) → k.low ≡ v → v < 65536 → Jumps {f = f} {r = calling} (i + 1) 27 (any p o.prints.reached)
        → Part (at around i k) (2 + print_orders v) (11 ∷ digits v) (i + 2) k
    Part-printed v is small second =
        let a = given.read_divide in let b = given.divide_print in
        let here = in_at around i k o in
        let left : List ℕ = print_left here p i 34 v in
        let last : Option ℕ = Some (v % 10) in
        let number = get_own 0 around.words f.base (cells f.base r d p k) 34 (lit< tt) ∙ is in
        let goes = print_goes here {w = p} i 34 number (lit< tt) small o.prints.apart in
        record {
          now = record around { words = (after_call here p i left last).words; last = last };
          is = record {
            all = (still_in here i left last o.prints goes room).all;
            digits_long = o.digits_long;
            reads = has_after here i left last o.prints goes room o.reads
                (λ j l free. IsOther-beside (r + j) (inl (omega arith)));
            divides = has_after here i left last o.prints goes room o.divides
                (λ j l free. IsOther-beside (d + j) (inl (omega arith)));
            prints = has_after here i left last o.prints goes room o.prints (λ j l free. no_working j free);
          };
          journey = print_line here {v = v} i 34 o.prints number (lit< tt) small room refl first second;
        }

  -- ---- a turn: what is left, ten times, is divided, and the quotient is printed

  -- where turns lead, by three of the cells
  pub record Turned (from : Moment) (many : ℕ) (codes : List ℕ) (m rest by : ℕ) : Type 0 where
    pub now : Moment
    pub work : Work
    pub is : IsAround given now
    pub number : work.number ≡ m
    pub rest_is : work.rest ≡ rest
    pub by_is : work.divisor ≡ by
    pub journey : Journey f many from codes (at now 15 work)

  pub Turned-digit : (around : Moment) (k : Work) (m rest by : ℕ) → IsAround given around → k.number ≡ suc m
      → suc m < 65536
      → k.rest ≡ rest → k.divisor ≡ by → rest < by → by ≤ 6553 → 10 * rest / by < 10
      → Turned (at around 15 k) (17 + divide_orders (10 * rest / by) + print_orders (10 * rest / by))
      (11 ∷ digits (10 * rest / by)) m (10 * rest % by) by
  Turned-digit around k m rest by o number few is_rest is_by less most_by digit =
      let size = locations_most f.size in let under = f.under in let fits = f.fits in
      let k1 : Work = record k { scrap = 0; number = m; low = 10 * rest; rest = 0 } in
      let first : Path f 12 (at around 15 k) [] (at around 27 k1) =
      obeys 15 0 (T 39 ∷ A 33 (suc m) ∷ S 38 m ∷ G_stays 32 ∷ T 33 ∷ A 35 rest ∷ L LD (2 * rest) ∷ U 34
      ∷ L L1F (8 * rest) ∷ A 34 (10 * rest) ∷ T 34 ∷ T 35 ∷ []) refl (omega arith) in
      let v : ℕ = 10 * rest / by in
      let one = Part-divided around 27 k1 o (lit≤ tt) refl (10 * rest) by refl refl is_by (omega arith)
      (omega arith) most_by
      refl in
      let k2 : Work = record k1 { rest = 10 * rest % by; low = v } in
      let shown = Part-printed one.now 29 k2 one.is (lit≤ tt) refl v refl (omega arith) refl in
      record {
        now = shown.now;
        work = k2;
        is = shown.is;
        number = refl;
        rest_is = refl;
        by_is = is_by;
        journey = journey_counted (then (along first) (then one.journey
            (then_on shown.journey (obeys 31 0 (E_jumps 15 ∷ []) refl (omega arith))))) (omega arith);
      }
