-- `divide`, from the library's table to what it does.
use Rattle.ed_maths.proofs.Kit.{rules, ◌≢◌, get_or-set_other, get_or-set_same, length-set, A_F, get_above, get_below}
use Rattle.ed_maths.proofs.Kit.{Beside-outside, Call, call_of}
use Rattle.ed_maths.proofs.Kit.{Holds-loaded, image, IsWithin, get_or-kept, Makes, more, none, [], arith, false, get_or}
use Rattle.ed_maths.proofs.Kit.{inl, inr, length, List, refl, set, subst, suc, sym, zero, ℕ, ◌%◌, ◌*◌, ◌+◌, ◌-◌, ◌/◌}
use Rattle.ed_maths.proofs.Kit.{◌<◌, ◌^◌, ◌∙◌, ◌∷◌, ◌≡◌, locations_most, short_at, State, Frame, short, state, Leads}
use Rattle.ed_maths.proofs.Kit.{Leads-path, Path, Holds, length_patched, patched, IsOther, caller, IsLoadedAt}
use Rattle.ed_maths.proofs.Kit.{IsOutside, divide_orders, dividend, ones}
use Rattle.ed_machine.proofs.Kit.Places.{IsOutside as IsBeside}
use Rattle.ed_machine.proofs.Kit.Standing.{patched-filled}
use Rattle.ed_machine.proofs.Kit.Window.{patched_self}
use Rattle.ed_maths.specs.Quotients.{divide, with_hnm, IsDivision, IsOtherPair, HasDivided}
use Rattle.ed_maths.proofs.Divide.{Given, Work, cells, digits, run, work, Path-whole}
use Rattle.ed_maths.proofs.Ones.{few_ones}
use Rattle.ed_maths.proofs.Quotient.{numbers}

-- `divide` is called in a state, and all is below a location
pub record CallsDivide (b high low by top : ℕ) (s : State) : Type 0 where
  pub all : length s.store.words ≡ 1024
  pub all_digits : length s.store.sandwich ≡ 512
  pub stands : IsLoadedAt divide (with_hnm high low by) b s
  pub even : b % 2 ≡ 0
  pub division : IsDivision b high low by s
  pub within : IsWithin 41 b high top s
  pub near_low : low < top
  pub near_by : by < top

module _ {b high low by top : ℕ} {s : State} (o : CallsDivide b high low by top s) where
  open o.division use {high_outside, low_outside, by_outside}

  abbrev call : Call 41 18
  call = call_of o.stands.low o.within

  abbrev f : Frame 41 18
  f = call.frame

  abbrev d : ℕ
  d = short_at s.store by

  abbrev n : ℕ
  n = dividend high low s

  abbrev hs : List ℕ
  hs = high ∷ low ∷ by ∷ []

  makes : Makes (with_hnm high low by) hs
  makes = search (rules, more, none)

  image_holds : Holds (image divide b hs) s.store.words b
  image_holds = Holds-loaded o.stands makes refl

  abbrev away : {h : ℕ} (words : List ℕ) → length words ≡ 1024 → IsOutside divide b h s → h < top → IsBeside f words h
  away words long out below = record { below = below; beside = Beside-outside words long out }

  abbrev long_set : (v : ℕ) → length (set s.store.words high v) ≡ 1024
  long_set v = length-set s.store.words high v ∙ o.all

  abbrev given : Given
  given = record {
    call = call;
    even = o.even;
    high = high;
    low = low;
    by = by;
    ws = s.store.words;
    d = d;
    h = short_at s.store high;
    l = short_at s.store low;
    is_high = refl;
    is_low = refl;
    is_by = refl;
    positive = o.division.positive;
    fits = o.division.divisor;
    small = o.division.small;
    less = o.division.less;
    all = o.all;
    at3 = o.stands.at3;
    room = o.within.back;
    inside = let size = locations_most s.size in let below = high_outside.below in omega arith;
    away_high = away s.store.words o.all high_outside o.within.near;
    away_low = away s.store.words o.all low_outside o.near_low;
    away_by = away s.store.words o.all by_outside o.near_by;
    away_then = λ v. away (set s.store.words high v) (long_set v) high_outside o.within.near;
    away_last = λ v. away (set s.store.words high v) (long_set v) low_outside o.near_low;
  }

  abbrev first : Work
  first = record {
    at32 = get_or s.store.words (b + 32) 0;
    at35 = get_or s.store.words (b + 35) 0;
    at36 = record {
      even = get_or s.store.words (b + 36) 0;
      odd = get_or s.store.words (b + 37) 0;
      digit = get_or s.store.sandwich (b / 2 + 18 + 0) false;
    };
    at38 = record {
      even = get_or s.store.words (b + 38) 0;
      odd = get_or s.store.words (b + 39) 0;
      digit = get_or s.store.sandwich (b / 2 + 18 + 1) false;
    };
    at40 = get_or s.store.words (b + 40) 0;
  }

  digit_is : (j : ℕ) → j < 2 → get_or (digits first) j false ≡ get_or s.store.sandwich (b / 2 + 18 + j) false
  digit_is zero l = refl
  digit_is (suc zero) l = refl
  digit_is (suc (suc j)) l = absurd (omega arith)

  begins : state f (run given s.store.words first (short (A_F + 2 * caller s)) 0) s.orders ≡ s
  begins =
      let size = locations_most s.size in
      let fits = o.stands.fits in
      let words : patched 0 s.store.words b (cells b high low by first) ≡ s.store.words =
      patched-filled (image divide b hs) s.store.words b (omega (arith, fits, o.all)) image_holds in
      let sandwich : patched false s.store.sandwich (b / 2 + 18) (digits first) ≡ s.store.sandwich =
      patched_self false s.store.sandwich (b / 2 + 18) (digits first) (omega (arith, fits, o.all_digits)) digit_is in
      let counter : b + 0 ≡ s.counter = omega (arith, o.stands.counter) in
      let acc : short (A_F + 2 * caller s) ≡ s.acc = sym o.stands.call.acc in
      λ i. record s {
        store = record { words = words i; sandwich = sandwich i };
        acc = acc i;
        counter = counter i;
      }

  abbrev ws : List ℕ
  ws = set (set s.store.words high (n % d)) low (n / d)

  -- the words that change, as they are left
  abbrev left : Work
  left = work given 0 (4 * numbers d 15 n) (2 ^ 17 - 1)

  total : divide_orders (n / d) + ones 16 (n / d) ≡ 212
  total = let few = few_ones 16 (n / d) in omega arith

  path : Path f (divide_orders (n / d)) (run given s.store.words first (short (A_F + 2 * caller s)) 0) []
      (record (run given ws left 0 0) { counter = caller s + 2 })
  path = Path-whole given first (divide_orders (n / d)) total

  abbrev pub last : State
  last = record s {
    store = record {
      words = patched 0 ws b (cells b high low by left);
      sandwich = patched false s.store.sandwich (b / 2 + 18) (digits left);
    };
    acc = 0;
    counter = caller s + 2;
    orders = s.orders + divide_orders (n / d);
  }

  pub length-divided : length last.store.words ≡ 1024
  length-divided = search (rules, length_patched)

  -- that many orders lead to the order after the call
  pub leads_to : Leads (divide_orders (n / d)) s [] last
  leads_to = subst (λ x. Leads (divide_orders (n / d)) x [] last) begins (Leads-path path s.orders)

  -- a word outside the routine
  outside : (h : ℕ) → IsOutside divide b h s → get_or last.store.words h 0 ≡ get_or ws h 0
  outside h out = elim out.beside [
    | inl below ↦ get_below 0 ws b (cells b high low by left) h below
    | inr above ↦ get_above 0 ws b (cells b high low by left) h above
  ]

  -- the two words that are written, and every other one
  others : (i : ℕ) → i ≢ high → i ≢ low → get_or ws i 0 ≡ get_or s.store.words i 0
  others i not_high not_low =
      get_or-set_other (set s.store.words high (n % d)) low i (n / d) 0 not_low
      ∙ get_or-set_other s.store.words high i (n % d) 0 not_high

  apart : {h : ℕ} → IsOutside divide b h s → (j : ℕ) → j < 41 → b + j ≢ h
  apart out j l e = elim out.beside [ inl x ↦ absurd (omega arith) | inr y ↦ absurd (omega arith) ]

  still : Holds (image divide b hs) ws b
  still j l = rw (others (b + j) (apart high_outside j l) (apart low_outside j l)) (image_holds j l)

  stays : (i : ℕ) → i ≢ high → i ≢ low → IsOther divide b i → get_or last.store.words i 0 ≡ get_or s.store.words i 0
  stays i not_high not_low free =
      get_or-kept hs free ws (cells b high low by left) refl refl still ∙ others i not_high not_low

  at_low : get_or last.store.words low 0 ≡ n / d
  at_low = outside low low_outside
      ∙ get_or-set_same (set s.store.words high (n % d)) low (n / d) 0
      (let size = locations_most s.size in let below = low_outside.below in omega (arith, long_set (n % d)))

  at_high : get_or last.store.words high 0 ≡ n % d
  at_high = search (rules, outside)

  digit_stays : (p : ℕ) → IsOtherPair b p → get_or last.store.sandwich p false ≡ get_or s.store.sandwich p false
  digit_stays p free = elim free.other [
    | inl below ↦ get_below false s.store.sandwich (b / 2 + 18) (digits left) p below
    | inr above ↦ get_above false s.store.sandwich (b / 2 + 18) (digits left) p (omega (arith, above))
  ]

  pub HasDivided-last : (t : State) → t ≡ last → HasDivided b high low by s t
  HasDivided-last t e = subst (HasDivided b high low by s) (sym e) (record {
    quotient = at_low;
    remainder = at_high;
    is = refl;
    words = stays;
    digits = digit_stays;
  })
