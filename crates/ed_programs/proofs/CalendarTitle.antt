-- The lines above the days in `examples/calendar.tape`.
use Rattle.ed_programs.proofs.Kit.{drop, Size, followed, [], arith, lit<, lit≤, Option, refl, Some, ℕ, ◌%◌, ◌*◌, ◌+◌}
use Rattle.ed_programs.proofs.Kit.{◌/◌, ◌<◌, ◌∷◌, ◌≡◌, ◌≤◌, Moment, Path, head_codes, title_codes, year_codes, to}
use Rattle.ed_programs.proofs.Kit.{Path-counted}
use Rattle.ed_programs.proofs.CalendarCells.{at, frame, have_part, signs, IsAround, Work}
use Rattle.ed_programs.proofs.CalendarFigures.{left_by, prints_four}
use Rattle.ed_programs.proofs.CalendarNames.{is_name, letter}
use Rattle.ed_programs.proofs.CalendarSigns.{prints_signs}
use Rattle.ed_programs.proofs.Orders.{A, G_jumps, T, obeys}

-- ---- the words that change

-- before the title is printed
abbrev pub untitled : ℕ → Work → Work
untitled i k = record k {
  one = 4096 * letter i 0;
  two = 4096 * letter i 1;
  three = 4096 * letter i 2;
  sign = to 9 (156 + 0);
  end = to 9 (156 + 12);
  first_power = to 12 314;
}

-- after the heads
abbrev pub headed : ℕ → ℕ → Work → Work
headed i y k = record (untitled i k) {
  number = y % 10;
  figure = 4096 * (y % 10);
  shown = 4096;
  scrap = 0;
  print_link = to 3 90;
  power = to 12 317;
  first_power = to 12 314;
  sign = to 9 195;
  end = to 9 195;
  sign_link = to 3 94;
}

module _ (z : Size) (m : Moment) (o : IsAround m.words) where
  -- the title up to the year
  pub prints_title : (i : ℕ) (k : Work) (last : Option ℕ) → i < 12
      → Path (frame z) 90 (at m 84 0 (untitled i k) last) (title_codes i)
      (at m 86 0 (record (untitled i k) { sign = to 9 168; scrap = 0; sign_link = to 3 86 }) (Some 11))
  prints_title i k last few =
      let name = (is_name i few).name_is in
      let a : ℕ = letter i 0 in
      let b : ℕ = letter i 1 in
      let c : ℕ = letter i 2 in
      rw name
      (followed (obeys 84 0 (A 84 (to 28 84) ∷ G_jumps 144 ∷ []) refl (omega arith))
      (prints_signs z m o 84 15 (20 ∷ 20 ∷ 20 ∷ 20 ∷ 20 ∷ 20 ∷ a ∷ b ∷ c ∷ 20 ∷ 11 ∷ []) (untitled i k) 0 12 last
      (lit< tt) (have_part 0 12 (signs (4096 * a) (4096 * b) (4096 * c))) refl (lit≤ tt)))

  -- the year, in four figures; the heads are the next signs
  pub prints_year : (y : ℕ) (k : Work) (last : Option ℕ) → k.year ≡ y → 1901 ≤ y → y < 2200
      → Path (frame z) (81 + 8 * (y / 1000 + y / 100 % 10 + y / 10 % 10))
      (at m 86 0 (record k { first_power = to 12 314 }) last) (year_codes y)
      (at m 92 0 (record (left_by 88 (y % 10) k) { first_power = to 12 314; end = to 9 195 }) (Some (y % 10)))
  prints_year y k last is low high =
      Path-counted
      (followed (obeys 86 0 (A 294 y ∷ T 297 ∷ A 88 (to 28 88) ∷ G_jumps 234 ∷ []) refl (omega (arith, is, high)))
      (followed (prints_four z m o 88 y k last (lit< tt) (omega arith) (omega arith))
      (obeys 90 0 (A 155 (to 9 195) ∷ T 319 ∷ []) refl (omega arith)))) (omega arith)

  -- the heads of the columns
  pub prints_heads : (k : Work) (last : Option ℕ)
      → Path (frame z) 195 (at m 92 0 (record k { sign = to 9 168; end = to 9 195 }) last) head_codes
      (at m 94 0 (record k { sign = to 9 195; end = to 9 195; scrap = 0; sign_link = to 3 94 }) (Some 11))
  prints_heads k last =
      followed (obeys 92 0 (A 92 (to 28 92) ∷ G_jumps 144 ∷ []) refl (omega arith))
      (prints_signs z m o 92 18 (drop 1 head_codes) k 12 39 last (lit< tt)
      (have_part 12 27 (signs k.one k.two k.three)) refl (lit≤ tt))
