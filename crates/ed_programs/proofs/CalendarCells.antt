-- The words of `examples/calendar.tape` from 56 to 391.
use Rattle.ed_programs.proofs.Kit.{L_D, Z_F, Size, frame_at, [], drop, get_or, length, List, lit≤, Option, refl, Some}
use Rattle.ed_programs.proofs.Kit.{suc, take, zero, ℕ, ◌++◌, ◌+◌, ◌<◌, ◌∙◌, ◌∷◌, ◌≡◌, Frame, Moment, short, to}
use Rattle.std.proofs.lemmas.List.{get_or_append_left}
use Rattle.ed_machine.proofs.Kit.Window.{get_right}

-- the cells that change: the numbers from 0H on, the order that prints a sign, with its link and the title's letters,
-- the order that takes a power of ten away, the links of the other two routines, and the master's made orders
pub record Work : Type 0 where
  pub year : ℕ
  pub month : ℕ
  pub weekday : ℕ
  pub number : ℕ
  pub figure : ℕ
  pub scrap : ℕ
  pub row : ℕ
  pub from : ℕ
  pub leap : ℕ
  pub count : ℕ
  pub days : ℕ
  pub shown : ℕ
  pub first_power : ℕ
  pub end : ℕ
  pub place : ℕ
  pub day : ℕ
  pub february : ℕ
  pub sign : ℕ
  pub sign_link : ℕ
  pub one : ℕ
  pub two : ℕ
  pub three : ℕ
  pub power : ℕ
  pub print_link : ℕ
  pub read_link : ℕ
  pub adds_month : ℕ
  pub takes_month : ℕ
  pub takes_one : ℕ
  pub takes_two : ℕ
  pub takes_three : ℕ

-- as they are loaded
abbrev pub loaded : Work
loaded = record {
  year = 0;
  month = 0;
  weekday = 2;
  number = 0;
  figure = 0;
  scrap = 0;
  row = 0;
  from = 1901;
  leap = 131069;
  count = 0;
  days = 0;
  shown = 0;
  first_power = 49892;
  end = 37312;
  place = 0;
  day = 0;
  february = 28;
  sign = 37288;
  sign_link = 0;
  one = 81920;
  two = 81920;
  three = 81920;
  power = 0;
  print_link = 0;
  read_link = 0;
  adds_month = 0;
  takes_month = 0;
  takes_one = 0;
  takes_two = 0;
  takes_three = 0;
}

-- the master, eleven cleared places, and the subroutine that prints signs
abbrev before_signs : Work → List ℕ
before_signs k =
    to 28 0 ∷ to 27 274 ∷ to 28 297 ∷ to 5 295 ∷ to 28 4 ∷ to 27 274 ∷ to 28 297 ∷ to 5 294 ∷ to 5 300
    ∷ to 28 304 ∷ to 12 294 ∷ to 3 32 ∷ to 5 300 ∷ to 28 296 ∷ to 28 299 ∷ to 5 296 ∷ to 28 305 ∷ to 27 24
    ∷ to 5 300 ∷ to 28 296 ∷ to 28 299 ∷ to 5 296 ∷ to 12 312 ∷ to 5 305 ∷ to 5 300 ∷ to 28 305 ∷ to 28 299
    ∷ to 5 305 ∷ to 28 304 ∷ to 28 299 ∷ to 5 304 ∷ to 3 8 ∷ to 5 300 ∷ to 28 305 ∷ to 27 39 ∷ to 5 300
    ∷ to 28 325 ∷ to 28 299 ∷ to 5 325 ∷ to 5 300 ∷ to 12 295 ∷ to 28 299 ∷ to 5 306 ∷ to 28 313 ∷ to 5 51
    ∷ to 5 300 ∷ to 28 306 ∷ to 3 57 ∷ to 28 299 ∷ to 5 306 ∷ to 28 296 ∷ k.adds_month ∷ to 5 296 ∷ to 28 51
    ∷ 114692 ∷ to 5 51 ∷ to 3 45 ∷ to 28 51 ∷ to 5 59 ∷ k.takes_month ∷ to 5 307 ∷ to 28 296 ∷ to 12 321
    ∷ to 3 62 ∷ to 28 321 ∷ to 5 296 ∷ to 28 295 ∷ to 12 299 ∷ L_D ∷ to 7 300 ∷ L_D ∷ to 28 300
    ∷ to 28 132 ∷ to 7 78 ∷ 114692 ∷ to 7 80 ∷ 114692 ∷ to 5 82 ∷ k.takes_one ∷ to 5 163 ∷ k.takes_two
    ∷ to 5 164 ∷ k.takes_three ∷ to 5 165 ∷ to 28 84 ∷ to 27 144 ∷ to 28 294 ∷ to 5 297 ∷ to 28 88 ∷ to 27 234
    ∷ to 28 155 ∷ to 5 319 ∷ to 28 92 ∷ to 27 144 ∷ to 28 317 ∷ to 5 309 ∷ to 28 296 ∷ to 12 321 ∷ to 5 320
    ∷ to 12 296 ∷ to 5 306 ∷ to 5 300 ∷ to 28 306 ∷ to 3 110 ∷ to 28 299 ∷ to 5 306 ∷ to 9 310 ∷ to 9 310
    ∷ to 9 310 ∷ to 3 101 ∷ to 5 300 ∷ to 28 322 ∷ to 28 299 ∷ to 7 322 ∷ to 7 297 ∷ to 12 307 ∷ to 12 299
    ∷ to 3 131 ∷ to 9 310 ∷ to 5 300 ∷ to 28 120 ∷ to 27 234 ∷ to 28 320 ∷ to 28 299 ∷ to 7 320 ∷ to 27 110
    ∷ to 12 321 ∷ to 5 320 ∷ to 9 318 ∷ to 9 323 ∷ to 3 110 ∷ Z_F ∷ to 28 195 ∷ 0 ∷ 0 ∷ 0 ∷ 0 ∷ 0 ∷ 0 ∷ 0 ∷ 0
    ∷ 0 ∷ 0 ∷ 0 ∷ 114694 ∷ to 5 154 ∷ to 5 300 ∷ k.sign ∷ to 28 147 ∷ 114692 ∷ to 7 147 ∷ to 12 319 ∷ to 27 146
    ∷ to 5 300 ∷ k.sign_link ∷ to 9 195 ∷ []

-- the signs
abbrev pub signs : ℕ → ℕ → ℕ → List ℕ
signs a b c =
    61440 ∷ 81920 ∷ 81920 ∷ 81920 ∷ 81920 ∷ 81920 ∷ 81920 ∷ a ∷ b ∷ c ∷ 81920 ∷ 45056 ∷ 73728
    ∷ 98304 ∷ 61440 ∷ 81920 ∷ 49152 ∷ 28672 ∷ 81920 ∷ 94208 ∷ 36864 ∷ 81920 ∷ 20480 ∷ 28672 ∷ 81920 ∷ 8192
    ∷ 12288 ∷ 81920 ∷ 20480 ∷ 86016 ∷ 81920 ∷ 69632 ∷ 16384 ∷ 81920 ∷ 49152 ∷ 114688 ∷ 73728 ∷ 98304 ∷ 45056
    ∷ 40960 ∷ 114688 ∷ 90112 ∷ 69632 ∷ 12288 ∷ 118784 ∷ 94208 ∷ 114688 ∷ 16384 ∷ 114688 ∷ 0 ∷ 16384 ∷ 94208
    ∷ 114688 ∷ 24576 ∷ 40960 ∷ 28672 ∷ 90112 ∷ 40960 ∷ 28672 ∷ 102400 ∷ 114688 ∷ 28672 ∷ 110592 ∷ 49152 ∷ 12288
    ∷ 0 ∷ 36864 ∷ 122880 ∷ 20480 ∷ 90112 ∷ 36864 ∷ 126976 ∷ 77824 ∷ 12288 ∷ 122880 ∷ []

-- three cleared places, the printing of a number, its reading with the cleared places around it, and the numbers
abbrev between : Work → List ℕ
between k =
    0 ∷ 0 ∷ 0 ∷ 114694 ∷ to 5 272 ∷ to 5 308 ∷ to 28 309 ∷ to 5 242 ∷ to 5 300 ∷ to 5 298 ∷ to 28 297 ∷ k.power
    ∷ to 27 249 ∷ to 5 297 ∷ to 28 298 ∷ to 28 301 ∷ to 5 298 ∷ to 3 241 ∷ to 5 300 ∷ to 28 298 ∷ to 28 308
    ∷ to 12 301 ∷ to 27 259 ∷ to 9 298 ∷ to 5 300 ∷ to 28 301 ∷ to 5 308 ∷ to 3 260 ∷ to 9 310 ∷ to 5 300
    ∷ to 28 242 ∷ 114692 ∷ to 7 242 ∷ to 12 311 ∷ to 27 239 ∷ to 5 300 ∷ to 28 297 ∷ 103424 ∷ L_D ∷ to 5 298
    ∷ to 9 298 ∷ k.print_link
    ∷ 0 ∷ 114694 ∷ to 5 291 ∷ to 5 297 ∷ to 8 302 ∷ to 28 302 ∷ to 12 303 ∷ to 3 290 ∷ to 5 300 ∷ to 28 297
    ∷ L_D ∷ to 7 300 ∷ 102402 ∷ to 28 300 ∷ to 28 302 ∷ to 5 297 ∷ to 3 277 ∷ to 5 300 ∷ k.read_link ∷ 0 ∷ 0
    ∷ k.year ∷ k.month ∷ k.weekday ∷ k.number ∷ k.figure ∷ 1 ∷ k.scrap ∷ 4096 ∷ k.row ∷ 10 ∷ k.from ∷ k.leap
    ∷ k.count ∷ k.days ∷ k.shown ∷ k.first_power ∷ 81920 ∷ to 12 317 ∷ 4 ∷ to 28 324 ∷ 1000 ∷ 100 ∷ 10
    ∷ to 12 316 ∷ 73728 ∷ k.end ∷ k.place ∷ 7 ∷ k.day ∷ 98304 ∷ []

-- the lengths of the months
abbrev pub lengths : ℕ → List ℕ
lengths february =
    31 ∷ february ∷ 31 ∷ 30 ∷ 31 ∷ 30 ∷ 31 ∷ 31 ∷ 30 ∷ 31 ∷ 30 ∷ 31 ∷ []

-- all of them
abbrev pub cells : Work → List ℕ
cells k = before_signs k ++ (signs k.one k.two k.three ++ (between k ++ lengths k.february))

-- ---- signs, and lengths of months, stand in them

-- numbers are in a list from i on
abbrev pub Have : List ℕ → ℕ → List ℕ → Type 0
Have ws i [] = Unit {0}
Have ws i (x ∷ xs) = (get_or ws i 0 ≡ x) × Have ws (suc i) xs

-- after another number, and anywhere in a list
have_behind : (w : ℕ) (ws : List ℕ) (i : ℕ) (xs : List ℕ) → Have ws i xs → Have (w ∷ ws) (suc i) xs
have_behind w ws i [] h = tt
have_behind w ws i (x ∷ xs) h = (h.0, have_behind w ws (suc i) xs h.1)

pub have_part : (j n : ℕ) (ws : List ℕ) → Have ws j (take n (drop j ws))
have_part zero zero ws = tt
have_part zero (suc n) [] = tt
have_part zero (suc n) (w ∷ ws) = (refl, have_behind w ws 0 (take n ws) (have_part 0 n ws))
have_part (suc j) zero [] = tt
have_part (suc j) (suc n) [] = tt
have_part (suc j) n (w ∷ ws) = have_behind w ws j (take n (drop j ws)) (have_part j n ws)

-- a sign is its cell, and so is the length of a month
pub sign_at : (k : Work) (j : ℕ) → j < 75 → get_or (cells k) (156 + j) 0 ≡ get_or (signs k.one k.two k.three) j 0
sign_at k j few =
    let these : List ℕ = signs k.one k.two k.three in
    get_right 0 (before_signs k) (these ++ (between k ++ lengths k.february)) j
    ∙ get_or_append_left these (between k ++ lengths k.february) 0 j few

pub length_at : (k : Work) (i : ℕ) → get_or (cells k) (324 + i) 0 ≡ get_or (lengths k.february) i 0
length_at k i = get_right 0 (before_signs k ++ signs k.one k.two k.three ++ between k) (lengths k.february) i

-- ---- the moments

-- the words around the program that it reads
pub record IsAround (ws : List ℕ) : Type 0 where
  pub all : length ws ≡ 1024
  pub at2 : get_or ws 2 0 ≡ 2
  pub at3 : get_or ws 3 0 ≡ 28676

-- the program is 336 cells from 56 on
abbrev pub frame : Size → Frame 336 0
frame z = frame_at 336 z (lit≤ tt)

-- before the order in cell i, with the number v in the accumulator
abbrev pub at : Moment → ℕ → ℕ → Work → Option ℕ → Moment
at m i v k last = record m { cells = cells k; pairs = []; acc = short v; counter = 56 + i; last = last }

-- the last code after printing
abbrev pub latest : Option ℕ → List ℕ → Option ℕ
latest last [] = last
latest last (c ∷ cs) = latest (Some c) cs
