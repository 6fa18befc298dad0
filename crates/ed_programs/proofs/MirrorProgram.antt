-- The program of `examples/mirror.tape`, at 64 and for any word: one loop that stores letters, and one that prints
-- them.
use Rattle.ed_programs.proofs.Kit.{before_order, frame_from, get_or-set_other, get_or-set_same, length-set}
use Rattle.ed_programs.proofs.Kit.{length-reverse, L_D, R_F, Z_F, Size, I, Z, L512F, AreCodes, set, reverse-append}
use Rattle.ed_programs.proofs.Kit.{along, to_stop, LD, followed, [], append-nil, append_assoc, arith, get_or, length}
use Rattle.ed_programs.proofs.Kit.{List, lit<, lit≤, Option, refl, reverse, Some, suc, sym, ℕ, ◌*◌, ◌++◌, ◌+◌, ◌%◌, ◌-◌}
use Rattle.ed_programs.proofs.Kit.{◌<◌, ◌∙◌, ◌∷◌, ◌≡◌, ◌≤◌, locations_least, Frame, Moment, state, on, Path, stay, own}
use Rattle.ed_programs.proofs.Kit.{ReachesStop, printing, stop_counted, Path-counted, rules}
use Rattle.ed_programs.proofs.Orders.{A, A_low, E_jumps, E_stays, G_jumps, G_stays, L, O_high, S, S_low, T, T_high, U}
use Rattle.ed_programs.proofs.Orders.{obeys}

-- the cells that change
pub record Work : Type 0 where
  pub store : ℕ
  pub print : ℕ
  pub count : ℕ
  pub scrap : ℕ
  pub row : ℕ

-- the order with a function that names cell j
abbrev order : ℕ → ℕ → ℕ
order function j = 4096 * function + 2 * (64 + j)

-- its words
abbrev pub cells : Work → List ℕ
cells k =
    order 8 28 ∷ order 5 29 ∷ order 8 30 ∷ order 28 30 ∷ 103424 ∷ L_D ∷ k.store ∷ order 28 6 ∷ 114692 ∷ order 5 6
    ∷ order 28 28 ∷ order 12 27 ∷ order 7 28 ∷ order 12 27 ∷ order 3 1 ∷ order 5 29 ∷ order 28 6 ∷ order 28 31 ∷ 49156
    ∷ order 7 20 ∷ k.print ∷ order 12 32 ∷ order 27 26 ∷ order 28 32 ∷ order 3 18 ∷ Z_F ∷ Z_F ∷ 1 ∷ k.count ∷ k.scrap
    ∷ k.row ∷ R_F ∷ order 9 41 ∷ []

-- the letters are from 104 upwards; the order that stores letter n, the first is 0
abbrev pub storing : ℕ → ℕ
storing n = 4096 * 5 + 2 * (104 + n)

-- codes are there, each in the first digits of its word; the last one comes first in the list
abbrev pub Stored : List ℕ → List ℕ → Type 0
Stored ws [] = Unit {0}
Stored ws (c ∷ cs) = (get_or ws (104 + length cs) 0 ≡ 4096 * c) × (c < 32) × Stored ws cs

-- a word that is written above them leaves them
stored_set : (ws : List ℕ) (a v : ℕ) (cs : List ℕ) → 104 + length cs ≤ a → Stored ws cs → Stored (set ws a v) cs
stored_set ws a v [] l h = tt
stored_set ws a v (c ∷ cs) l h = search (rules, get_or-set_other, stored_set ws a v cs (omega arith) h.2)

module _ (z : Size) (m : Moment) where
  abbrev pub f : Frame 33 0
  f = frame_from 33 64 z (lit≤ tt)

  abbrev pub at : ℕ → List ℕ → ℕ → Work → List ℕ → Option ℕ → Moment
  at i ws v k tape last =
      record (before_order m (64 + i) v (cells k)) { words = ws; tape = tape; last = last }

  -- ---- the letters are stored

  abbrev work : ℕ → ℕ → ℕ → ℕ → Work
  work n count s r = record { store = storing n; print = 0; count = count; scrap = s; row = r }

  -- with n letters stored, before the next one or after the last
  abbrev before : List ℕ → ℕ → ℕ → ℕ → ℕ → List ℕ → Moment
  before ws n v s r [] = at 15 ws v (work n 0 s r) [] m.last
  before ws n v s r (c ∷ cs) = at 1 ws v (work n (suc (length cs)) s r) (c ∷ cs) m.last

  -- what the count leaves
  abbrev counted : ℕ → ℕ
  counted n = (131071 + n) % 131072

  -- the loop goes on as long as letters are left
  decides : (ws : List ℕ) (n s r : ℕ) (cs : List ℕ) → length cs ≤ 10
      → Path f 2 (at 13 ws (length cs) (work n (length cs) s r) cs m.last) [] (before ws n (counted (length cs)) s r cs)
  decides ws n s r [] few =
      obeys 13 0 (S 27 (counted 0) ∷ E_stays 1 ∷ []) refl (omega arith)
  decides ws n s r (d ∷ ds) few =
      obeys 13 (suc (length ds)) (S 27 (counted (suc (length ds))) ∷ E_jumps 1 ∷ []) refl (omega arith)

  -- a letter is stored, the order that stores it gets the next address, and the count decreases by one
  turn : (ws : List ℕ) (n v s r c : ℕ) (cs : List ℕ) → length ws ≡ 1024 → get_or ws 2 0 ≡ 2 → c < 32
      → n + suc (length cs) ≤ 10 → v < 131072
      → Path f 14 (before ws n v s r (c ∷ cs)) []
      (before (set ws (104 + n) (4096 * c)) (suc n) (counted (length cs)) v c cs)
  turn ws n v s r c cs all at2 code few small =
      let size = locations_least z in
      let after : List ℕ = set ws (104 + n) (4096 * c) in
      let long = length-set ws (104 + n) (4096 * c) ∙ all in
      let second = get_or-set_other ws (104 + n) 2 (4096 * c) 0 (omega arith) ∙ at2 in
      followed (obeys 1 v (T 29 ∷ []) refl (omega arith))
      (on (I 2 (own 30) c refl refl refl)
      (followed (obeys 3 0 (A 30 c ∷ L L512F (2048 * c) ∷ L LD (4096 * c) ∷ T_high (104 + n) ∷ A 6 (storing n)
      ∷ A_low 2 (storing (suc n)) ∷ T 6 ∷ A 28 (suc (length cs)) ∷ S 27 (length cs) ∷ U 28 ∷ []) refl (omega arith))
      (decides after (suc n) v c cs (omega arith))))

  -- these letters are stored
  record Taken (whole : List ℕ) : Type 0 where
    words : List ℕ
    number : ℕ
    scrap : ℕ
    row : ℕ
    all : length words ≡ 1024
    at2 : get_or words 2 0 ≡ 2
    stored : Stored words whole
    small : number < 131072

  takes : (cs taken whole ws : List ℕ) (v s r : ℕ) → reverse cs ++ taken ≡ whole → length ws ≡ 1024
      → get_or ws 2 0 ≡ 2 → Stored ws taken → AreCodes cs → length taken + length cs ≤ 10 → v < 131072
      → (x : Taken whole) × Path f (14 * length cs) (before ws (length taken) v s r cs) []
      (before x.words (length whole) x.number x.scrap x.row [])
  takes [] taken whole ws v s r is all at2 stored codes few small = rw (sym is) (
    record { words = ws; number = v; scrap = s; row = r; all = all; at2 = at2; stored = stored; small = small },
    stay,
  )
  takes (c ∷ cs) taken whole ws v s r is all at2 stored codes few small =
      let rest = takes cs (c ∷ taken) whole (set ws (104 + length taken) (4096 * c)) (counted (length cs)) v c
      (rw (reverse-append (c ∷ []) cs, append_assoc (reverse cs) (c ∷ []) taken) at is)
      (length-set ws (104 + length taken) (4096 * c) ∙ all)
      (get_or-set_other ws (104 + length taken) 2 (4096 * c) 0 (omega arith) ∙ at2) (
        get_or-set_same ws (104 + length taken) (4096 * c) 0 (omega arith),
        codes.0,
        stored_set ws (104 + length taken) (4096 * c) taken (omega arith) stored,
      ) codes.1 (omega arith) (omega arith) in (
        rest.0,
        Path-counted (followed (turn ws (length taken) v s r c cs all at2 codes.0 (omega arith) small) rest.1)
            (omega arith),
      )

  -- ---- the letters are printed, the last one first

  module _ (ws : List ℕ) (all : length ws ≡ 1024) (at2 : get_or ws 2 0 ≡ 2) (k : Work) where
    abbrev shown : ℕ → ℕ → ℕ → Option ℕ → Moment
    shown i v order last = at i ws v (record k { print = order }) [] last

    -- the last letter that was printed, as the machine keeps it, and the orders that print all of them
    printed : (cs : List ℕ) (order : ℕ) (last : Option ℕ) → Stored ws cs → 1 ≤ length cs → length cs ≤ 10
        → (y : Option ℕ) × Path f (7 * length cs - 2) (shown 18 (printing (104 + length cs)) order last) cs
        (shown 26 131070 (printing 104) y)
    printed [] order last stored some few = absurd (omega arith)
    printed (c ∷ []) order last stored some few =
        let size = locations_least z in let here = stored.0 in let code = stored.1 in let second = at2 in (
          Some c,
          obeys 18 (printing 105) (S_low 2 (printing 104) ∷ U 20 ∷ O_high 104 c ∷ S 32 131070 ∷ G_jumps 26 ∷ []) refl
              (omega arith),
        )
    printed (c ∷ d ∷ ds) order last stored some few =
        let next : ℕ = printing (104 + suc (length ds)) in
        let size = locations_least z in let here = stored.0 in let code = stored.1 in let second = at2 in
        let rest = printed (d ∷ ds) next (Some c) stored.2 (omega arith) (omega arith) in (
          rest.0,
          Path-counted (followed (obeys 18 (printing (104 + suc (suc (length ds)))) (S_low 2 next ∷ U 20
              ∷ O_high (104 + suc (length ds)) c ∷ S 32 (2 * length ds) ∷ G_stays 26 ∷ A 32 next ∷ E_jumps 18 ∷ []) refl
              (omega arith)) rest.1) (omega arith),
        )

  -- ---- from the entry, with the number of letters and the letters on the tape, to the stop

  abbrev pub entering : List ℕ → Moment
  entering cs = at 0 m.words 0 (work 0 0 0 0) (length cs ∷ cs) m.last

  pub mirror_stops : (c : ℕ) (cs : List ℕ) → AreCodes (c ∷ cs) → length (c ∷ cs) ≤ 9 → length m.words ≡ 1024
      → get_or m.words 2 0 ≡ 2 → (done : ℕ)
      → ReachesStop (21 * length (c ∷ cs) + 2) (state f (entering (c ∷ cs)) done) (reverse (c ∷ cs)) 91
  mirror_stops c cs codes few all at2 done =
      let whole : List ℕ = reverse (c ∷ cs) in
      let long = length-reverse (c ∷ cs) in
      let letters = takes (c ∷ cs) [] whole m.words 0 0 0 (append-nil whole) all at2 tt codes (omega arith) (lit< tt) in
      let x : Taken whole = letters.0 in
      let small = x.small in
      let k : Work = record (work (length whole) 0 x.number x.row) { scrap = x.number } in
      let rest = printed x.words x.all x.at2 k whole 0 m.last x.stored (omega arith) (omega arith) in
      stop_counted (to_stop (along
      (on (I 0 (own 28) (suc (length cs)) refl refl refl)
      (followed letters.1
      (followed (obeys 15 x.number (T 29 ∷ A 6 (storing (length whole)) ∷ A 31 (printing (104 + length whole)) ∷ [])
      refl (omega arith)) rest.1))))
      (Z 26 Z_F refl refl) done) (omega arith)
