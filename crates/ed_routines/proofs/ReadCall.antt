-- `read`, from the library's table to what it does.
use Rattle.ed_routines.proofs.Kit.{A_F, Frame, Moment, state, Leads, Leads-path, Path, own, Holds, length_patched}
use Rattle.ed_routines.proofs.Kit.{patched, [], ap, arith, drop, get_or, length, List, refl, rules, set, true, ℕ, ◌%◌}
use Rattle.ed_routines.proofs.Kit.{◌*◌, ◌++◌, ◌+◌, ◌<◌, ◌^◌, ◌∙◌, ◌∷◌, ◌≡◌, ◌≤◌, locations_most, step, State, read}
use Rattle.ed_routines.proofs.Kit.{with_h, after_digits, digit_rows, digits_value, IsOther, caller}
use Rattle.ed_machine.proofs.Names.{length-append, ltb-true, length-set, Obeyed}
use Rattle.ed_notation.proofs.Kit.{◌≢◌, ltb-false, get_or-set_other}
use Rattle.std.proofs.lemmas.List.{get_or-set_same, nil_from_length}
use Rattle.ed_orders.specs.declared.kind.Kind.TheVariants.{I as KindI}
use Rattle.ed_machine.specs.declared.turn.Turn.TheVariants.{NoTape}
use Rattle.ed_machine.proofs.Kit.Orders.{Named-at, step-word}
use Rattle.ed_machine.proofs.Kit.Window.{get_below, get_above}
use Rattle.ed_routines.specs.Returns.{HasRead, KeepsBut, Waits}
use Rattle.ed_routines.proofs.Called.{Call, IsCalled, image, holds_h, get_or-kept, call_of, state-begins}
use Rattle.ed_routines.proofs.Read.{Work, Around, Digits, none, more, cells, run, Path-whole, until_end, worked}
use Rattle.ed_routines.proofs.Read.{opened_work, last_work}
use Rattle.std.proofs.lemmas.Grind.{common_steps}

-- a tape is its digit rows and the rows after them
pub split : (rows : List ℕ) → rows ≡ digit_rows rows ++ after_digits rows
split [] = refl
split (row ∷ rows) = search (rules, split rows)

are_digits : (rows : List ℕ) → Digits (digit_rows rows)
are_digits [] = none
are_digits (row ∷ rows) = search (rules, none, more, ltb-true, are_digits rows)

-- the row after digit rows is an ending row
is_ending : (rows : List ℕ) (c : ℕ) (rest : List ℕ) → after_digits rows ≡ c ∷ rest → 10 ≤ c
is_ending [] c rest e = cc
is_ending (row ∷ rows) c rest e = search (rules, ltb-false, is_ending rows c rest)

-- if all rows are digit rows, no row follows them
pub no_ending : (rows : List ℕ) → length (digit_rows rows) ≡ length rows → after_digits rows ≡ []
no_ending rows all =
    let whole = ap length (split rows) in
    nil_from_length (after_digits rows) (omega (arith, whole, length-append (digit_rows rows) (after_digits rows)))

-- if some row is not a digit row, the first such row follows them
pub has_ending : (rows : List ℕ) → length (digit_rows rows) ≢ length rows
    → after_digits rows ≡ get_or rows (length (digit_rows rows)) 0 ∷ drop 1 (after_digits rows)
has_ending rows other = let whole = split rows in grind (arith, common_steps)

module _ {b h top : ℕ} {s : State} (o : IsCalled read (with_h h) b h top s) where
  abbrev call : Call 24 0
  call = call_of o.stands.low o.within

  abbrev f : Frame 24 0
  f = call.frame

  around : Around call h s.store.words
  around = search rules

  abbrev ds : List ℕ
  ds = digit_rows s.tape

  image_holds : Holds (image read b (h ∷ [])) s.store.words b
  image_holds = holds_h o.stands o.outside refl

  abbrev first : Work
  first = record {
    at19 = get_or s.store.words (b + 19) 0;
    at21 = get_or s.store.words (b + 21) 0;
    at22 = get_or s.store.words (b + 22) 0;
    at23 = get_or s.store.words (b + 23) 0;
  }

  starts : (rows : List ℕ) → s.tape ≡ rows
      → state f (run call h s.store.words first (A_F + 2 * caller s) 0 rows) s.orders ≡ s
  starts rows tape = rw (← tape) (state-begins (h ∷ []) o.stands o.within o.all image_holds)

  -- a word outside the working locations is unchanged, whatever was written at h
  stays : (v : ℕ) (w : Work) (i : ℕ) → i ≢ h → IsOther read b i
      → get_or (patched 0 (set s.store.words h v) b (cells b h w)) i 0 ≡ get_or s.store.words i 0
  stays v w i other free =
      get_or-kept (h ∷ []) free (set s.store.words h v) (cells b h w) refl refl still
      ∙ get_or-set_other s.store.words h i v 0 other
    where
      still : Holds (image read b (h ∷ [])) (set s.store.words h v) b
      still j l = let here = image_holds j l in let beside = o.outside.beside in search (rules, get_or-set_other)

  -- the word at h is not one of the routine's
  at_h : (ws : List ℕ) (w : Work) → get_or (patched 0 ws b (cells b h w)) h 0 ≡ get_or ws h 0
  at_h ws w = search (rules, get_below, cells, get_above)

  -- if an ending row follows the digit rows
  module _ {c : ℕ} {rest : List ℕ} (e : after_digits s.tape ≡ c ∷ rest) (code : c < 32) where
    rows_are : s.tape ≡ ds ++ c ∷ rest
    rows_are = rw (← e) (split s.tape)

    abbrev written : List ℕ
    written = set s.store.words h (digits_value ds % 2 ^ 17)

    abbrev left : Work
    left = last_work call h ds c first

    abbrev end : Moment
    end = record (run call h written left 0 0 rest) { counter = caller s + 2 }

    path : Path f (11 + 13 * length ds)
        (run call h s.store.words first (A_F + 2 * caller s) 0 (ds ++ c ∷ rest)) [] end
    path = Path-whole call h first rest around (are_digits s.tape) (is_ending s.tape c rest e) code

    abbrev pub last : State
    last = record s {
      store = record { words = patched 0 written b (cells b h left); sandwich = s.store.sandwich };
      acc = 0;
      counter = caller s + 2;
      tape = rest;
      orders = s.orders + (11 + 13 * length ds);
    }

    pub all_last : length last.store.words ≡ 1024
    all_last = search (rules, locations_most, length-set, length_patched)

    -- that many orders read the rows and lead to the order after the call
    pub leads_to : Leads (11 + 13 * length ds) s [] last
    leads_to = rw (starts (ds ++ c ∷ rest) rows_are) at (Leads-path path s.orders)

    module _ (t : State) (is : t ≡ last) where
      pub has_read : HasRead h s t
      has_read =
          let size = locations_most s.size in
          let below = o.outside.below in
          let all = o.all in
          rw is (record {
            number = at_h written left ∙ get_or-set_same s.store.words h (digits_value ds % 2 ^ 17) 0 (omega arith);
            returned = rw e refl;
          })

      pub keeps : KeepsBut h read b s t
      keeps = rw is (record { words = λ i other free. stays (digits_value ds % 2 ^ 17) left i other free })

  -- if no ending row does
  module _ (e : after_digits s.tape ≡ []) where
    rows_are_all : s.tape ≡ ds ++ []
    rows_are_all = rw (← e) (split s.tape)

    abbrev so_far : Work
    so_far = worked 0 ds (opened_work call h first)

    path_to_end : Path f (3 + 13 * length ds)
        (run call h s.store.words first (A_F + 2 * caller s) 0 (ds ++ [])) []
        (run call h s.store.words so_far 0 3 [])
    path_to_end = until_end call h first around (are_digits s.tape)

    abbrev pub waiting : State
    waiting = record s {
      store = record { words = patched 0 s.store.words b (cells b h so_far); sandwich = s.store.sandwich };
      acc = 0;
      counter = b + 3;
      tape = [];
      orders = s.orders + (3 + 13 * length ds);
    }

    -- that many orders read the rows and lead to the order that waits for one more
    pub leads_to_end : Leads (3 + 13 * length ds) s [] waiting
    leads_to_end = rw (starts (ds ++ []) rows_are_all) at (Leads-path path_to_end s.orders)

    blocked : (step waiting).turn ≡ NoTape
    blocked =
        let r : Moment = run call h s.store.words so_far 0 3 [] in
        let w = Named-at f r 3 8 (own 22) true refl refl in
        ap (λ (x : Obeyed). x.turn) (step-word f r KindI w.w (b + 4) (s.orders + (3 + 13 * length ds)) w.is)

    module _ (t : State) (is : t ≡ waiting) where
      pub waits : Waits b h s t
      waits = rw is (record { blocked = blocked; number = at_h s.store.words so_far; is = refl })

      pub keeps_waiting : KeepsBut h read b s t
      keeps_waiting = rw is (record {
        words = λ i other free. get_or-kept (h ∷ []) free s.store.words (cells b h so_far) refl refl image_holds;
      })
