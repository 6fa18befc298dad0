-- A started machine waits for each row of its tape that is read.
use Rattle.ed_initial1.proofs.Kit.{drop-cons, T_F, short, T_top, Leads-path, own, patched_one, [], ap, arith, Bool}
use Rattle.ed_initial1.proofs.Kit.{drop, false, get_or, length, List, lit≤, None, Option, refl, set, Some, subst, sym}
use Rattle.ed_initial1.proofs.Kit.{ℕ, ◌*◌, ◌++◌, ◌+◌, ◌/◌, ◌<◌, ◌^◌, ◌∙◌, ◌∷◌, ◌≡◌, ◌≤◌, step, State, progress}
use Rattle.ed_initial1.proofs.Kit.{state_after, Moment, patched, digits_number, IsStarted1, IsLoading, IsPart1}
use Rattle.ed_initial1.proofs.Kit.{part_rows1, AreItems, Begun1, costs1, Item1, item_number, last_of, word1, words}
use Rattle.ed_initial1.proofs.Kit.{IsQuiet1, rules}
use Rattle.ed_machine.specs.declared.turn.Turn.TheVariants.{NoTape}
use Rattle.ed_initial.specs.Walks.{later}
use Rattle.ed_initial1.specs.Waits.{RestsAfter1, Scratch1, AwaitsRow1, WaitsForRows1, part_cost1, orders_before1}
use Rattle.ed_initial1.specs.Waits.{rest1_at, waiting_place1}
use Rattle.ed_initial1.proofs.Opened.{HasItsLengths, kept, listed, begins, state-opened, drop-behind, length_words}
use Rattle.ed_initial1.proofs.Paths.{Walk, stay, on, Walk-followed, Working, Kept, moment, function_path, start_path}
use Rattle.ed_initial1.proofs.Paths.{first_placed, Walk-placed}
use Rattle.ed_initial1.proofs.Rests.{tape_of, tape_is, third, written, left, head_cost, first_word, digit_walk}
use Rattle.ed_initial1.proofs.Rests.{head_walk, back_tail, to_come}
use Rattle.ed_initial1.proofs.Walks.{state, path_of, IsQuiet1-walk}

-- ---- from one rest to another

module _ (q : Kept) where
  -- at the rest at 6, by this many orders, with these words in the store and at 25 and 31
  record Returns (k : ℕ) (start : Moment) (ws : List ℕ) (next first : ℕ) (rest : List ℕ) : Type 0 where
    working : Working
    digit0 : Bool
    acc : ℕ
    walk : Walk k start (moment q working ws digit0 acc 6 rest)
    next_is : working.at25 ≡ next
    first_is : working.at31 ≡ first

  -- items after the first one, which do not reach up to the end
  more_items : (ws : List ℕ) (w : Working) (b : Bool) (acc : ℕ) {a e : ℕ} (is : List Item1) (rest : List ℕ)
      → AreItems is
      → w.at25 ≡ T_F + 2 * a → w.at31 ≡ T_F + 2 * e → 32 ≤ a → a + length is < e → e ≤ 1023
      → Returns (costs1 is) (moment q w ws b acc 6 (tape_of is rest)) (written ws a (words is))
      (T_F + 2 * (a + length is)) w.at31 rest
  more_items ws w b acc [] rest good next end low less most = record {
    working = w;
    digit0 = b;
    acc = acc;
    walk = stay;
    next_is = omega (arith, next);
    first_is = refl;
  }
  more_items ws w b acc {a} {e} (i ∷ is) rest good next end low less most =
      let cost : costs1 (i ∷ is) ≡ head_cost i + (1 + (5 + costs1 is)) = omega arith in
      let w' : Working = record (left w i) { at25 = T_F + 2 * (a + 1) } in
      let more = more_items (set ws a (word1 i)) w' false (short (to_come q (a + 1) e)) is rest good.1 refl end
      (omega arith)
      (omega arith) most in
      record {
        working = more.working;
        digit0 = more.digit0;
        acc = more.acc;
        walk = rw cost (Walk-followed (head_walk q ws w b acc i (tape_of is rest) good.0)
            (Walk-followed (Walk-placed q (left w i) ws false i a next (low, omega arith))
            (Walk-followed (back_tail q (left w i) (a + 1) e (omega arith) end (omega arith) most) more.walk)));
        next_is = omega (arith, more.next_is);
        first_is = more.first_is;
      }

-- ---- from the first order

module _ (s : State) (store : HasItsLengths s.store) (started : IsStarted1 s) where
  abbrev ws : List ℕ
  ws = s.store.words

  abbrev q : Kept
  q = kept s

  -- at the rest at 6 after items
  record AtSix (k : ℕ) (before : List Item1) (rest : List ℕ) : Type 0 where
    working : Working
    digit0 : Bool
    acc : ℕ
    now : List ℕ
    walk : Walk k (begins s (tape_of before rest)) (moment q working now digit0 acc 6 rest)
    next_is : working.at25 ≡ T_F + 2 * (31 + length before)
    words_are : working.at31 ∷ drop 32 now ≡ words before ++ drop (31 + length before) ws

  abbrev first : Working
  first = record (listed ws) { at0 = 0 }

  abbrev digit : Bool
  digit = get_or s.store.sandwich 0 false

  start : (tape : List ℕ) → Walk 4 (begins s tape) (moment q first ws digit 0 6 tape)
  start tape = start_path q (listed ws) ws digit s.acc s.multiplier tape

  items : (before : List Item1) (rest : List ℕ) → AreItems before → IsLoading before
      → AtSix (4 + costs1 before) before rest
  items [] rest good goes = record {
    working = first;
    digit0 = digit;
    acc = 0;
    now = ws;
    walk = start rest;
    next_is = refl;
    words_are = sym (drop-cons ws 31 0 (omega (arith, store.words)));
  }
  items (i ∷ is) rest good goes =
      let e = item_number i in
      let less = goes.1 in
      let most = goes.0.high in
      let end = first_word e i goes.0 in
      let cost : 4 + costs1 (i ∷ is) ≡ 4 + (head_cost i + (1 + (5 + costs1 is))) = omega arith in
      let then : Working = record (left first i) { at31 = word1 i } in
      let w : Working = record then { at25 = T_F + 2 * 32 } in
      let more = more_items q ws w false (short (to_come q 32 e)) {a = 32} {e = e} is rest good.1 refl end (lit≤ tt)
      (omega arith) most in
      let last : 32 + length (words is) ≡ 31 + length (i ∷ is) = omega (arith, length_words is) in
      record {
        working = more.working;
        digit0 = more.digit0;
        acc = more.acc;
        now = written ws 32 (words is);
        walk = rw cost (Walk-followed (start (tape_of (i ∷ is) rest))
            (Walk-followed (head_walk q ws first digit 0 i (tape_of is rest) good.0)
            (Walk-followed (first_placed q (left first i) ws false i refl)
            (Walk-followed (back_tail q then 32 e (omega arith) end (omega arith) most) more.walk))));
        next_is = omega (arith, more.next_is);
        words_are = ap (λ x. x ∷ drop 32 (written ws 32 (words is))) more.first_is
            ∙ ap (λ x. word1 i ∷ x) (drop-behind ws 32 (words is) (omega (arith, store.words, length_words is)))
            ∙ ap (λ n. word1 i ∷ (words is ++ drop n ws)) last;
      }

  -- the words that are left open
  abbrev scratch : Working → Bool → Scratch1
  scratch w b = record { at0 = w.at0; at1 = w.at1; at2 = w.at2; at3 = w.at3; digit0 = b }

  -- a rest, as the definitions write it
  shown : (k : ℕ) (before : List Item1) (rest : List ℕ) (w : Working) (b : Bool) (now : List ℕ) (place : ℕ)
      → w.at25 ≡ T_F + 2 * (31 + length before)
      → w.at31 ∷ drop 32 now ≡ words before ++ drop (31 + length before) ws
      → state (moment q w now b 0 place rest) (s.orders + k)
      ≡ rest1_at place (scratch w b) before (later k rest s)
  unfolding patched
  shown k before rest w b now place next are = search (rules, patched_one)

  -- at the order that reads a row
  record Arrives (k : ℕ) (before : List Item1) (part : Option Begun1) (tape rest : List ℕ) : Type 0 where
    at : Moment
    walk : Walk k (begins s tape) at
    rests : RestsAfter1 (later k rest s) before part (state at (s.orders + k))

  by_part : {k : ℕ} {before : List Item1} (part : Option Begun1) (rest : List ℕ) → IsPart1 part
      → AtSix k before (part_rows1 part ++ rest)
      → Arrives (k + part_cost1 part) before part (tape_of before (part_rows1 part ++ rest)) rest
  by_part {k} {before} None rest is six =
      let w : Working = record six.working { at0 = six.acc / 2 ^ 54 } in
      record {
        at = moment q w six.now six.digit0 0 7 rest;
        walk = Walk-followed six.walk (on (T_top 6 (own 0) _ refl refl) refl stay);
        rests = (scratch w six.digit0, shown _ before rest w six.digit0 six.now 7 six.next_is six.words_are);
      }
  by_part {k} {before} (Some b) rest is six =
      let ds = b.digits in
      let begun : Working = record six.working { at0 = 4096 * b.function } in
      let w : Working = record begun {
        at1 = digits_number 0 ds;
        at2 = last_of six.working.at2 ds;
        at3 = third six.working.at3 ds;
      } in
      record {
        at = moment q w six.now false 0 11 rest;
        walk = Walk-followed six.walk (Walk-followed (function_path q six.working six.now six.digit0 six.acc
            b.function (ds ++ rest)
            is.function) (digit_walk q begun ds is.digits is.fits));
        rests = (w.at2, w.at3, shown _ before rest w false six.now 11 six.next_is six.words_are);
      }

  waits_by : {k : ℕ} {before : List Item1} {part : Option Begun1} {rest : List ℕ} → Arrives k before part s.tape rest
      → AwaitsRow1 s k before part rest
  waits_by {k} {before} {part} {rest} a =
      let open_is = state-opened s store started in
      let there = Leads-path (path_of a.walk) s.orders in
      record {
        quiet = subst (λ x. IsQuiet1 k x) open_is (IsQuiet1-walk a.walk s.orders);
        silent = subst (λ x. (progress k x).codes ≡ []) open_is there.codes_are;
        rests = subst (λ (x : State). RestsAfter1 (later k rest s) before part (state_after k x)) open_is
            (subst (λ (x : State). RestsAfter1 (later k rest s) before part x) (sym there.state_is) a.rests);
      }

  pub waits : WaitsForRows1 s
  waits row r =
      let there = by_part r.part r.rest r.is_part (items r.before (part_rows1 r.part ++ r.rest) r.good r.goes_on) in
      let tape = sym (r.rows_are ∙ tape_is r.before (part_rows1 r.part ++ r.rest)) in
      waits_by (subst (λ x. Arrives (orders_before1 r) r.before r.part x r.rest) tape there)

-- where the machine waits, it needs a row
pub needs_row : {s : State} {k : ℕ} {before : List Item1} (part : Option Begun1) → AwaitsRow1 s k before part []
    → (step (state_after k s)).turn ≡ NoTape
unfolding step
needs_row None w = ap (λ (x : State). (step x).turn) w.rests.1
needs_row (Some b) w = ap (λ (x : State). (step x).turn) w.rests.2

-- it stands at 7 or 11, and has obeyed as many orders more
pub waits_at : {s : State} {k : ℕ} {before : List Item1} (part : Option Begun1) {rest : List ℕ}
    → AwaitsRow1 s k before part rest
    → ((state_after k s).counter ≡ waiting_place1 part) × ((state_after k s).orders ≡ s.orders + k)
waits_at None w = (ap (λ (x : State). x.counter) w.rests.1, ap (λ (x : State). x.orders) w.rests.1)
waits_at (Some b) w = (ap (λ (x : State). x.counter) w.rests.2, ap (λ (x : State). x.orders) w.rests.2)
