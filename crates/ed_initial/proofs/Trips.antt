-- From one rest to another over rows that break no rule: a part of an item, an item, and items one after the other.
use Rattle.ed_initial.proofs.Kit.{rules, Moment, RowKind, PartialItem, RowEffect, Ended, Entered, Longer, Placed}
use Rattle.ed_initial.proofs.Kit.{Refused, RowLaw-seen, Reader, [], ap, arith, Bool, false, length, List, None, refl}
use Rattle.ed_initial.proofs.Kit.{Some, subst, suc, sym, true, ℕ, ◌*◌, ◌++◌, ◌+◌, ◌∙◌, ◌∷◌, ◌≡◌, ◌≤◌, digit, costs}
use Rattle.ed_initial.proofs.Kit.{end_cost, NotationState, over, Begun, digits_number, IsBegun, row_kind, rows_of}
use Rattle.ed_initial.proofs.Kit.{spelled_rows, part_of, RowLaw, IsNotationState, Scratch, scratch_of, working}
use Rattle.ed_notation.proofs.Kit.{append_assoc, true≢false, AreRead, AreSound, EndsSound, act, begun_cost, cost_of}
use Rattle.ed_notation.proofs.Kit.{ending_effect, entering, fold, is_entry, AreDigits, begun_rows, ends, IsWritten}
use Rattle.ed_notation.proofs.Kit.{item, item_of, items, mark_rows, Written}
use Rattle.ed_notation.proofs.Follow.{number_le, seen}
use Rattle.ed_notation.proofs.Rows.{as_part, first}
use Rattle.ed_notation.proofs.Sound.{no_rule}
use Rattle.ed_initial.proofs.Goes.{Goes, Goes-none, Goes-joined, Goes-whole}
use Rattle.ed_initial.proofs.Inside.{between, inside, AtRow, Closes, Follows, After-follows}
use Rattle.ed_initial.proofs.Itemwise.{is_directive, is_part}
use Rattle.ed_initial.proofs.Paths.{Kept, state, ToRest, function_path, digit_path, mark_path}

-- k orders that go on, from a moment to another, however many came before
pub record Trip (f : Kept) (k : ℕ) (a b : Moment) : Type 0 where
  pub goes : (o : ℕ) → Goes k (state f a o) (state f b (o + k))

-- no orders
pub here : {f : Kept} {a : Moment} → Trip f 0 a a
here {f} {a} = record { goes = λ o. let e : o + 0 ≡ o = omega arith in rw e (Goes-none (state f a o)) }

-- the orders of a path
pub by_path : {f : Kept} {k : ℕ} {a b : Moment} → ToRest f k a b → Trip f k a b
by_path path = record { goes = λ o. Goes-whole path o }

-- two trips, one after the other
pub Trip-further : {f : Kept} {a b c : Moment} {j k : ℕ} → Trip f j a b → Trip f k b c → Trip f (j + k) a c
Trip-further {f} {a} {b} {c} {j} {k} p q = record {
  goes = λ o.
      let e : o + (j + k) ≡ o + j + k = omega arith in
      rw e (Goes-joined j k (state f a o) (state f b (o + j)) (state f c (o + j + k)) (p.goes o) (q.goes (o + j)));
}

module _ (f : Kept) (ws : List ℕ) where
  -- from inside an item to inside it, some rows later
  pub record Within (notation : NotationState) (part next : PartialItem) (at1 at20 : ℕ) (rows rest : List ℕ) (k : ℕ) :
      Type 0 where
    pub one : ℕ
    pub twenty : ℕ
    pub trip : Trip f k (inside f ws part at1 at20 notation rows) (inside f ws next one twenty notation rest)

  -- a part of an item without a mark
  abbrev unmarked : ℕ → ℕ → PartialItem
  unmarked function number = record { function = function; number = number; mark = false; blank = false }

  -- digit rows
  digits : (notation : NotationState) (function n at1 at20 : ℕ) (ds rest : List ℕ) → AreDigits ds
      → digits_number n ds ≤ 32767
      → Within notation (unmarked function n) (unmarked function (digits_number n ds)) at1 at20 (ds ++ rest) rest
      (9 * length ds)
  digits notation function n at1 at20 [] rest are fits = record { one = at1; twenty = at20; trip = here }
  digits notation function n at1 at20 (d ∷ ds) rest are fits =
      let small : 10 * n + d ≤ 32767 = omega (arith, fits, number_le ds (10 * n + d)) in
      let low = are.0 in
      let w = working (scratch_of (unmarked function n) at1 at20) notation in
      let path : ToRest f 9 (inside f ws (unmarked function n) at1 at20 notation (d ∷ (ds ++ rest)))
      (inside f ws (unmarked function (10 * n + d)) d at20 notation (ds ++ rest)) =
      digit_path f w (over notation.placed ws) false low (omega arith) (omega arith) (omega arith) in
      let more = digits notation function (10 * n + d) d at20 ds rest are.1 fits in
      let e : 9 * suc (length ds) ≡ 9 + 9 * length ds = omega arith in
      record { one = more.one; twenty = more.twenty; trip = rw e (Trip-further (by_path path) more.trip) }

  -- a mark, or none
  marks : (notation : NotationState) (function n at1 at20 : ℕ) (m : Bool) (rest : List ℕ) → n ≤ 32767
      → Within notation (unmarked function n) (record (unmarked function n) { mark = m }) at1 at20 (mark_rows m ++ rest)
      rest (15 * digit m)
  marks notation function n at1 at20 false rest fits = record { one = at1; twenty = at20; trip = here }
  marks notation function n at1 at20 true rest fits =
      let w = working (scratch_of (unmarked function n) at1 at20) notation in
      let path : ToRest f 15 (inside f ws (unmarked function n) at1 at20 notation (11 ∷ rest))
      (inside f ws (record (unmarked function n) { mark = true }) 11 12342 notation rest) =
      mark_path f w (over notation.placed ws) false refl (omega arith) (omega arith) in
      record { one = 11; twenty = 12342; trip = by_path path }

  -- from between two items to inside one
  pub record Begins (scratch : Scratch) (notation : NotationState) (b : Begun) (rest : List ℕ) : Type 0 where
    pub one : ℕ
    pub twenty : ℕ
    pub trip : Trip f (begun_cost b) (between f ws scratch notation (begun_rows b ++ rest))
        (inside f ws (as_part b) one twenty notation rest)

  pub Begins-begun : (scratch : Scratch) (notation : NotationState) (b : Begun) (rest : List ℕ) → IsBegun b
      → Begins scratch notation b rest
  Begins-begun scratch notation b rest good =
      let after = mark_rows b.mark ++ rest in
      let n = digits_number 0 b.digits in
      let path : ToRest f 6 (between f ws scratch notation (b.function ∷ (b.digits ++ after)))
      (inside f ws (part_of b.function) scratch.at1 scratch.at20 notation (b.digits ++ after)) =
      function_path f (working scratch notation) (over notation.placed ws) scratch.digit40 b.function
      (b.digits ++ after) good.function in
      let p = digits notation b.function 0 scratch.at1 scratch.at20 b.digits after good.digits good.fits in
      let q = marks notation b.function n p.one p.twenty b.mark rest good.fits in
      let rows : b.function ∷ (b.digits ++ after) ≡ begun_rows b ++ rest =
      ap (λ x. b.function ∷ x) (sym (append_assoc b.digits (mark_rows b.mark) rest)) in
      record {
        one = q.one;
        twenty = q.twenty;
        trip = subst (λ x. Trip f (begun_cost b) (between f ws scratch notation x)
            (inside f ws (as_part b) q.one q.twenty notation rest)) rows
            (Trip-further (Trip-further (by_path path) p.trip) q.trip);
      }

  -- from between two items to between two items
  pub record Passes (scratch : Scratch) (notation next : NotationState) (rows rest : List ℕ) (k : ℕ) : Type 0 where
    pub left : Scratch
    pub good : IsNotationState next
    pub trip : Trip f k (between f ws scratch notation rows) (between f ws left next rest)

  -- the ending row of an item that is not the entry item, if it breaks no rule
  module _ (notation : NotationState) (b : Begun) (at1 at20 c : ℕ) (rest : List ℕ) where
    abbrev row : AtRow
    row = record {
      kept = f;
      words = ws;
      notation = notation;
      part = as_part b;
      at1 = at1;
      at20 = at20;
      code = c;
      rows = rest;
    }

    abbrev kind : RowKind
    kind = row_kind c

    closes_by : (t : RowEffect) → RowLaw kind f.size ws notation b c t → Follows row t
        → first kind f.size ws notation b c ≡ None → ends kind b ≡ true → entering kind notation ≡ false
        → Closes row (ending_effect kind ws notation (item_of b c)) (end_cost kind notation)
    closes_by (Refused cause) h does s e n = let q : Some cause ≡ None = sym h ∙ s in absurd (cc)
    closes_by (Longer next k) h does s e n = absurd (true≢false (sym e ∙ h.1))
    closes_by (Ended setting k) h does s e n = search rules
    closes_by (Placed at word) h does s e n = search rules
    closes_by (Entered at) h does s e n = absurd (true≢false (sym h.1.entered ∙ n))

    closes : IsNotationState notation → IsBegun b → first kind f.size ws notation b c ≡ None → ends kind b ≡ true
        → entering kind notation ≡ false
        → Closes row (ending_effect kind ws notation (item_of b c)) (end_cost kind notation)
    closes good begun =
        closes_by (seen f.size ws notation b c) (RowLaw-seen f.size ws notation b c (is_directive notation good) begun)
        (After-follows row good (is_part b begun))

  -- an item that is not the entry item
  one_item : (scratch : Scratch) (notation : NotationState) (w : Written) (rest : List ℕ) → IsNotationState notation
      → IsWritten w → is_entry notation (item w) ≡ false → EndsSound f.size ws notation w
      → Passes scratch notation (act ws notation (item w)) (rows_of w ++ rest) rest (cost_of notation w)
  one_item scratch notation w rest good written goes sound =
      let b = w.begun in
      let p : Reader = record { size = f.size; words = ws; row = 0; cost = 0; notation = notation } in
      let begun = Begins-begun scratch notation b (w.end ∷ rest) written.begun in
      let c = closes notation b begun.one begun.twenty w.end rest good written.begun (no_rule p w sound) written.ended
      goes in
      let rows : begun_rows b ++ (w.end ∷ rest) ≡ rows_of w ++ rest =
      sym (append_assoc (begun_rows b) (w.end ∷ []) rest) in
      record {
        left = c.scratch;
        good = c.notation_is;
        trip = subst (λ x. Trip f (cost_of notation w) (between f ws scratch notation x)
            (between f ws c.scratch (act ws notation (item w)) rest)) rows
            (Trip-further begun.trip (by_path c.path));
      }

  -- items, none of them the entry item
  pub whole_items : (scratch : Scratch) (notation : NotationState) (before : List Written) (rest : List ℕ)
      → IsNotationState notation → AreRead ws notation before → AreSound f.size ws notation before
      → Passes scratch notation (fold ws notation (items before)) (spelled_rows before ++ rest) rest
      (costs ws notation before)
  whole_items scratch notation [] rest good are sound = record { left = scratch; good = good; trip = here }
  whole_items scratch notation (w ∷ ws') rest good are sound =
      let p = one_item scratch notation w (spelled_rows ws' ++ rest) good are.0 are.1 sound.0 in
      let next = act ws notation (item w) in
      let q = whole_items p.left next ws' rest p.good are.2 sound.1 in
      let rows : rows_of w ++ (spelled_rows ws' ++ rest) ≡ spelled_rows (w ∷ ws') ++ rest =
      sym (append_assoc (rows_of w) (spelled_rows ws') rest) in
      record {
        left = q.left;
        good = q.good;
        trip = subst (λ x. Trip f (costs ws notation (w ∷ ws')) (between f ws scratch notation x)
            (between f ws q.left (fold ws next (items ws')) rest)) rows
            (Trip-further p.trip q.trip);
      }
