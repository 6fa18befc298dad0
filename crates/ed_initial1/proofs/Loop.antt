-- What the loop of the check keeps, and what each row does to it.
use Rattle.ed_initial1.proofs.Kit.{ne_eqb, length-append, number_more, [], ap, arith, Bool, drop, get_or, if◌then◌else◌}
use Rattle.ed_initial1.proofs.Kit.{length, List, lit≤, nat_eq, None, Option, refl, Some, subst, sym, ℕ, ◌%◌, ◌*◌, ◌++◌}
use Rattle.ed_initial1.proofs.Kit.{◌+◌, ◌<◌, ◌^◌, ◌∙◌, ◌∷◌, ◌≡◌, ◌≤◌, digit, digits_number, is_none, IsFault1}
use Rattle.ed_initial1.proofs.Kit.{ReachesEntry1, Tape, Begun1, costs1, ending_row, Item1, spelled_rows1, word1, words}
use Rattle.ed_initial1.proofs.Kit.{row_effect1, Tape1Cause, EndOfTape, PartialItem1, RowEffect1, Ended, Longer, Refused}
use Rattle.ed_initial1.proofs.Kit.{rules}
use Rattle.std.proofs.Common.{◌≢◌}
use Rattle.std.proofs.Math.ListN.{drop_of_length-le}
use Rattle.ed_notation.proofs.Loop.{next_row}
use Rattle.ed_initial1.specs.Checks.{Accepts1}
use Rattle.ed_initial1.specs.Items.{cost_of1}
use Rattle.ed_initial1.proofs.Opened.{length_words}
use Rattle.ed_initial1.proofs.Reading.{Here, part_of, longer, began, ended, end_of, Breaks1-faulty, TakenMeans}
use Rattle.ed_initial1.proofs.Reading.{taken_means, item_more, begins_more, items_more, length_spelled, Here-began}
use Rattle.ed_initial1.proofs.Reading.{Here-longer, Here-ended}
use Rattle.ed_initial1.proofs.Unique.{no_fault, fault_of}
use Rattle.ed_initial1.proofs.Whole.{costs_fit}

-- the orders of a part of an item
abbrev part_cost : Option Begun1 → ℕ
part_cost None = 0
part_cost (Some b) = 5 + 10 * length b.digits

abbrev item_of : Option Begun1 → Option PartialItem1
item_of None = None
item_of (Some b) = Some (part_of b)

-- the loop before a row: what was read so far
pub record StandsAt (rows : List ℕ) (row : ℕ) (ws : List ℕ) (orders end : ℕ) (item : Option PartialItem1) : Type 0 where
  pub before : List Item1
  pub part : Option Begun1
  pub here : Here rows row before part (drop row rows)
  pub words_are : ws ≡ words before
  pub orders_are : orders ≡ 4 + costs1 before + part_cost part
  pub end_is : end ≡ end_of before
  pub item_is : item ≡ item_of part
  pub few : orders ≤ 14 * row + 4

pub StandsAt-begins : (rows : List ℕ) → StandsAt rows 0 [] 4 0 None
StandsAt-begins rows = record {
  before = [];
  part = None;
  here = record { good = tt; goes_on = tt; is_part = tt; rows_are = refl; row_is = refl };
  words_are = refl;
  orders_are = refl;
  end_is = refl;
  item_is = refl;
  few = lit≤ tt;
}

at_row : (rows : List ℕ) (row c : ℕ) (before : List Item1) (part : Option Begun1)
    → Here rows row before part (drop row rows) → row < length rows
    → c ≡ get_or rows row c → Here rows row before part (c ∷ drop (row + 1) rows)
at_row rows row c before part h l is = subst (λ x. Here rows row before part x) (next_row rows row c l is) h

-- inside an item
inside : {rows : List ℕ} {row : ℕ} {ws : List ℕ} {orders end : ℕ} {p : PartialItem1}
    (s : StandsAt rows row ws orders end (Some p)) → (b : Begun1) × (s.part ≡ Some b) × (p ≡ part_of b)
inside {p = p} s = search rules

-- its number is small enough
pub number_fits : {rows : List ℕ} {row : ℕ} {ws : List ℕ} {orders end : ℕ} {p : PartialItem1}
    → StandsAt rows row ws orders end (Some p) → p.number ≤ 32767
number_fits s = let i = inside s in rw i.2 (rw i.1 at s.here).is_part.fits

pub function_row : {rows : List ℕ} {row : ℕ} {ws : List ℕ} {orders end c : ℕ} → StandsAt rows row ws orders end None
    → row < length rows → c ≡ get_or rows row c → c < 32
    → StandsAt rows (row + 1) ws (orders + 5) end (Some (record { function = c; number = 0 }))
function_row {rows} {row} {ws} {orders} {end} {c} s l is small = by_part s.part s.here s.orders_are s.item_is
  where
    by_part : (part : Option Begun1) → Here rows row s.before part (drop row rows)
        → orders ≡ 4 + costs1 s.before + part_cost part
        → None ≡ item_of part → StandsAt rows (row + 1) ws (orders + 5) end (Some (record { function = c; number = 0 }))
    by_part (Some b) h o i = absurd (cc)
    by_part None h o i =
        let g = at_row rows row c s.before None h l is in
        record {
          before = s.before;
          part = Some (began c);
          here = Here-began g small;
          words_are = s.words_are;
          orders_are = omega arith;
          end_is = s.end_is;
          item_is = refl;
          few = omega (arith, s.few);
        }

first_is : (before : List Item1) (ws : List ℕ) → ws ≡ words before → (b : Bool) → b ≡ nat_eq (length ws) 0
    → b ≡ is_none before
first_is [] ws e b h = h ∙ ap (λ x. nat_eq (length x) 0) e
first_is (i ∷ is) ws e b h = search (rules, ne_eqb)

-- an item more
words_more : (is : List Item1) (x : Item1) → words (is ++ (x ∷ [])) ≡ words is ++ (word1 x ∷ [])
words_more [] x = refl
words_more (y ∷ ys) x = ap (λ k. word1 y ∷ k) (words_more ys x)

costs_more : (is : List Item1) (x : Item1) → costs1 (is ++ (x ∷ [])) ≡ costs1 is + cost_of1 x
costs_more [] x = omega arith
costs_more (y ∷ ys) x = omega (arith, costs_more ys x)

end_more : (before : List Item1) (b : Begun1) (long : Bool) {e : Bool} {n old : ℕ} → e ≡ is_none before
    → n ≡ digits_number 0 b.digits → old ≡ end_of before → (if e then n else old) ≡ end_of (ended before b long)
end_more [] b long h k o = rw h k
end_more (y ∷ ys) b long h k o = rw h o

-- a row inside an item
module _ {rows : List ℕ} {row : ℕ} {ws : List ℕ} {orders end : ℕ} {p : PartialItem1} {c : ℕ}
    (s : StandsAt rows row ws orders end (Some p)) (l : row < length rows)
    (is : c ≡ get_or rows row c) {first : Bool} (empty : first ≡ nat_eq (length ws) 0) where
  abbrev b : Begun1
  b = (inside s).0

  part_is : p ≡ part_of b
  part_is = (inside s).2

  here : Here rows row s.before (Some b) (c ∷ drop (row + 1) rows)
  here = at_row rows row c s.before (Some b) (rw (inside s).1 at s.here) l is

  paid : orders ≡ 4 + costs1 s.before + (5 + 10 * length b.digits)
  paid = rw (inside s).1 at s.orders_are

  meant : (t : RowEffect1) → t ≡ row_effect1 first p c → TakenMeans s.before b c t
  meant t e = search (rules, first_is, part_is, taken_means)

  pub IsFault1-refused : {cause : Tape1Cause} → Refused cause ≡ row_effect1 first p c → IsFault1 rows row cause
  IsFault1-refused {cause} e =
      fault_of rows row cause (Breaks1-faulty rows row s.before (Some b) (c ∷ drop (row + 1) rows) cause here
      (meant (Refused cause) e))

  pub made_longer : {n : ℕ} → Longer n ≡ row_effect1 first p c
      → StandsAt rows (row + 1) ws (orders + 10) end (Some (record { function = p.function; number = n }))
  made_longer {n} e =
      let m = meant (Longer n) e in
      record {
        before = s.before;
        part = Some (longer b c);
        here = Here-longer here m.1 m.2;
        words_are = s.words_are;
        orders_are = omega (arith, paid, length-append b.digits (c ∷ []));
        end_is = s.end_is;
        item_is = λ k. Some (record {
          function = (part_is k).function;
          number = (m.0 ∙ sym (number_more b.digits 0 c)) k;
        });
        few = omega (arith, s.few);
      }

  abbrev all : Bool → List Item1
  all long = ended s.before b long

  module _ {long : Bool} (e : Ended long ≡ row_effect1 first p c) {w : ℕ}
      (word_is : w ≡ (4096 * p.function + 2 * p.number + digit long) % 2 ^ 17) {past : ℕ}
      (past_is : past ≡ (if first then p.number else end)) where
    abbrev x : Item1
    x = record { begun = b; long = long }

    is_end : past ≡ end_of (all long)
    is_end = search (rules, end_more, first_is, part_is)

    w_is : w ≡ word1 x
    w_is = word_is ∙ ap (λ (q : PartialItem1). (4096 * q.function + 2 * q.number + digit long) % 2 ^ 17) part_is

    ws_are : ws ++ (w ∷ []) ≡ words (all long)
    ws_are = (λ k. s.words_are k ++ (w_is k ∷ [])) ∙ sym (words_more s.before x)

    length_is : length (ws ++ (w ∷ [])) ≡ length (all long)
    length_is = ap length ws_are ∙ length_words (all long)

    costs_are : orders + 14 ≡ 4 + costs1 (all long)
    costs_are = omega (arith, paid, costs_more s.before x)

    m : TakenMeans s.before b c (Ended long)
    m = meant (Ended long) e

    row_is : row + 1 ≡ length (spelled_rows1 (all long))
    row_is = omega (arith, here.row_is, length_spelled s.before x, length-append b.digits (ending_row long ∷ []))

    pub made_ended : 31 + length (ws ++ (w ∷ [])) ≢ past
        → StandsAt rows (row + 1) (ws ++ (w ∷ [])) (orders + 14) past None
    made_ended off = record {
      before = all long;
      part = None;
      here = Here-ended long here m (λ n. off (omega (arith, n, length_is, is_end)));
      words_are = ws_are;
      orders_are = omega (arith, costs_are);
      end_is = is_end;
      item_is = refl;
      few = omega (arith, s.few);
    }

    pub made_whole : 31 + length (ws ++ (w ∷ [])) ≡ past
        → Accepts1 rows (record { orders = orders + 14; rows = row + 1; end = past; words = ws ++ (w ∷ []) })
    made_whole at =
        let t : Tape = record { end = end_of (all long); items = all long; rest = drop (row + 1) rows } in
        let count : 31 + length (all long) ≡ end_of (all long) = omega (arith, length_is, is_end, at) in
        let c : ReachesEntry1 rows t = record {
          rows_are = item_more long here m.0;
          good = items_more s.before x here.good here.is_part;
          first = (begins_more s.before b long here.goes_on m.1).0;
          count = count;
        } in
        record {
          well = no_fault rows t c;
          tape = t;
          comes = c;
          report_is = λ k. record { orders = costs_are k; rows = row_is k; end = is_end k; words = ws_are k };
          most = omega (arith, costs_fit (all long), costs_are, row_is);
        }

pub at_end : {rows : List ℕ} {row : ℕ} {ws : List ℕ} {orders end : ℕ} {item : Option PartialItem1}
    → StandsAt rows row ws orders end item → row ≡ length rows → IsFault1 rows row EndOfTape
at_end {rows} {row} s e =
    let none : drop row rows ≡ [] = drop_of_length-le rows (omega arith) in
    fault_of rows row EndOfTape
    (Breaks1-faulty rows row s.before s.part [] EndOfTape
    (subst (λ x. Here rows row s.before s.part x) none s.here) refl)
