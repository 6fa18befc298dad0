-- What the Initial Orders do with a row inside an item is what the notation says of it: from one rest to the next, or
-- to the entry. One lemma for each kind of row.
use Rattle.ed_initial.proofs.Kit.{rules, A_F, E_F, Moment, ◌^◌, value_of, RowKind, PartialItem, RowEffect, Ended}
use Rattle.ed_initial.proofs.Kit.{Entered, Longer, Placed, Refused, ap, arith, Bool, false, List, lit≤, nat_le, nat_lt}
use Rattle.ed_initial.proofs.Kit.{refl, subst, sym, true, ℕ, ◌%◌, ◌*◌, ◌+◌, ◌<◌, ◌∷◌, ◌≡◌, ◌≤◌, locations, digit}
use Rattle.ed_initial.proofs.Kit.{NotationState, over, row_kind, entry_by, placed_by, row_effect, set_by, setting_of}
use Rattle.ed_initial.proofs.Kit.{entry_words, IsNotationState, IsPartSoFar, Scratch, scratch_of, working, Working}
use Rattle.ed_notation.proofs.Kit.{leb-false, ltb-false, if_means, locations_most, is_place, address, control_of}
use Rattle.ed_notation.proofs.Kit.{letter_action_of, letter_effect}
use Rattle.ed_notation.specs.Reading.{digit_effect, mark_effect, kay_effect, zed_effect, blank_effect, part_word}
use Rattle.ed_notation.specs.declared.kind.Control.{Control}
use Rattle.ed_notation.specs.declared.kind.Control.TheVariants.{Directive, ThetaByBlank, ThetaByG, Neither}
use Rattle.ed_notation.specs.declared.kind.LetterAction.{LetterAction}
use Rattle.ed_notation.specs.declared.kind.LetterAction.TheVariants.{Places, Enters, Nowhere, Unset}
use Rattle.ed_notation.specs.declared.kind.RowKind.TheVariants.{Digit, Mark, Zed, Kay, Blank, Letter, Other}
use Rattle.ed_notation.proofs.Tests.{RowMeans, row_means, ControlMeans, control_means, AimMeans, aim_means}
use Rattle.ed_notation.proofs.Tests.{is_place_means}
use Rattle.ed_initial.proofs.Contents.{value_here}
use Rattle.ed_initial.proofs.Paths.{Kept, Walk, ToRest, moment, Enters as EntersBy, digit_path, mark_path}
use Rattle.ed_initial.proofs.Paths.{kay_directive_path, kay_theta_path, zed_directive_path, zed_theta_path, blank_path}
use Rattle.ed_initial.proofs.Paths.{IsLetter, letter_row, placed_path, entry_order}

-- the two rests
abbrev pub between : Kept → List ℕ → Scratch → NotationState → List ℕ → Moment
between f ws w notation rows = moment f (working w notation) (over notation.placed ws) w.digit40 0 34 rows

abbrev pub inside : Kept → List ℕ → PartialItem → ℕ → ℕ → NotationState → List ℕ → Moment
inside f ws part at1 at20 notation rows = moment f (working (scratch_of part at1 at20) notation)
    (over notation.placed ws)
    false 0 9 rows

-- at the entry by an item whose ending row is c
abbrev pub entered : Kept → List ℕ → PartialItem → NotationState → ℕ → ℕ → ℕ → List ℕ → Moment
entered f ws part notation c at word rows =
    moment f (entry_words (entry_by ws 0 0 notation part c rows at)) (over notation.placed ws) false
    (word * 2 ^ 54) at rows

-- a rest inside an item, with the row that comes next
pub record AtRow : Type 0 where
  pub kept : Kept
  pub words : List ℕ
  pub notation : NotationState
  pub part : PartialItem
  pub at1 : ℕ
  pub at20 : ℕ
  pub code : ℕ
  pub rows : List ℕ

module _ (row : AtRow) where
  open row use {kept as f, words as ws, notation, part, at1, at20, code as c, rows}

  abbrev here : Moment
  here = inside f ws part at1 at20 notation (c ∷ rows)

  -- the item grows
  pub record Grows (next : PartialItem) (k : ℕ) : Type 0 where
    pub one : ℕ
    pub twenty : ℕ
    pub path : ToRest f k here (inside f ws next one twenty notation rows)
    pub few : k ≤ 17
    pub part_is : IsPartSoFar next

  -- the item ends, and leaves a state of the notation
  pub record Closes (next : NotationState) (k : ℕ) : Type 0 where
    pub scratch : Scratch
    pub path : ToRest f k here (between f ws scratch next rows)
    pub few : k ≤ 17
    pub notation_is : IsNotationState next

  -- the item enters the program
  pub record Arrives (at word : ℕ) : Type 0 where
    pub middle : Moment
    pub runs : Walk f 12 here middle
    pub last : EntersBy f middle (entered f ws part notation c at word rows)

  -- what follows the row, as the notation has it
  abbrev pub Follows : RowEffect → Type 0
  Follows (Refused cause) = Unit {0}
  Follows (Longer next k) = Grows next k
  Follows (Ended setting k) = Closes (set_by setting notation) k
  Follows (Placed at word) = Closes (placed_by at word notation) 17
  Follows (Entered at) = Arrives at (part_word (over notation.placed ws) (setting_of notation) part c)

module _ (row : AtRow) (good : IsNotationState row.notation) (phase : IsPartSoFar row.part) where
  open row use {kept as f, words as ws, notation, part, at1, at20, code as c, rows}

  abbrev After : RowEffect → Type 0
  After t = Follows row t

  abbrev w : Working
  w = working (scratch_of part at1 at20) notation

  abbrev high : List ℕ
  high = over notation.placed ws

  mark_most : (b : Bool) → digit b ≤ 1
  mark_most true = lit≤ tt
  mark_most false = lit≤ tt

  unmarked : part.mark ≡ false → digit part.mark ≡ 0
  unmarked h = ap digit h

  by_digit : c < 10 → After (digit_effect part c)
  by_digit small =
      if_means After part.mark _ _ (λ _. tt) (λ m.
      if_means After (nat_lt 32767 (10 * part.number + c)) _ _ (λ _. tt) (λ n.
      let none = unmarked m in
      let fits : 10 * part.number + c ≤ 32767 = ltb-false _ _ n in
      record {
        one = c;
        twenty = at20;
        path = digit_path f w high false small (omega arith) (omega arith) (omega arith);
        few = lit≤ tt;
        part_is = record { function = phase.function; number = fits; blank = λ h. cc };
      }))

  abbrev marked : PartialItem
  marked = record part { mark = true; blank = false }

  by_mark : c ≡ 11 → After (mark_effect part)
  by_mark is =
      if_means After part.mark _ _ (λ _. tt) (λ m.
      let none = unmarked m in
      let n = phase.number in
      record {
        one = 11;
        twenty = 12342;
        path = subst (λ x. ToRest f 15 (inside f ws part at1 at20 notation (x ∷ rows))
            (inside f ws marked 11 12342 notation rows)) (sym is)
            (mark_path f w high false refl (omega arith) (omega arith));
        few = lit≤ tt;
        part_is = record { function = phase.function; number = phase.number; blank = λ h. cc };
      })

  -- the words that the item changes, after K, Z or blank
  abbrev left : ℕ → Scratch
  left end = scratch_of part end (12320 + 2 * end)

  abbrev closes : (next : NotationState) (k end : ℕ) → c ≡ end → k ≤ 17 → IsNotationState next
      → ToRest f k (inside f ws part at1 at20 notation (end ∷ rows)) (between f ws (left end) next rows)
      → Closes row next k
  closes next k end is few notation_is path = record {
    scratch = left end;
    path = subst (λ x. ToRest f k (inside f ws part at1 at20 notation (x ∷ rows)) (between f ws (left end) next rows))
        (sym is) path;
    few = few;
    notation_is = notation_is;
  }

  by_kay_theta : (u : ℕ) → (4096 * part.function + 2 * part.number + notation.directive) % 2 ^ 17 ≡ u → c ≡ 14
      → digit part.mark ≡ 0
      → 16 ≤ part.function → part.number ≤ 1023 → Closes row (record notation { theta = u }) 16
  by_kay_theta u sum is none least fits =
      let f32 = phase.function in
      closes (record notation { theta = u }) 16 14 is (lit≤ tt) (omega (arith, good))
      (kay_theta_path f w high false (4096 * part.function + 2 * part.number) (omega arith)
      (omega arith, omega arith, omega arith) sum)

  by_kay : (k : Control) → ControlMeans k part.function → c ≡ 14 → After (kay_effect k (setting_of notation) part)
  by_kay Directive means is =
      if_means After part.mark _ _ (λ _. tt) (λ m.
      if_means After (nat_lt 1023 part.number) _ _ (λ _. tt) (λ n.
      let none = unmarked m in
      let fits : part.number ≤ 1023 = ltb-false _ _ n in
      let u = 4096 * part.function + 2 * part.number in
      closes (record notation { directive = u }) 16 14 is (lit≤ tt) (omega (arith, good))
      (kay_directive_path f w high false u rows (omega arith) (omega arith))))
  by_kay ThetaByBlank means is = search (rules, by_kay_theta)
  by_kay ThetaByG means is = search (rules, by_kay_theta)
  by_kay Neither means is = if_means After part.mark _ _ (λ _. tt) (λ _. tt)

  by_zed : (k : Control) → ControlMeans k part.function → c ≡ 13 → After (zed_effect k (setting_of notation) part)
  by_zed Directive means is =
      let u = 4096 * part.function + 2 * part.number + notation.theta in
      if_means After part.mark _ _ (λ _. tt) (λ m.
      if_means After (is_place u) _ _ (λ p.
      let none = unmarked m in
      let place = is_place_means u p in
      let even = place.even in
      let range = place.range in
      closes (record notation { directive = u }) 17 13 is (lit≤ tt) (omega (arith, good))
      (zed_directive_path f w high false u rows (omega arith) (omega arith))) (λ _. tt))
  by_zed ThetaByBlank means is =
      let u = (65536 + 2 * part.number + notation.theta + notation.directive) % 2 ^ 17 in
      if_means After part.mark _ _ (λ _. tt) (λ m.
      if_means After (nat_le 65536 (2 * part.number + notation.theta)) _ _ (λ _. tt) (λ n.
      let none = unmarked m in
      let fits : 2 * part.number + notation.theta < 65536 = leb-false _ _ n in
      closes (record notation { theta = u }) 17 13 is (lit≤ tt) (omega (arith, good))
      (zed_theta_path f w high false (omega arith) (omega arith) (omega arith))))
  by_zed ThetaByG means is = if_means After part.mark _ _ (λ _. tt) (λ _. tt)
  by_zed Neither means is = if_means After part.mark _ _ (λ _. tt) (λ _. tt)

  by_blank : c ≡ 16 → After (blank_effect (setting_of notation) part)
  by_blank is =
      if_means After part.blank _ _ (λ b.
      let new = phase.blank b in
      let none = unmarked new.1 in
      let zero = new.0 in
      closes (record notation { theta = notation.directive }) 14 16 is (lit≤ tt) (omega (arith, good))
      (blank_path f w high false rows (omega arith) (omega (arith, good)))) (λ _. tt)

  -- the changing words once a code letter has been read
  abbrev lettered : Working
  lettered = record w { at1 = c; at20 = 114736 + 2 * c }

  abbrev value : ℕ
  value = value_of (over notation.placed ws) notation.theta c

  abbrev word : ℕ
  word = part_word (over notation.placed ws) (setting_of notation) part c

  letter : 17 ≤ c → c < 32 → IsLetter f w high false c value ((w.at0 + value) % 2 ^ 17) word
  letter low code = search (rules, mark_most, value_here)

  by_letter : (k : LetterAction) → AimMeans k notation.directive → 17 ≤ c → c < 32
      → After (letter_effect f.size k (setting_of notation) word)
  by_letter Places means low code =
      let a = address notation.directive in
      if_means After (nat_lt a 44) _ _ (λ _. tt) (λ p.
      if_means After (nat_le (locations f.size) a) _ _ (λ _. tt) (λ q.
      let above : 44 ≤ a = ltb-false _ _ p in
      let below : a < locations f.size = leb-false _ _ q in
      let last : a < 1024 = omega (arith, locations_most f.size) in
      record {
        scratch = scratch_of part c (114736 + 2 * c);
        path = placed_path f w high false a (letter low code) (omega (arith, good, means)) (above, below);
        few = lit≤ tt;
        notation_is = omega (arith, good);
      }))
  by_letter Enters means low code =
      let a = address notation.directive in
      if_means After (nat_le (locations f.size) a) _ _ (λ _. tt) (λ p.
      if_means After (nat_le 65536 word) _ _ (λ _. tt) (λ q.
      if_means After (nat_lt a 44) _ _ (λ _. tt) (λ r.
      let below : a < locations f.size = leb-false _ _ p in
      let last : a < 1024 = omega (arith, locations_most f.size) in
      let positive : word < 65536 = leb-false _ _ q in
      let twenty : 114736 + 2 * c ≡ A_F + 2 * (24 + c) = omega arith in
      let order : notation.directive ≡ E_F + 2 * a = omega (arith, good) in
      record {
        middle = moment f lettered high false (word * 2 ^ 54) 22 rows;
        runs = letter_row f w high false (letter low code);
        last = subst (λ x. EntersBy f (moment f lettered high false (word * 2 ^ 54) 22 rows)
            (moment f x high false (word * 2 ^ 54) a rows))
            (λ i. record lettered { at20 = twenty i; at22 = order i })
            (entry_order f lettered high false word order below positive);
      })))
  by_letter Nowhere means low code = tt
  by_letter Unset means low code = tt

  by_row : (r : RowKind) → RowMeans r c → After (row_effect f.size r (over notation.placed ws)
      (setting_of notation) part c)
  by_row Digit means = by_digit means
  by_row Mark means = by_mark means
  by_row Zed means = by_zed (control_of part.function) (control_means part.function) means
  by_row Kay means = by_kay (control_of part.function) (control_means part.function) means
  by_row Blank means = by_blank means
  by_row Letter means = by_letter (letter_action_of notation.directive) (aim_means notation.directive) means.0 means.1
  by_row Other means = tt

  -- every row
  pub After-follows : After (row_effect f.size (row_kind c) (over notation.placed ws) (setting_of notation) part c)
  After-follows = by_row (row_kind c) (row_means c)
