-- What the reader does at a row inside an item, in the words of the rules.
use Rattle.ed_notation.proofs.Kit.{[], Bool, false, length-append, List, nat_le, nat_lt, None, Option, refl, Some}
use Rattle.ed_notation.proofs.Kit.{true, ℕ, ◌++◌, ◌+◌, ◌<◌, ◌∷◌, ◌≡◌, and-false, eqb-false, ltb-false, append-nil}
use Rattle.ed_notation.proofs.Kit.{locations, Size, if_means, ap, arith, nat_eq, sym, ◌*◌, ◌/◌, ◌∙◌, breaks, is_place}
use Rattle.ed_notation.proofs.Kit.{address, begun_cost, control_of, end_cost, ending_effect, entering, item_word}
use Rattle.ed_notation.proofs.Kit.{letter_action_of, NotationState, over, AreDigits, Begun, begun_rows, digits_number}
use Rattle.ed_notation.proofs.Kit.{ends, is_empty, IsBegun, item_of, row_kind, IsDirective, placed_by, row_effect}
use Rattle.ed_notation.proofs.Kit.{set_by, setting_of, TapeCause, AfterMark, BadControl, BadRow, EndOfTape}
use Rattle.ed_notation.proofs.Kit.{EntryInLoader, EntryNegative, LoaderStore, NoPlace, NumberTooLarge, StoreEnd}
use Rattle.ed_notation.proofs.Kit.{Control, Directive, Neither, ThetaByBlank, LetterAction, Enters, Nowhere, Places}
use Rattle.ed_notation.proofs.Kit.{Unset, RowKind, Blank, Digit, Kay, Letter, Mark, Other, Zed, PartialItem, RowEffect}
use Rattle.ed_notation.proofs.Kit.{Ended, Entered, Longer, Placed, Refused}
use Rattle.ed_notation.specs.Items.{is_blank_row}
use Rattle.ed_notation.proofs.Tests.{RowMeans, row_means}

abbrev first_if : Bool → TapeCause → Option TapeCause → Option TapeCause
first_if true c x = Some c
first_if false c x = x

-- the first of the causes for which the test is true
abbrev pub first_of : (TapeCause → Bool) → List TapeCause → Option TapeCause
first_of f [] = None
first_of f (c ∷ cs) = first_if (f c) c (first_of f cs)

-- all causes, in the order of their numbers
abbrev pub causes : List TapeCause
causes =
    EndOfTape ∷ BadRow ∷ NumberTooLarge ∷ AfterMark ∷ BadControl
    ∷ LoaderStore ∷ StoreEnd ∷ NoPlace ∷ EntryNegative ∷ EntryInLoader ∷ []

-- the first rule that the row breaks
abbrev pub first : RowKind → Size → List ℕ → NotationState → Begun → ℕ → Option TapeCause
first r z words notation b c = first_of (λ k. breaks k r z words notation b c) causes

-- the reader's part of an item
abbrev pub as_part : Begun → PartialItem
as_part b = record {
  function = b.function;
  number = digits_number 0 b.digits;
  mark = b.mark;
  blank = is_blank_row b;
}

-- the row is one more of the item's rows before its ending
pub record Extends (b : Begun) (c : ℕ) (part : PartialItem) (k : ℕ) : Type 0 where
  pub next : Begun
  pub good : IsBegun next
  pub part_is : part ≡ as_part next
  pub rows_are : begun_rows next ≡ begun_rows b ++ (c ∷ [])
  pub cost_is : begun_cost next ≡ begun_cost b + k

-- the row ends an item that is not an entry item
pub record EndsItem (r : RowKind) (words : List ℕ) (notation : NotationState) (b : Begun) (c : ℕ) (n : NotationState)
    (k : ℕ) : Type 0 where
  pub ended : ends r b ≡ true
  pub goes_on : entering r notation ≡ false
  pub notation_is : n ≡ ending_effect r words notation (item_of b c)
  pub cost_is : k ≡ end_cost r notation

-- the row ends the entry item
pub record IsEntry (r : RowKind) (notation : NotationState) (b : Begun) (at : ℕ) : Type 0 where
  pub ended : ends r b ≡ true
  pub entered : entering r notation ≡ true
  pub at_is : at ≡ address notation.directive
  pub cost_is : 13 ≡ end_cost r notation

abbrev pub RowLaw : RowKind → Size → List ℕ → NotationState → Begun → ℕ → RowEffect → Type 0
RowLaw r z words notation b c (Refused cause) = first r z words notation b c ≡ Some cause
RowLaw r z words notation b c (Longer part k) = (first r z words notation b c ≡ None) × (ends r b ≡ false)
    × Extends b c part k
RowLaw r z words notation b c (Ended s k) = (first r z words notation b c ≡ None)
    × EndsItem r words notation b c (set_by s notation) k
RowLaw r z words notation b c (Placed at word) =
    (first r z words notation b c ≡ None) × EndsItem r words notation b c (placed_by at word notation) 17
RowLaw r z words notation b c (Entered at) = (first r z words notation b c ≡ None) × IsEntry r notation b at

-- one digit row more
pub number_more : (ds : List ℕ) (n c : ℕ) → digits_number n (ds ++ (c ∷ [])) ≡ 10 * digits_number n ds + c
number_more [] n c = refl
number_more (d ∷ ds) n c = number_more ds (10 * n + d) c

empty_more : (ds : List ℕ) (c : ℕ) → is_empty (ds ++ (c ∷ [])) ≡ false
empty_more [] c = refl
empty_more (d ∷ ds) c = refl

pub digits_more : (ds : List ℕ) (c : ℕ) → AreDigits ds → c < 10 → AreDigits (ds ++ (c ∷ []))
digits_more [] c h k = (k, tt)
digits_more (d ∷ ds) c h k = (h.0, digits_more ds c h.1 k)

not_unset : (d : ℕ) → IsDirective d → letter_action_of d ≡ Unset → ⊥
not_unset d s =
    let P : LetterAction → Type 0 = λ a. a ≡ Unset → ⊥ in
    if_means P (nat_eq (d / 4096) 5) _ _ (λ h e. cc) (λ h.
    if_means P (nat_eq (d / 4096) 3) _ _ (λ g e. cc) (λ g.
    if_means P (nat_eq (d / 4096) 0) _ _ (λ o e. cc) (λ o e.
    omega (arith, eqb-false _ _ h, eqb-false _ _ g, eqb-false _ _ o, s.no_1, s.no_2, s.no_4, s.most))))

module _ (z : Size) (words : List ℕ) (notation : NotationState) (c : ℕ) (set : IsDirective notation.directive) where
  module _ (f : ℕ) (ds : List ℕ) where
    abbrev begun : Bool → Begun
    begun m = record { function = f; digits = ds; mark = m }

    abbrev Law : RowKind → Bool → Type 0
    Law r m = RowLaw r z words notation (begun m) c
        (row_effect z r (over notation.placed words) (setting_of notation) (as_part (begun m)) c)

    by_digit : (m x : Bool) → IsBegun (begun m) → c < 10 → nat_lt 32767 (10 * digits_number 0 ds + c) ≡ x → Law Digit m
    by_digit true x good h e = refl
    by_digit false true good h e = rw (e, e) refl
    by_digit false false good h e =
        let n = number_more ds 0 c in
        let l = length-append ds (c ∷ []) in
        rw e (
          rw e refl,
          refl,
          record {
            next = record { function = f; digits = ds ++ (c ∷ []); mark = false };
            good = record {
              function = good.function;
              digits = digits_more ds c good.digits h;
              fits = rw n (ltb-false _ _ e);
            };
            part_is = rw (n, empty_more ds c) refl;
            rows_are = ap (λ x. f ∷ x) (append-nil _ ∙ ap (λ x. x ++ (c ∷ [])) (sym (append-nil ds)));
            cost_is = omega (arith, l);
          },
        )

    by_mark : (m : Bool) → IsBegun (begun m) → c ≡ 11 → Law Mark m
    by_mark true good e = refl
    by_mark false good e = (
      refl,
      refl,
      record {
        next = record { function = f; digits = ds; mark = true };
        good = record { function = good.function; digits = good.digits; fits = good.fits };
        part_is = rw (and-false (is_empty ds)) refl;
        rows_are =
            let mark = ap (λ x. ds ++ (x ∷ [])) (sym e) in
            ap (λ x. f ∷ x) (mark ∙ ap (λ x. x ++ (c ∷ [])) (sym (append-nil ds)));
        cost_is = omega arith;
      },
    )

    by_blank : (m x : Bool) → is_blank_row (begun m) ≡ x → Law Blank m
    by_blank m true e = rw e (rw e refl, record { ended = e; goes_on = refl; notation_is = refl; cost_is = refl })
    by_blank m false e = rw (e, e) refl

    by_kay : (m : Bool) (k : Control) (x : Bool) → control_of f ≡ k → nat_lt 1023 (digits_number 0 ds) ≡ x → Law Kay m
    by_kay true k x h e = refl
    by_kay false Neither x h e = rw (h, h) refl
    by_kay false k false h e =
        rw (h, e) (rw (h, e) refl, record { ended = refl; goes_on = refl; notation_is = rw h refl; cost_is = refl })
    by_kay false k true h e = rw (h, e, h, e) refl

    by_zed : (m : Bool) (k : Control) (x y : Bool) → control_of f ≡ k
        → is_place (4096 * f + 2 * digits_number 0 ds + notation.theta) ≡ x
        → nat_le 65536 (2 * digits_number 0 ds + notation.theta) ≡ y
        → Law Zed m
    by_zed true k x y h e g = refl
    by_zed false Directive false y h e g = rw (h, e, h, e) refl
    by_zed false Directive true y h e g =
        rw (h, e) (rw (h, e) refl, record { ended = refl; goes_on = refl; notation_is = rw h refl; cost_is = refl })
    by_zed false ThetaByBlank x true h e g = rw (h, g, h, g) refl
    by_zed false ThetaByBlank x false h e g =
        rw (h, g) (rw (h, g) refl, record { ended = refl; goes_on = refl; notation_is = rw h refl; cost_is = refl })
    by_zed false k x y h e g = rw (h, h) refl

    by_letter : (m : Bool) {k : LetterAction} {x y w : Bool} → letter_action_of notation.directive ≡ k
        → nat_lt (address notation.directive) 44 ≡ x
        → nat_le (locations z) (address notation.directive) ≡ y
        → nat_le 65536 (item_word words notation (item_of (begun m) c)) ≡ w
        → Law Letter m
    by_letter m {k = Nowhere} h e g o = rw (h, h) refl
    by_letter m {k = Unset} h e g o = absurd (not_unset notation.directive set h)
    by_letter m {k = Places} {x = true} h e g o = rw (h, e, h, e) refl
    by_letter m {k = Places} {x = false} {y = true} h e g o = rw (h, e, g, h, e, g) refl
    by_letter m {k = Places} {x = false} {y = false} h e g o =
        rw (h, e, g) (
          rw (h, e, g) refl,
          record {
            ended = refl;
            goes_on = rw h refl;
            notation_is = rw h refl;
            cost_is = rw h refl;
          },
        )
    by_letter m {k = Enters} {y = true} h e g o = rw (h, g, h, g) refl
    by_letter m {k = Enters} {y = false} {w = true} h e g o = rw (h, g, o, h, g, o) refl
    by_letter m {k = Enters} {x = true} {y = false} {w = false} h e g o = rw (h, g, o, e, h, g, o, e) refl
    by_letter m {k = Enters} {x = false} {y = false} {w = false} h e g o =
        rw (h, g, o, e) (
          rw (h, g, o, e) refl,
          record {
            ended = refl;
            entered = rw h refl;
            at_is = refl;
            cost_is = rw h refl;
          },
        )

    row_law : (m : Bool) → IsBegun (begun m) → (r : RowKind) → RowMeans r c → Law r m
    row_law m good Digit h = by_digit m _ good h refl
    row_law m good Mark h = by_mark m good h
    row_law m good Zed h = by_zed m _ _ _ refl refl refl
    row_law m good Kay h = by_kay m _ _ refl refl
    row_law m good Blank h = by_blank m _ refl
    row_law m good Letter h = by_letter m refl refl refl refl
    row_law m good Other h = refl

  -- what the reader does at a row is what the rules say
  pub row_law_of : (b : Begun) → IsBegun b → RowLaw (row_kind c) z words notation b c
      (row_effect z (row_kind c) (over notation.placed words) (setting_of notation) (as_part b) c)
  row_law_of b good = row_law b.function b.digits b.mark good (row_kind c) (row_means c)
