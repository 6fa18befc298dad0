-- An input is divided as it is read, in one way or not at all.
use Rattle.ed_stepper.proofs.Kit.{All, [], ap, append_assoc, arith, false, inl, inr, length, List, None, Option, refl}
use Rattle.ed_stepper.proofs.Kit.{Some, subst, suc, sym, ℕ, ◌++◌, ◌+◌, ◌<◌, ◌∙◌, ◌∷◌, ◌≡◌, ◌⊎◌, Text, has_end, HasLines}
use Rattle.ed_stepper.proofs.Kit.{lines_of, without_return, read_lines_are, Input, text_kind_of, after_line, input_of}
use Rattle.ed_stepper.proofs.Kit.{TextKind}
use Rattle.std.proofs.lemmas.List.Elements.{All-cons}
use Rattle.ed_syntax.specs.Lines.{nothing, last, ended}
use Rattle.ed_syntax.proofs.Lines.{no_end_head}
use Rattle.ed_stepper.specs.Inputs.{HasLineCount, IsDivided, IsUndivided, by_last, by_line, further_on}
use Rattle.ed_stepper.proofs.Divisions.{input_of-divides, first_is, line_front, input_of-passes, prefixed}
use Rattle.ed_syntax.proofs.Lines as Lines

-- ---- the first line of a text

after_ended : (line text : Text) → has_end line ≡ false → after_line (line ++ 10 ∷ text) ≡ text
after_ended [] text e = refl
after_ended (b ∷ bs) text e = let h = no_end_head b bs e in rw h.0 (after_ended bs text h.1)

after_unended : (line : Text) → has_end line ≡ false → after_line line ≡ []
after_unended [] e = refl
after_unended (b ∷ bs) e = let h = no_end_head b bs e in rw h.0 (after_unended bs h.1)

front_ended : (line text : Text) → has_end line ≡ false → line_front (line ++ 10 ∷ text) ≡ line ++ 10 ∷ []
front_ended [] text e = refl
front_ended (b ∷ bs) text e =
    let h = no_end_head b bs e in rw h.0 (ap (λ (x : Text). b ∷ x) (front_ended bs text h.1))

long_ended : (line text : Text) → 0 < length (line ++ 10 ∷ text)
long_ended [] text = omega arith
long_ended (b ∷ bs) text = omega arith

-- ---- what is read

-- an input that is divided is read so
pub division_is_read : {input : Text} {i : Input} → IsDivided input i → input_of input ≡ Some i
division_is_read (by_last [] kind e is) = absurd (cc)
division_is_read (by_last (b ∷ bs) kind e is) =
    let first = first_is (b ∷ bs) (b ∷ bs) [] (Lines.unended b bs e) in
    input_of-divides (b ∷ bs) kind (omega arith) (ap text_kind_of first ∙ is)
    ∙ ap (λ (t : Text). Some (record { script = []; kind = kind; text = t })) (after_unended (b ∷ bs) e)
division_is_read (by_line line text kind e is) =
    let first = first_is (line ++ 10 ∷ text) (without_return line) (lines_of text) (Lines.lines_of-ended line text e) in
    input_of-divides (line ++ 10 ∷ text) kind (long_ended line text) (ap text_kind_of first ∙ is)
    ∙ ap (λ (t : Text). Some (record { script = []; kind = kind; text = t })) (after_ended line text e)
division_is_read (further_on line text i e none d) =
    let first = first_is (line ++ 10 ∷ text) (without_return line) (lines_of text) (Lines.lines_of-ended line text e) in
    input_of-passes (line ++ 10 ∷ text) (long_ended line text) (ap text_kind_of first ∙ none)
    ∙ (λ j. prefixed (front_ended line text e j) (input_of (after_ended line text e j)))
    ∙ ap (prefixed (line ++ 10 ∷ [])) (division_is_read d)
    ∙ ap (λ (s : Text). Some (record i { script = s })) (append_assoc line (10 ∷ []) i.script)

-- a line that announces no text
abbrev AnnouncesNothing : Text → Type 0
AnnouncesNothing line = text_kind_of line ≡ None

none_of_none : All AnnouncesNothing []
none_of_none k d l = absurd (omega (arith, l))

-- an input without a dividing line is not divided
pub undivided_is_read : {input : Text} {lines : List Text} → HasLines input lines
    → All AnnouncesNothing lines → input_of input ≡ None
undivided_is_read nothing none = refl
undivided_is_read (last b bs e) none =
    let first = first_is (b ∷ bs) (b ∷ bs) [] (Lines.unended b bs e) in
    input_of-passes (b ∷ bs) (omega arith) (ap text_kind_of first ∙ none 0 [] (omega arith))
    ∙ ap (λ (t : Text). prefixed (line_front (b ∷ bs)) (input_of t)) (after_unended (b ∷ bs) e)
undivided_is_read (ended line text lines e h) none =
    let first = first_is (line ++ 10 ∷ text) (without_return line) (lines_of text) (Lines.lines_of-ended line text e) in
    input_of-passes (line ++ 10 ∷ text) (long_ended line text) (ap text_kind_of first ∙ none 0 [] (omega arith))
    ∙ ap (λ (t : Text). prefixed (line_front (line ++ 10 ∷ text)) (input_of t)) (after_ended line text e)
    ∙ ap (prefixed (line_front (line ++ 10 ∷ text))) (undivided_is_read h (λ k d l. none (suc k) d (omega (arith, l))))

-- ---- the law of inputs

-- each input is divided in one way, or not at all
pub record EachInputHasOneDivision : Type 0 where
  pub every : (input : Text) → ((lines : List Text) × IsUndivided input lines) ⊎ ((i : Input) × IsDivided input i)
  pub one_division : (input : Text) (i j : Input) → IsDivided input i → IsDivided input j → i ≡ j
  pub never_both : (input : Text) (lines : List Text) (i : Input) → IsUndivided input lines → IsDivided input i → ⊥

abbrev IsDividedOrNot : Text → Type 0
IsDividedOrNot input = ((lines : List Text) × IsUndivided input lines) ⊎ ((i : Input) × IsDivided input i)

by_lines : {input : Text} {lines : List Text} → HasLines input lines → IsDividedOrNot input
by_lines nothing = inl ([], record { has_lines = nothing; none = none_of_none })
by_lines (last b bs e) = by_kind (text_kind_of (b ∷ bs)) refl
  where
    by_kind : (k : Option TextKind) → text_kind_of (b ∷ bs) ≡ k → IsDividedOrNot (b ∷ bs)
    by_kind (Some kind) is = inr (_, by_last (b ∷ bs) kind e is)
    by_kind None is = inl (
      (b ∷ bs) ∷ [],
      record {
        has_lines = last b bs e;
        none = All-cons AnnouncesNothing (b ∷ bs) [] is none_of_none;
      },
    )
by_lines (ended line text lines e h) = by_kind (text_kind_of (without_return line)) refl (by_lines h)
  where
    by_kind : (k : Option TextKind) → text_kind_of (without_return line) ≡ k → IsDividedOrNot text
        → IsDividedOrNot (line ++ 10 ∷ text)
    by_kind (Some kind) is rest = inr (_, by_line line text kind e is)
    by_kind None is (inr rest) = inr (_, further_on line text rest.0 e is rest.1)
    by_kind None is (inl rest) = inl (
      without_return line ∷ rest.0,
      record {
        has_lines = ended line text rest.0 e rest.1.has_lines;
        none = All-cons AnnouncesNothing (without_return line) rest.0 is rest.1.none;
      },
    )

one_division : (input : Text) (i j : Input) → IsDivided input i → IsDivided input j → i ≡ j
one_division input i j d e =
    let same : Some i ≡ Some j = sym (division_is_read d) ∙ division_is_read e in cc

never_both : (input : Text) (lines : List Text) (i : Input) → IsUndivided input lines → IsDivided input i → ⊥
never_both input lines i u d =
    let same : None ≡ Some i = sym (undivided_is_read u.has_lines u.none) ∙ division_is_read d in absurd (cc)

pub one_input : EachInputHasOneDivision
one_input = record {
  every = λ input. by_lines (read_lines_are input);
  one_division = one_division;
  never_both = never_both;
}

-- what is read is so
pub read_is_division : (input : Text) (i : Input) → input_of input ≡ Some i → IsDivided input i
read_is_division input i is = go (one_input.every input)
  where
    go : IsDividedOrNot input → IsDivided input i
    go (inl u) =
        let same : None ≡ Some i = sym (undivided_is_read u.1.has_lines u.1.none) ∙ is in absurd (cc)
    go (inr d) =
        let same : Some d.0 ≡ Some i = sym (division_is_read d.1) ∙ is in
        subst (IsDivided input) (cc) d.1

pub read_is_undivided : (input : Text) → input_of input ≡ None → (lines : List Text) × IsUndivided input lines
read_is_undivided input is = go (one_input.every input)
  where
    go : IsDividedOrNot input → (lines : List Text) × IsUndivided input lines
    go (inl u) = u
    go (inr d) = let same : None ≡ Some d.0 = sym is ∙ division_is_read d.1 in absurd (cc)

-- the lines are counted when none are left
pub HasLineCount-rest : {count : ℕ} (text rest : Text) → length rest ≡ 0
    → count + length (lines_of rest) ≡ length (lines_of text) → HasLineCount text count
HasLineCount-rest text [] none same = (lines_of text, read_lines_are text, omega (arith, same))
HasLineCount-rest text (b ∷ bs) none same = absurd (omega (arith, none))
