-- How an input is divided, line by line.
use Rattle.ed_stepper.proofs.Kit.{slice_index_or, drop_all, [], ap, arith, Bool, drop, false, if◌then◌else◌, length}
use Rattle.ed_stepper.proofs.Kit.{List, None, not, Option, refl, Some, suc, sym, take, true, ℕ, ◌++◌, ◌+◌, ◌-◌, ◌<◌}
use Rattle.ed_stepper.proofs.Kit.{◌==◌, ◌∙◌, ◌∷◌, ◌≡◌, ◌≤◌, Text, lines_of, Input, text_kind_of, after_line, input_of}
use Rattle.ed_stepper.proofs.Kit.{line_feed_place, TextKind}
use Rattle.std.proofs.lemmas.List.{append-nil, append_assoc, length-append, take_at}
use Rattle.ed_stepper.specs.Private.Divisions.{at_line, input_at, first_line, with_byte_before}

-- ---- the bytes of a first line

-- what follows the first line, by the offset of its line feed
behind_is : (text : Text) → after_line text ≡ drop (line_feed_place text + 1) text
behind_is [] = refl
behind_is (b ∷ bs) = by_test (b == 10) (behind_is bs)
  where
    by_test : (t : Bool) → after_line bs ≡ drop (line_feed_place bs + 1) bs
        → (if t then bs else after_line bs) ≡ drop ((if not t then 1 + line_feed_place bs else 0) + 1) (b ∷ bs)
    by_test true h = refl
    by_test false h = let s : 1 + line_feed_place bs + 1 ≡ suc (line_feed_place bs + 1) = omega arith in rw s h

pub behind_ended : (text : Text) (end : ℕ) → end ≡ line_feed_place text → after_line text ≡ drop (end + 1) text
behind_ended text end place = behind_is text ∙ ap (λ n. drop (n + 1) text) (sym place)

pub behind_unended : (text : Text) → length text ≤ line_feed_place text → after_line text ≡ []
behind_unended text past = behind_is text ∙ drop_all (line_feed_place text + 1) text (omega (arith, past))

-- a first line with its end
abbrev pub line_front : Text → Text
line_front [] = []
line_front (b ∷ bs) = if b == 10 then b ∷ [] else b ∷ line_front bs

-- it and what follows it are the text
pub front_whole : (text : Text) → line_front text ++ after_line text ≡ text
front_whole [] = refl
front_whole (b ∷ bs) = by_test (b == 10) (front_whole bs)
  where
    by_test : (t : Bool) → line_front bs ++ after_line bs ≡ bs
        → (if t then b ∷ [] else b ∷ line_front bs) ++ (if t then bs else after_line bs) ≡ b ∷ bs
    by_test true h = refl
    by_test false h = ap (λ (x : Text). b ∷ x) h

-- ---- a script with bytes before it

abbrev pub prefixed : Text → Option Input → Option Input
prefixed before None = None
prefixed before (Some i) = Some (record i { script = before ++ i.script })

pub prefixed_none : (o : Option Input) → prefixed [] o ≡ o
prefixed_none None = refl
prefixed_none (Some i) = refl

pub prefixed-append : (before more : Text) (o : Option Input)
    → prefixed before (prefixed more o) ≡ prefixed (before ++ more) o
prefixed-append before more None = refl
prefixed-append before more (Some i) =
    ap (λ (script : Text). Some (record i { script = script })) (sym (append_assoc before more i.script))

one_front : (b : ℕ) (more : Text) (o : Option Input) → with_byte_before b (prefixed more o) ≡ prefixed (b ∷ more) o
one_front b more None = refl
one_front b more (Some i) = refl

-- ---- lines

-- if no line begins here, the input is divided after the first line feed
skips : (text : Text) → input_at false text ≡ prefixed (line_front text) (input_of (after_line text))
skips [] = refl
skips (b ∷ bs) = by_test (b == 10) (skips bs)
  where
    by_test : (t : Bool) → input_at false bs ≡ prefixed (line_front bs) (input_of (after_line bs))
        → with_byte_before b (input_at t bs)
        ≡ prefixed (if t then b ∷ [] else b ∷ line_front bs) (input_of (if t then bs else after_line bs))
    by_test true h = ap (with_byte_before b) (sym (prefixed_none (input_of bs))) ∙ one_front b [] (input_of bs)
    by_test false h = ap (with_byte_before b) h ∙ one_front b (line_front bs) (input_of (after_line bs))

-- the same after a line that announces nothing
pub input_of-passes : (text : Text) → 0 < length text → text_kind_of (first_line text) ≡ None
    → input_of text ≡ prefixed (line_front text) (input_of (after_line text))
input_of-passes [] some none = absurd (omega arith)
input_of-passes (b ∷ bs) some none =
    ap (λ (k : Option TextKind). at_line k (b ∷ bs) (with_byte_before b (input_at (b == 10) bs))) none
    ∙ skips (b ∷ bs)

-- and a line that announces a text divides it
pub input_of-divides : (text : Text) (kind : TextKind) → 0 < length text → text_kind_of (first_line text) ≡ Some kind
    → input_of text ≡ Some (record { script = []; kind = kind; text = after_line text })
input_of-divides [] kind some is = absurd (omega arith)
input_of-divides (b ∷ bs) kind some is =
    ap (λ (k : Option TextKind). at_line k (b ∷ bs) (with_byte_before b (input_at (b == 10) bs))) is

-- the first line of a text whose lines are known
pub first_is : (text line : Text) (rest : List Text) → lines_of text ≡ line ∷ rest → first_line text ≡ line
first_is text line rest is = ap (λ (lines : List Text). slice_index_or lines 0 []) is

-- ---- the loop over the lines

-- what precedes a rest is the front, by its length
cut : (front rest whole : Text) → front ++ rest ≡ whole → take (length whole - length rest) whole ≡ front
cut front rest whole is =
    let long : length front + length rest ≡ length whole = sym (length-append front rest)
    ∙ ap (λ (x : Text). length x) is in
    ap (λ (x : Text). take (length whole - length rest) x) (sym is)
    ∙ take_at front rest (length whole - length rest) (omega (arith, long))

-- the bytes before the rest and the rest, and that the division of the rest is that of the input
pub record Stands (input rest : Text) : Type 0 where
  pub few : length rest ≤ length input
  pub whole : take (length input - length rest) input ++ rest ≡ input
  pub same : input_of input ≡ prefixed (take (length input - length rest) input) (input_of rest)

-- before the first line
pub at_start : (input : Text) → Stands input input
at_start input =
    let e = cut [] input input refl in record {
      few = omega arith;
      whole = ap (λ (x : Text). x ++ input) e;
      same = sym (ap (λ (x : Text). prefixed x (input_of input)) e ∙ prefixed_none (input_of input));
    }

-- after a line that announces nothing
pub goes_on : (input rest after : Text) → Stands input rest → 0 < length rest → text_kind_of (first_line rest) ≡ None
    → after ≡ after_line rest → Stands input after
goes_on input rest after s some none is =
    let before : Text = take (length input - length rest) input in
    let front = line_front rest in
    let rest_is : front ++ after ≡ rest = ap (λ (x : Text). front ++ x) is ∙ front_whole rest in
    let whole : (before ++ front) ++ after ≡ input = append_assoc before front after
    ∙ ap (λ (x : Text). before ++ x) rest_is ∙ s.whole in
    let e = cut (before ++ front) after input whole in
    let long = ap (λ (x : Text). length x) whole in
    record {
      few = omega (arith, long, length-append (before ++ front) after);
      whole = ap (λ (x : Text). x ++ after) e ∙ whole;
      same = s.same ∙ ap (prefixed before)
          (input_of-passes rest some none ∙ ap (λ (x : Text). prefixed front (input_of x)) (sym is))
          ∙ prefixed-append before front (input_of after) ∙ sym (ap (λ (x : Text). prefixed x (input_of after)) e);
    }

-- at a line that announces a text
pub ends_at : (input rest after : Text) (kind : TextKind) → Stands input rest → 0 < length rest
    → text_kind_of (first_line rest) ≡ Some kind → after ≡ after_line rest
    → input_of input ≡ Some (record { script = take (length input - length rest) input; kind = kind; text = after })
ends_at input rest after kind s some found is =
    let before : Text = take (length input - length rest) input in
    s.same ∙ ap (prefixed before) (input_of-divides rest kind some found)
    ∙ (λ i. Some (record { script = append-nil before i; kind = kind; text = sym is i }))

-- after the last line
pub at_end : (input rest : Text) → Stands input rest → length rest ≡ 0 → input_of input ≡ None
at_end input [] s none = s.same
at_end input (b ∷ bs) s none = absurd (omega (arith, none))
