-- What the code answers, by what is read.
use Rattle.ed_syntax.proofs.Kit.{[], ap, arith, Bool, Err, false, if◌then◌else◌, inl, inr, length, List, map, None, Ok}
use Rattle.ed_syntax.proofs.Kit.{Option, option_map, refl, Some, sym, true, ℕ, ◌<◌, ◌∷◌, ◌≡◌, ◌≤◌, ◌⊎◌, list_all, rules}
use Rattle.ed_syntax.proofs.Kit.{le-ltb, Text, is_place_name, is_line_byte, LinePart, form_result, part, form_at}
use Rattle.ed_syntax.proofs.Kit.{is_plus_or_minus, labelled_line, placed_statement, Ranged, ranged_map, parts_of}
use Rattle.ed_syntax.proofs.Kit.{line_of, or_cause, NotAStatement, NumberRange, Form, FormFault, NotThisForm}
use Rattle.ed_syntax.proofs.Kit.{OutOfRange}
use Rattle.std.specs.Borrow.{Bor}
use Rattle.ed_syntax.specs.Reading.Grammar.{joined_operand, operand, with_rest}
use Rattle.ed_syntax.specs.declared.parts.Part.{Part}
use Rattle.ed_syntax.specs.declared.parts.Part.TheVariants.{Run, Sign}

-- what is made of what is not read is not read, with the same fault
pub made_fault : {A B : Type 0} (f : A → B) (o : Option (Ranged A)) (e : FormFault) → Err e ≡ form_result o
    → Err e ≡ form_result (ranged_map f o)
made_fault f o e h = search rules

-- and what is made of what is read is read
pub made_form : {A B : Type 0} (f : A → B) (o : Option (Ranged A)) (a : A) → Ok a ≡ form_result o
    → Ok (f a) ≡ form_result (ranged_map f o)
made_form f (Some (Some b)) a h = let same : a ≡ b = cc in rw same refl
made_form f o a h = absurd (cc)

-- what the number of a run is, by what is read
pub number_in_range : (digits : Bool) (o : Ranged ℕ) (k : ℕ) → Ok k ≡ form_result (if digits then Some o else None)
    → (digits ≡ true) × (o ≡ Some k)
number_in_range true (Some j) k h = let same : j ≡ k = cc in (refl, ap (λ (x : ℕ). Some x) same)
number_in_range true None k h = absurd (cc)
number_in_range false o k h = absurd (cc)

pub number_out_of_range : (digits : Bool) (o : Ranged ℕ) (e : FormFault) → e ≡ OutOfRange
    → Err e ≡ form_result (if digits then Some o else None) → (digits ≡ true) × (o ≡ None)
number_out_of_range true None e out h = (refl, refl)
number_out_of_range true (Some j) e out h = absurd (cc)
number_out_of_range false o e out h = absurd (cc)

pub no_number : (digits : Bool) (o : Ranged ℕ) (e : FormFault) → e ≡ NotThisForm
    → Err e ≡ form_result (if digits then Some o else None) → digits ≡ false
no_number false o e none h = refl
no_number true None e none h = absurd (cc)
no_number true (Some j) e none h = absurd (cc)

-- a line of plain bytes, which is not too long, says what its parts say
pub line_read : (two : Bool) (k : ℕ) (line : Text) (parts : List LinePart) → list_all is_line_byte line ≡ true
    → length line ≤ 120 → parts_of line ≡ Some parts → line_of two k line ≡ or_cause (form_at two k parts)
line_read two k line parts plain short e = rw (plain, le-ltb 120 (length line) short, e) refl

-- a line without a form, or with a number out of its range, has its fault
pub line_fault : (o : Option (Ranged Form)) → Err NotThisForm ≡ form_result o → or_cause o ≡ Err NotAStatement
line_fault o h = search rules

pub range_fault : (o : Option (Ranged Form)) → Err OutOfRange ≡ form_result o → or_cause o ≡ Err NumberRange
range_fault (Some None) h = refl
range_fault o h = absurd (cc)

-- and a line that has one says it
pub line_form : (o : Option (Ranged Form)) (f : Form) → Ok f ≡ form_result o → or_cause o ≡ Ok f
line_form (Some (Some g)) f h = let same : f ≡ g = cc in ap (λ (x : Form). Ok x) (sym same)
line_form o f h = absurd (cc)

-- what follows a label is a statement that may have one
pub after_a_label : (two : Bool) (r : Text) (ps : List Part) → is_place_name two r ≡ true → 0 < length ps
    → labelled_line two r (map part ps)
    ≡ ranged_map (λ s. record { label = Some r; statement = Some s }) (placed_statement two (map part ps))
after_a_label two r [] e h = absurd (omega arith)
after_a_label two r (p ∷ ps) e h = rw e refl

-- a plus or a minus sign, by its test
plus_or_minus : (s : ℕ) → (s ≡ 43) ⊎ (s ≡ 45) → is_plus_or_minus s ≡ true
plus_or_minus s (inl e) = rw e refl
plus_or_minus s (inr e) = rw e refl

-- the operand at the front of parts in which a plus or a minus joins two runs
pub joined_read : {ps after joins rest : List Part} {a b c : Part} {r n : Bor Text} {s : ℕ} (two : Bool)
    → ps ≡ a ∷ after → a ≡ Run r → after ≡ b ∷ joins → b ≡ Sign s → joins ≡ c ∷ rest → c ≡ Run n
    → (s ≡ 43) ⊎ (s ≡ 45)
    → operand two (map part ps) ≡ with_rest (map part rest) (joined_operand two r.now s n.now)
joined_read two front first next second last third e =
    rw (front, first, next, second, last, third, plus_or_minus _ e) refl

-- what is made of a string, by what is read
pub string_read : {A B C : Type 0} (g : A → B) (f : B → C) (o : Option A) (b : B) → Some b ≡ option_map g o
    → Ok (f b) ≡ form_result (option_map (λ a. Some (f (g a))) o)
string_read g f None b h = absurd (cc)
string_read g f (Some a) b h = let same : b ≡ g a = cc in rw same refl

pub no_string : {A B C : Type 0} (g : A → B) (f : B → C) (o : Option A) → None ≡ option_map g o
    → Err NotThisForm ≡ form_result (option_map (λ a. Some (f (g a))) o)
no_string g f None h = refl
no_string g f (Some a) h = absurd (cc)
