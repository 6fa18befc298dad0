-- What it means that parts spell what is read in them.
use Rattle.ed_syntax.proofs.Kit.{ap, Bool, bytes_eq, bytes_eq-Decides, false, if◌then◌else◌, List, nat_le, None, Option}
use Rattle.ed_syntax.proofs.Kit.{option_and_then, option_map, refl, Some, Text, true, value, ℕ, ◌++◌, ◌∙◌, ◌∷◌, ◌≡◌}
use Rattle.ed_syntax.proofs.Kit.{is_number, LinePart, run, rules}
use Rattle.ed_syntax.specs.Reading.Grammar

-- what is read, if the numbers are in their ranges
abbrev pub ranged : {A : Type 0} → Bool → A → Option A
ranged fits a = if fits then Some a else None

pub map_ranged : {A B : Type 0} (f : A → B) (fits : Bool) (a : A) → option_map f (ranged fits a) ≡ ranged fits (f a)
map_ranged f fits a = search rules

pub made_ranged : {A B : Type 0} (f : A → B) (o : Option (Option A)) (fits : Bool) (a : A) → o ≡ Some (ranged fits a)
    → Grammar.ranged_map f o ≡ Some (ranged fits (f a))
made_ranged f o fits a e = ap (Grammar.ranged_map f) e ∙ ap (λ (x : Option _). Some x) (map_ranged f fits a)

-- ---- what is read is spelled

-- if something is read, the parts spell it
pub data IsSpelled {A : Type 0} (S : List LinePart → A → Bool → Type 0) (ps : List LinePart) :
    Option (Option A) → Type 0 where
  unread : IsSpelled S ps None
  out_of_range : (a : A) → S ps a false → IsSpelled S ps (Some None)
  in_range : (a : A) → S ps a true → IsSpelled S ps (Some (Some a))

pub is_in_range : {A : Type 0} (S : List LinePart → A → Bool → Type 0) (ps : List LinePart) (a : A)
    → IsSpelled S ps (Some (Some a)) → S ps a true
is_in_range S ps a (in_range _ s) = s

pub is_out_of_range : {A : Type 0} (S : List LinePart → A → Bool → Type 0) (ps : List LinePart)
    → IsSpelled S ps (Some None) → (a : A) × S ps a false
is_out_of_range S ps (out_of_range a s) = (a, s)

-- what is read with a test of its range
pub by_range : {A B : Type 0} {S : List LinePart → B → Bool → Type 0} {ps : List LinePart} (f : A → B) (fits : Bool)
    (a : A) → S ps (f a) fits → IsSpelled S ps (Some (option_map f (ranged fits a)))
by_range f true a s = in_range (f a) s
by_range f false a s = out_of_range (f a) s

-- what is read by a test
pub by_test : {A : Type 0} {S : List LinePart → A → Bool → Type 0} {ps : List LinePart} {x y : Option (Option A)}
    (c : Bool) → (c ≡ true → IsSpelled S ps x) → (c ≡ false → IsSpelled S ps y)
    → IsSpelled S ps (if c then x else y)
by_test c f g = search rules

pub if_passed : {A : Type 0} {S : List LinePart → A → Bool → Type 0} {ps : List LinePart} {x : Option (Option A)}
    (c : Bool) → (c ≡ true → IsSpelled S ps x) → IsSpelled S ps (if c then x else None)
if_passed c f = by_test c f (λ e. unread)

pub by_keyword : {A : Type 0} {S : List LinePart → A → Bool → Type 0} {ps : List LinePart} {x y : Option (Option A)}
    (w k : Text) → IsSpelled S (run k ∷ ps) x → IsSpelled S (run w ∷ ps) y
    → IsSpelled S (run w ∷ ps) (if bytes_eq w k then x else y)
by_keyword w k f g = by_test (bytes_eq w k) (λ e. rw ((bytes_eq-Decides w k).0 e) f) (λ e. g)

-- what is read by an option
pub by_option : {A B : Type 0} {S : List LinePart → B → Bool → Type 0} {ps : List LinePart}
    (f : A → Option (Option B)) (o : Option A) → ((x : A) → o ≡ Some x → IsSpelled S ps (f x))
    → IsSpelled S ps (option_and_then f o)
by_option f None g = unread
by_option f (Some x) g = g x refl

-- what is read by a number
pub by_number : {A : Type 0} {S : List LinePart → A → Bool → Type 0} {ps : List LinePart} (f : ℕ → A) (most : ℕ)
    (n : Text)
    → (is_number n ≡ true → S ps (f (value n)) (nat_le (value n) most))
    → IsSpelled S ps (Grammar.ranged_map f (Grammar.number_up_to most n))
by_number {S = S} {ps = ps} f most n s = go (is_number n) s
  where
    go : (c : Bool) → (c ≡ true → S ps (f (value n)) (nat_le (value n) most))
        → IsSpelled S ps (Grammar.ranged_map f (if c then Some (Grammar.up_to most n) else None))
    go true s = by_range f _ (value n) (s refl)
    go false s = unread

-- what is made of something that is spelled
pub made_spelled : {A B : Type 0} {S : List LinePart → A → Bool → Type 0} {T : List LinePart → B → Bool → Type 0}
    {ps qs : List LinePart} {o : Option (Option A)} (f : A → B) → IsSpelled S ps o
    → ((a : A) (fits : Bool) → S ps a fits → T qs (f a) fits) → IsSpelled T qs (Grammar.ranged_map f o)
made_spelled f unread step = unread
made_spelled f (out_of_range a s) step = out_of_range (f a) (step a false s)
made_spelled f (in_range a s) step = in_range (f a) (step a true s)

pub respelled : {A : Type 0} {S T : List LinePart → A → Bool → Type 0} {ps qs : List LinePart} {o : Option (Option A)}
    → IsSpelled S ps o → ((a : A) (fits : Bool) → S ps a fits → T qs a fits) → IsSpelled T qs o
respelled unread step = unread
respelled (out_of_range a s) step = out_of_range a (step a false s)
respelled (in_range a s) step = in_range a (step a true s)

-- if something is read, the first of the parts spell it, and the rest is left
pub data IsSpelledFirst {A : Type 0} (S : List LinePart → A → Bool → Type 0) (parts : List LinePart) :
    Option (Option A × List LinePart) → Type 0 where
  none : IsSpelledFirst S parts None
  first : (ps rest : List LinePart) (x : Option A) → parts ≡ ps ++ rest → IsSpelled S ps (Some x)
      → IsSpelledFirst S parts (Some (x, rest))

-- what is in an option
pub Some-chained : {A B : Type 0} (f : A → Option B) (o : Option A) (y : B) → option_and_then f o ≡ Some y
    → (x : A) × (o ≡ Some x) × (f x ≡ Some y)
Some-chained f o y e = search rules
