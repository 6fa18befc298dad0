-- A line is read if and only if it is spelled.
use Rattle.ed_syntax.proofs.Kit.{[], Bool, codes, false, List, None, refl, Some, true, ℕ, rules}
use Rattle.ed_syntax.proofs.Kit.{◌==◌, ◌∙◌, ◌∷◌, ◌≡◌, list_all, and-false, Decides-eqb}
use Rattle.ed_syntax.proofs.Kit.{bytes_eq-Decides, value, Text, empty, label, labelled, long, negative, placed}
use Rattle.ed_syntax.proofs.Kit.{positive, SpellsForm, SpellsInteger, SpellsPlaced, SpellsStatement, statement}
use Rattle.ed_syntax.proofs.Kit.{version, word, is_place_name, is_number, LinePart, run, sign, is_version_two, Form}
use Rattle.ed_syntax.proofs.Kit.{Statement}
use Rattle.ed_syntax.proofs.PlacedLaws.{is_short, placed_is_read, placed_is_spelled}
use Rattle.ed_syntax.proofs.Readings.{ranged, IsSpelled, in_range, by_test, if_passed, made_ranged, made_spelled}
use Rattle.ed_syntax.proofs.StatementLaws.{statement_is_read, statement_is_spelled}
use Rattle.ed_syntax.specs.Reading.Grammar

-- a statement alone
abbrev pub just : Statement → Form
just s = record { label = None; statement = Some s }

-- a statement with its label
abbrev pub with_label : Text → Statement → Form
with_label a s = record { label = Some a; statement = Some s }

-- ---- what is spelled is read

-- a line that isn't `version 2` is read alike with any number
no_version : (two : Bool) (k : ℕ) (ps : List LinePart) → is_version_two ps ≡ false
    → Grammar.form_at two k ps ≡ Grammar.form two ps
no_version two k ps e = search (rules, and-false)

-- a statement begins with no label, and is not `version 2`
record IsUnlabelled (two : Bool) (ps : List LinePart) : Type 0 where
  first : Grammar.form two ps ≡ Grammar.unlabelled_line two ps
  other : is_version_two ps ≡ false

word_unlabelled : (two : Bool) (least most : ℕ) (ps : List LinePart) (z : _) (fits : Bool)
    → SpellsInteger least most ps z fits
    → IsUnlabelled two (run (codes "word") ∷ ps) × IsUnlabelled two (run (codes "long") ∷ ps)
word_unlabelled two least most _ _ _ (positive n e) =
    (record { first = refl; other = refl }, record { first = refl; other = refl })
word_unlabelled two least most _ _ _ (negative n e) =
    (record { first = refl; other = refl }, record { first = refl; other = refl })

placed_unlabelled : (two : Bool) (ps : List LinePart) (s : Statement) (fits : Bool) → SpellsPlaced two ps s fits
    → IsUnlabelled two ps
placed_unlabelled two _ _ _ (word ps z fits h) = (word_unlabelled two _ _ ps z fits h).0
placed_unlabelled two _ _ _ (long ps z fits h v) = (word_unlabelled two _ _ ps z fits h).1
placed_unlabelled two _ _ _ x = record { first = refl; other = refl }

statement_unlabelled : (two : Bool) (ps : List LinePart) (s : Statement) (fits : Bool)
    → SpellsStatement two ps s fits → IsUnlabelled two ps
statement_unlabelled two _ _ _ (placed ps s fits h) = placed_unlabelled two ps s fits h
statement_unlabelled two _ _ _ x = record { first = refl; other = refl }

label_first : (two : Bool) (k : ℕ) (a : Text) (ps : List LinePart) → is_place_name two a ≡ true
    → Grammar.form_at two k (run a ∷ sign 58 ∷ ps) ≡ Grammar.after_label two a ps
label_first two k a ps e = no_version two k (run a ∷ sign 58 ∷ ps) refl ∙ rw e refl

version_is_read : (two : Bool) (n : Text) → is_number n ≡ true → value n ≡ 2
    → Grammar.form_at two 1 (run (codes "version") ∷ run n ∷ []) ≡ Some (Some Grammar.empty)
version_is_read two n e f = rw (e, f) refl

pub form_is_read : (two : Bool) (k : ℕ) (ps : List LinePart) (x : Form) (fits : Bool) → SpellsForm two k ps x fits
    → list_all is_short ps ≡ true → Grammar.form_at two k ps ≡ Some (ranged fits x)
form_is_read two _ _ _ _ (empty k) short = no_version two k [] refl
form_is_read two _ _ _ _ (label k a e) short = label_first two k a [] e
form_is_read two _ _ _ _ (statement k ps s fits h) short =
    let u = statement_unlabelled two ps s fits h in
    no_version two k ps u.other ∙ u.first ∙ made_ranged just _ fits s (statement_is_read two ps s fits h short)
form_is_read two _ _ _ _ (labelled k a ps s fits e h) short = search (rules, label_first, made_ranged, placed_is_read)
form_is_read two _ _ _ _ (version n e f) short = version_is_read two n e f

-- ---- what is read is spelled

unlabelled_spelled : (two : Bool) (k : ℕ) (ps : List LinePart)
    → IsSpelled (SpellsForm two k) ps (Grammar.unlabelled_line two ps)
unlabelled_spelled two k ps = made_spelled just (statement_is_spelled two ps) (statement k ps)

labelled_spelled : (two : Bool) (k : ℕ) (a : Text) (ps : List LinePart) → is_place_name two a ≡ true
    → IsSpelled (SpellsForm two k) (run a ∷ sign 58 ∷ ps) (Grammar.after_label two a ps)
labelled_spelled two k a [] e = in_range _ (label k a e)
labelled_spelled two k a (p ∷ ps) e = made_spelled (with_label a) (placed_is_spelled two (p ∷ ps))
    (λ s fits h. labelled k a (p ∷ ps) s fits e h)

form_spelled : (two : Bool) (k : ℕ) (ps : List LinePart) → IsSpelled (SpellsForm two k) ps (Grammar.form two ps)
form_spelled two k [] = in_range _ (empty k)
form_spelled two k (run r ∷ sign s ∷ ps) =
    by_test (s == 58)
    (λ is. rw ((Decides-eqb s 58).0 is) (if_passed (is_place_name two r) (labelled_spelled two k r ps)))
    (λ _. unlabelled_spelled two k (run r ∷ sign s ∷ ps))
form_spelled two k ps = unlabelled_spelled two k ps

version_spelled : (two : Bool) (ps : List LinePart) → is_version_two ps ≡ true
    → SpellsForm two 1 ps Grammar.empty true
version_spelled two ps h = search (rules, bytes_eq-Decides, version)

pub form_is_spelled : (two : Bool) (k : ℕ) (ps : List LinePart)
    → IsSpelled (SpellsForm two k) ps (Grammar.form_at two k ps)
form_is_spelled two k ps = search (rules, in_range, version_spelled, form_spelled)
