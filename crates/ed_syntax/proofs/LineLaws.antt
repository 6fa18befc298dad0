-- A text is read as the form that it spells.
use Rattle.ed_syntax.proofs.Kit.{arith, Bool, false, length, length-append, List, nat_le, None, Option, rules}
use Rattle.ed_syntax.proofs.Kit.{option_and_then, refl, Some, sym, true, ℕ, ◌∙◌, ◌∷◌, ◌≡◌, ◌≤◌, list_all, le-leb}
use Rattle.ed_syntax.proofs.Kit.{leb-true, Text, blank, comment, HasLineParts, IsNoStatement, nothing, one_run}
use Rattle.ed_syntax.proofs.Kit.{one_sign, one_string, SpellsLine, LinePart, parts_of, Form}
use Rattle.ed_syntax.proofs.FormLaws.{form_is_read, form_is_spelled}
use Rattle.ed_syntax.proofs.PartsLaws.{parts_are_read, read_parts_are}
use Rattle.ed_syntax.proofs.PlacedLaws.{is_short}
use Rattle.ed_syntax.proofs.Readings.{ranged, Some-chained, is_in_range, is_out_of_range}
use Rattle.ed_syntax.specs.Reading.Grammar

-- what is read in the line with the number k
abbrev pub form_of : Bool → ℕ → Text → Option (Option Form)
form_of two k text = option_and_then (Grammar.form_at two k) (parts_of text)

-- the strings of a short line are short
pub few_bytes : (text : Text) (ps : List LinePart) → HasLineParts text ps → length text ≤ 120
    → list_all is_short ps ≡ true
few_bytes _ _ nothing le = refl
few_bytes _ _ (comment bytes) le = refl
few_bytes _ _ (blank b text ps e h) le = few_bytes text ps h (omega arith)
few_bytes _ _ (one_sign b text ps e h) le = few_bytes text ps h (omega arith)
few_bytes _ _ (one_string q text ps e h) le =
    let size = length-append q (34 ∷ text) in
    rw (le-leb (length q) 120 (omega (arith, size, le))) (few_bytes text ps h (omega (arith, size, le)))
few_bytes _ _ (one_run b r text ps e g h) le =
    let size = length-append (b ∷ r) text in few_bytes text ps h (omega (arith, size, le))

-- a line that spells a form is read as it
pub spelled_is_read : (two : Bool) (k : ℕ) (text : Text) (f : Form) (fits : Bool) → length text ≤ 120
    → SpellsLine two k text f fits → form_of two k text ≡ Some (ranged fits f)
spelled_is_read two k text f fits le s = search (rules, parts_are_read, form_is_read, few_bytes)

-- a text that is read as a form spells it
pub read_form_is_spelled : (two : Bool) (k : ℕ) (text : Text) (f : Form) → form_of two k text ≡ Some (Some f)
    → SpellsLine two k text f true
read_form_is_spelled two k text f h =
    let c = Some-chained (Grammar.form_at two k) (parts_of text) (Some f) h in
    let spells = is_in_range _ _ f (rw c.2 at (form_is_spelled two k c.0)) in
    record { parts = c.0; has_parts = read_parts_are text c.0 c.1; spells = spells }

-- a text that is read as a form with a number out of its range spells one
pub out_of_range_is_spelled : (two : Bool) (k : ℕ) (text : Text) → form_of two k text ≡ Some None
    → (f : Form) × SpellsLine two k text f false
out_of_range_is_spelled two k text h =
    let c = Some-chained (Grammar.form_at two k) (parts_of text) None h in
    let s = is_out_of_range _ _ (rw c.2 at (form_is_spelled two k c.0)) in
    (s.0, record { parts = c.0; has_parts = read_parts_are text c.0 c.1; spells = s.1 })

-- a text in which nothing is read spells nothing
pub unread_is_unspelled : (two : Bool) (k : ℕ) (text : Text) → nat_le (length text) 120 ≡ true
    → form_of two k text ≡ None → IsNoStatement two k text
unread_is_unspelled two k text short h f fits s =
    let e = spelled_is_read two k text f fits (leb-true _ 120 short) s in absurd (cc)

-- no text spells two forms whose numbers are in their ranges
pub one_form : (two : Bool) (k : ℕ) (text : Text) (f g : Form) → length text ≤ 120 → SpellsLine two k text f true
    → SpellsLine two k text g true → f ≡ g
one_form two k text f g le s t =
    let same : Some (Some f) ≡ Some (Some g) =
    sym (spelled_is_read two k text f true le s) ∙ spelled_is_read two k text g true le t in cc

-- no text spells both a form with its numbers in their ranges and one with a number out of its range
pub fits_once : (two : Bool) (k : ℕ) (text : Text) (f g : Form) → length text ≤ 120 → SpellsLine two k text f true
    → SpellsLine two k text g false → ⊥
fits_once two k text f g le s t =
    let same : Some (Some f) ≡ Some None =
    sym (spelled_is_read two k text f true le s) ∙ spelled_is_read two k text g false le t in absurd (cc)
