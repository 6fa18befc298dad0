-- Statements and forms are read if and only if they are spelled.
use Rattle.ed_syntax.proofs.Kit.{[], ap, arith, Bool, codes, length, List, None}
use Rattle.ed_syntax.proofs.Kit.{option_map, refl, Some, true, ◌&&◌, ◌∙◌, ◌∷◌, ◌≡◌, list_all, bytes_eq}
use Rattle.ed_syntax.proofs.Kit.{and_parts, nat_tests, bytes_eq-Decides, value, Text, data_rows, enter, fetch}
use Rattle.ed_syntax.proofs.Kit.{fetch_with, placed, segment, segment_at, SpellsPlaced, SpellsStatement, text, is_name}
use Rattle.ed_syntax.proofs.Kit.{array, LinePart, run, Statement}
use Rattle.ed_syntax.proofs.PlacedLaws.{is_short, placed_is_read, placed_is_spelled, number_is_read, string_is_read}
use Rattle.ed_syntax.proofs.PlacedLaws.{string_spelled}
use Rattle.ed_syntax.proofs.Readings.{ranged, IsSpelled, unread, in_range, by_number, by_keyword, if_passed}
use Rattle.ed_syntax.proofs.Readings.{made_ranged, made_spelled, respelled}
use Rattle.ed_syntax.proofs.Kit.{le-leb}
use Rattle.ed_syntax.proofs.SettingLaws.{settings_are_read, settings_are_spelled}
use Rattle.ed_syntax.specs.Reading.Grammar
use Rattle.ed_lines.specs.declared.program.Statement.TheVariants as statements

-- ---- what is spelled is read: statements

-- a statement that may have a label begins with no keyword of the others
placed_first : (two : Bool) (ps : List LinePart) (s : Statement) (fits : Bool) → SpellsPlaced two ps s fits
    → Grammar.statement two ps ≡ Grammar.placed_statement two ps
placed_first two _ _ _ (text q rows h) = refl
placed_first two _ _ _ h = refl

segment_is_read : (a : Text) (parts : List LinePart) → is_name a ≡ true
    → Grammar.segment (run a ∷ parts) ≡ Grammar.ranged_map (statements.Segment a) (Grammar.base parts)
segment_is_read a parts e = rw e refl

fetch_is_read : (two : Bool) (a b : Text) (parts : List LinePart) → is_name a ≡ true → is_name b ≡ true
    → Grammar.fetch two (run a ∷ run (codes "as") ∷ run b ∷ parts)
    ≡ Grammar.ranged_map (λ ss. statements.Fetch a b (array ss)) (Grammar.with_settings two parts)
fetch_is_read two a b parts e f = rw (e, f) refl

pub statement_is_read : (two : Bool) (ps : List LinePart) (s : Statement) (fits : Bool)
    → SpellsStatement two ps s fits → list_all is_short ps ≡ true → Grammar.statement two ps ≡ Some (ranged fits s)
statement_is_read two _ _ _ (placed ps s fits h) short =
    placed_first two ps s fits h ∙ placed_is_read two ps s fits h short
statement_is_read two _ _ _ (segment a e) short = segment_is_read a [] e
statement_is_read two _ _ _ (segment_at a n e f) short =
    segment_is_read a (run (codes "at") ∷ run n ∷ []) e ∙ made_ranged (statements.Segment a) _ _ _
    (made_ranged (λ k. Some k) _ _ (value n) (number_is_read 1023 n f))
statement_is_read two _ _ _ (fetch a b e f) short = fetch_is_read two a b [] e f
statement_is_read two _ _ _ (fetch_with a b ps ss fits e f h few) short =
    fetch_is_read two a b (run (codes "with") ∷ ps) e f
    ∙ made_ranged (λ ss. statements.Fetch a b (array ss)) _ fits ss
    (settings_are_read two 6 ps ss fits h (grind (arith, nat_tests)))
statement_is_read two _ _ _ (enter a e) short = rw e refl
statement_is_read two _ _ _ (data_rows q rows h) short =
    ap (option_map (λ rows. Some (statements.Rows (array rows))))
    (string_is_read q rows h (and_parts _ true short).0)

-- ---- what is read is spelled: statements

-- what a segment's name may be followed by
base_spelled : (two : Bool) (a : Text) (parts : List LinePart) → is_name a ≡ true
    → IsSpelled (λ ps base. SpellsStatement two (run (codes "segment") ∷ run a ∷ ps) (statements.Segment a base)) parts
    (Grammar.base parts)
base_spelled two a [] e = in_range None (segment a e)
base_spelled two a (run w ∷ run n ∷ []) e =
    by_keyword w (codes "at") (by_number (λ k. Some k) 1023 n (segment_at a n e)) unread
base_spelled two a parts e = unread

segment_spelled : (two : Bool) (parts : List LinePart)
    → IsSpelled (SpellsStatement two) (run (codes "segment") ∷ parts) (Grammar.segment parts)
segment_spelled two (run a ∷ parts) = if_passed (is_name a) (λ e.
    made_spelled (statements.Segment a) (base_spelled two a parts e) (λ base fits s. s))
segment_spelled two parts = unread

-- what the names of a `use` may be followed by
with_spelled : (two : Bool) (a b : Text) (parts : List LinePart) → is_name a ≡ true → is_name b ≡ true
    → IsSpelled (λ ps ss. SpellsStatement two (run (codes "use") ∷ run a ∷ run (codes "as") ∷ run b ∷ ps)
    (statements.Fetch a b (array ss))) parts (Grammar.with_settings two parts)
with_spelled two a b [] e f = in_range [] (fetch a b e f)
with_spelled two a b (run w ∷ parts) e f = by_keyword w (codes "with")
    (respelled (settings_are_spelled two 6 parts) (λ ss fits s.
    let few = s.few in fetch_with a b parts ss fits e f s.spelled (le-leb (length ss) 6 few))) unread
with_spelled two a b parts e f = unread

fetch_spelled : (two : Bool) (parts : List LinePart)
    → IsSpelled (SpellsStatement two) (run (codes "use") ∷ parts) (Grammar.fetch two parts)
fetch_spelled two (run a ∷ run w ∷ run b ∷ parts) =
    if_passed (bytes_eq w (codes "as") && (is_name a && is_name b)) (λ e.
    let c = and_parts _ _ e in
    let d = and_parts (is_name a) _ c.1 in
    rw ((bytes_eq-Decides w _).0 c.0) (made_spelled (λ ss. statements.Fetch a b (array ss))
    (with_spelled two a b parts d.0 d.1) (λ ss fits s. s)))
fetch_spelled two parts = unread

enter_spelled : (two : Bool) (parts : List LinePart)
    → IsSpelled (SpellsStatement two) (run (codes "enter") ∷ parts) (Grammar.enter parts)
enter_spelled two (run a ∷ []) = if_passed (is_name a) (λ e. in_range _ (enter a e))
enter_spelled two parts = unread

pub statement_is_spelled : (two : Bool) (ps : List LinePart)
    → IsSpelled (SpellsStatement two) ps (Grammar.statement two ps)
statement_is_spelled two (run w ∷ ps) =
    by_keyword w (codes "segment") (segment_spelled two ps) (by_keyword w (codes "use") (fetch_spelled two ps)
    (by_keyword w (codes "enter") (enter_spelled two ps) (by_keyword w (codes "data")
    (string_spelled (λ rows. statements.Rows (array rows)) ps data_rows)
    (respelled (placed_is_spelled two (run w ∷ ps)) (placed (run w ∷ ps))))))
statement_is_spelled two ps = respelled (placed_is_spelled two ps) (placed ps)
