-- Settings are read if and only if they are spelled.
use Rattle.ed_syntax.proofs.Kit.{[], ap, arith, Bool, false, length, List, None, Option, option_and_then, option_map}
use Rattle.ed_syntax.proofs.Kit.{refl, Some, suc, sym, true, zero, ℕ, ◌&&◌, ◌++◌, ◌==◌, ◌∙◌, ◌∷◌, ◌≡◌, ◌≤◌, rules}
use Rattle.ed_syntax.proofs.Kit.{Decides-eqb, append-nil, last, more, setting, SpellsSetting, SpellsSettings, LinePart}
use Rattle.ed_syntax.proofs.Kit.{setting_letter, sign, Setting}
use Rattle.ed_syntax.proofs.OperandLaws.{ends, operand_is_read, operand_is_spelled}
use Rattle.ed_syntax.proofs.Readings.{ranged, IsSpelled, unread, out_of_range, in_range, IsSpelledFirst, none, first}
use Rattle.ed_syntax.proofs.Readings.{map_ranged, made_spelled, if_passed}
use Rattle.std.proofs.lemmas.Bool.{cond_both}
use Rattle.ed_syntax.proofs.Kit.{SpellsOperand}
use Rattle.ed_syntax.specs.Reading.Grammar

-- ---- what is spelled is read

setting_is_read : (two : Bool) (ps rest : List LinePart) (s : Setting) (fits : Bool) → SpellsSetting two ps s fits
    → ends rest ≡ true → Grammar.setting two (ps ++ rest) ≡ Some (ranged fits s, rest)
setting_is_read two _ rest _ _ (setting b l ps o fits hl ho) h =
    ap (option_and_then (λ l. option_map (λ p. (Grammar.letter_setting l p.0, p.1)) (Grammar.operand two (ps ++ rest))))
    hl
    ∙ ap (option_map (λ p. (Grammar.letter_setting l p.0, p.1))) (operand_is_read two ps o fits rest ho h)
    ∙ ap (λ (x : Option Setting). Some (x, rest)) (map_ranged (λ a. record { letter = l; operand = a }) fits o)

both_ranged : (f g : Bool) (s : Setting) (ss : List Setting)
    → Grammar.both (ranged f s) (ranged g ss) ≡ ranged (f && g) (s ∷ ss)
both_ranged f g s ss = search rules

one_more : (two : Bool) (k : ℕ) (ps : List LinePart) → Grammar.settings two (suc k) ps
    ≡ option_and_then (λ p. Grammar.and_more p.0 p.1 (Grammar.settings two k)) (Grammar.setting two ps)
unfolding Grammar.settings
one_more two k ps = refl

pub settings_are_read : (two : Bool) (k : ℕ) (ps : List LinePart) (ss : List Setting) (fits : Bool)
    → SpellsSettings two ps ss fits → length ss ≤ k → Grammar.settings two k ps ≡ Some (ranged fits ss)
settings_are_read two zero _ _ _ (last ps s fits h) le = absurd (omega arith)
settings_are_read two zero _ _ _ (more ps qs s ss fits also h i) le = absurd (omega arith)
settings_are_read two (suc k) _ _ _ (last ps s fits h) le =
    one_more two k ps
    ∙ ap (option_and_then (λ p. Grammar.and_more p.0 p.1 (Grammar.settings two k)))
    (ap (Grammar.setting two) (sym (append-nil ps)) ∙ setting_is_read two ps [] s fits h refl)
    ∙ ap (λ (x : Option (List Setting)). Some x) (map_ranged (λ a. a ∷ []) fits s)
settings_are_read two (suc k) _ _ _ (more ps qs s ss fits also h i) le =
    one_more two k _ ∙ ap (option_and_then (λ p. Grammar.and_more p.0 p.1 (Grammar.settings two k)))
    (setting_is_read two ps _ s fits h refl)
    ∙ ap (option_map (Grammar.both (ranged fits s))) (settings_are_read two k qs ss also i (omega arith))
    ∙ ap (λ (x : Option (List Setting)). Some x) (both_ranged fits also s ss)

-- ---- what is read is spelled

setting_is_spelled : (two : Bool) (parts : List LinePart)
    → IsSpelledFirst (SpellsSetting two) parts (Grammar.setting two parts)
setting_is_spelled two (sign b ∷ sign e ∷ parts) =
    cond_both (e == 61) _ _ (IsSpelledFirst (SpellsSetting two) (sign b ∷ sign e ∷ parts))
    (λ is. rw ((Decides-eqb e 61).0 is) (by_letter (setting_letter b) refl _ (operand_is_spelled two parts)))
    (λ _. none)
  where
    by_letter : (l : Option ℕ) → setting_letter b ≡ l → (o : Option (Option _ × List LinePart))
        → IsSpelledFirst (SpellsOperand two) parts o
        → IsSpelledFirst (SpellsSetting two) (sign b ∷ sign 61 ∷ parts)
        (option_and_then (λ l. option_map (λ p. (Grammar.letter_setting l p.0, p.1)) o) l)
    by_letter None e o s = none
    by_letter (Some l) e _ none = none
    by_letter (Some l) e _ (first ps rest x whole s) =
        first (sign b ∷ sign 61 ∷ ps) rest _ (ap (λ (t : List LinePart). sign b ∷ sign 61 ∷ t) whole)
        (made_spelled (λ a. record { letter = l; operand = a }) s (λ a fits t. setting b l ps a fits e t))
setting_is_spelled two parts = none

-- at most k settings
pub record SpellsFew (two : Bool) (k : ℕ) (ps : List LinePart) (ss : List Setting) (fits : Bool) : Type 0 where
  pub spelled : SpellsSettings two ps ss fits
  pub few : length ss ≤ k

-- a setting before others
one_before : (two : Bool) (k : ℕ) (ps qs : List LinePart) (fits also : Bool) (s : Setting) (ss : List Setting)
    → SpellsSetting two ps s fits → SpellsFew two k qs ss also
    → SpellsFew two (suc k) (ps ++ sign 44 ∷ qs) (s ∷ ss) (fits && also)
one_before two k ps qs fits also s ss h t = search (rules, more)

before_others : (two : Bool) (k : ℕ) (ps qs : List LinePart) (x : Option Setting) (o : Option (Option (List Setting)))
    → IsSpelled (SpellsSetting two) ps (Some x) → IsSpelled (SpellsFew two k) qs o
    → IsSpelled (SpellsFew two (suc k)) (ps ++ sign 44 ∷ qs) (option_map (Grammar.both x) o)
before_others two k ps qs _ _ s unread = unread
before_others two k ps qs _ _ (in_range a s) (in_range ss t) =
    in_range (a ∷ ss) (one_before two k ps qs true true a ss s t)
before_others two k ps qs _ _ (in_range a s) (out_of_range ss t) =
    out_of_range (a ∷ ss) (one_before two k ps qs true false a ss s t)
before_others two k ps qs _ _ (out_of_range a s) (in_range ss t) =
    out_of_range (a ∷ ss) (one_before two k ps qs false true a ss s t)
before_others two k ps qs _ _ (out_of_range a s) (out_of_range ss t) =
    out_of_range (a ∷ ss) (one_before two k ps qs false false a ss s t)

more_spelled : (two : Bool) (k : ℕ) (parts : List LinePart) (o : Option (Option Setting × List LinePart))
    → ((qs : List LinePart) → IsSpelled (SpellsFew two k) qs (Grammar.settings two k qs))
    → IsSpelledFirst (SpellsSetting two) parts o
    → IsSpelled (SpellsFew two (suc k)) parts
    (option_and_then (λ p. Grammar.and_more p.0 p.1 (Grammar.settings two k)) o)
more_spelled two k parts _ others none = unread
more_spelled two k parts _ others (first ps [] x whole s) =
    rw (whole ∙ append-nil ps) (made_spelled (λ a. a ∷ []) s (λ a fits t. record {
      spelled = last ps a fits t;
      few = omega arith;
    }))
more_spelled two k parts _ others (first ps (sign c ∷ rest) x whole s) =
    rw whole (if_passed (c == 44) (λ e. rw ((Decides-eqb c 44).0 e) (before_others two k ps rest x _ s (others rest))))
more_spelled two k parts _ others s = unread

pub settings_are_spelled : (two : Bool) (k : ℕ) (ps : List LinePart)
    → IsSpelled (SpellsFew two k) ps (Grammar.settings two k ps)
unfolding Grammar.settings
settings_are_spelled two zero ps = unread
settings_are_spelled two (suc k) ps =
    more_spelled two k ps _ (settings_are_spelled two k) (setting_is_spelled two ps)
