-- Texts that precede others, and the parts that they add there.
use Rattle.ed_syntax.proofs.Kit.{[], append_assoc, false, List, refl, subst, true, ℕ, ◌++◌}
use Rattle.ed_syntax.proofs.Kit.{◌∷◌, ◌≡◌, list_all, and_from, and_parts, rules}
use Rattle.ed_syntax.proofs.Kit.{append-nil, Text, blank, HasLineParts, is_sign, nothing}
use Rattle.ed_syntax.proofs.Kit.{one_run, one_sign, one_string, is_run_byte, begins_run, has_quote}
use Rattle.ed_syntax.proofs.Kit.{is_line_byte, LinePart, quoted, run, sign}
use Rattle.ed_syntax.proofs.RunTests.{is_run, each_append}

-- no run continues into this text if none continues into what follows it
abbrev pub EndsRun : Text → Type 0
EndsRun text = (rest : Text) → begins_run rest ≡ false → begins_run (text ++ rest) ≡ false

-- before any text, this one adds these parts; and its bytes may stand in a line
pub record IsFront (text : Text) (ps : List LinePart) : Type 0 where
  pub parts : (rest : Text) (qs : List LinePart) → begins_run rest ≡ false → HasLineParts rest qs
      → HasLineParts (text ++ rest) (ps ++ qs)
  pub bytes : list_all is_line_byte text ≡ true

-- ---- bytes

run_byte_is_plain : (b : ℕ) → is_run_byte b ≡ true → is_line_byte b ≡ true
run_byte_is_plain b e = search rules

run_is_plain : (r : Text) → list_all is_run_byte r ≡ true → list_all is_line_byte r ≡ true
run_is_plain [] e = refl
run_is_plain (b ∷ r) e =
    let p = and_parts _ _ e in and_from _ _ (run_byte_is_plain b p.0) (run_is_plain r p.1)

-- ---- fronts

pub no_front : IsFront [] []
no_front = record { parts = λ rest qs e h. h; bytes = refl }

pub blank_front : (text : Text) (ps : List LinePart) → IsFront text ps → IsFront (32 ∷ text) ps
blank_front text ps f = search (rules, blank)

pub sign_front : (b : ℕ) (text : Text) (ps : List LinePart) → is_sign b ≡ true → is_line_byte b ≡ true
    → IsFront text ps → IsFront (b ∷ text) (sign b ∷ ps)
sign_front b text ps s l f = search (rules, one_sign)

pub quoted_front : (q text : Text) (ps : List LinePart) → has_quote q ≡ false → list_all is_line_byte q ≡ true
    → IsFront text ps → IsFront (34 ∷ q ++ 34 ∷ text) (quoted q ∷ ps)
quoted_front q text ps s l f = record {
  parts = λ rest qs e h. rw (append_assoc q (34 ∷ text) rest) (one_string q _ (ps ++ qs) s (f.parts rest qs e h));
  bytes = each_append is_line_byte q (34 ∷ text) l f.bytes;
}

pub run_front : (r text : Text) (ps : List LinePart) → is_run r ≡ true → EndsRun text → IsFront text ps
    → IsFront (r ++ text) (run r ∷ ps)
run_front r text ps s ends f = search (rules, append_assoc, one_run, each_append, run_is_plain)

-- a run alone
pub one_run_front : (r : Text) → is_run r ≡ true → IsFront r (run r ∷ [])
one_run_front r s =
    subst (λ (t : Text). IsFront t (run r ∷ [])) (append-nil r) (run_front r [] [] s (λ rest e. e) no_front)

pub joined_front : (a b : Text) (ps qs : List LinePart) → IsFront a ps → EndsRun b → IsFront b qs
    → IsFront (a ++ b) (ps ++ qs)
joined_front a b ps qs f ends g = search (rules, append_assoc, each_append)

-- a front that is the whole text
pub front_parts : (text : Text) (ps : List LinePart) → IsFront text ps → HasLineParts text ps
front_parts text ps f =
    rw (← (append-nil text)) (rw (← (append-nil ps)) (f.parts [] [] refl nothing))
