-- What one byte, a run and a quoted text make of the parts.
use Rattle.ed_syntax.proofs.Kit.{[], ap, append_assoc, arith, false, length, length-append, List, map, None, Option}
use Rattle.ed_syntax.proofs.Kit.{option_map, refl, Some, sym, true, ℕ, ◌++◌, ◌+◌, ◌<◌, ◌==◌, ◌∙◌, ◌∷◌, ◌≡◌, ◌≤◌}
use Rattle.ed_syntax.proofs.Kit.{list_all, and_parts, or_parts, append-nil, map-append, Text, is_run_byte, begins_run}
use Rattle.ed_syntax.proofs.Kit.{has_quote, is_blank, LinePart, quoted, run, sign, part, parts_from, parts_of, rules}
use Rattle.ed_syntax.proofs.Kit.{with_run_byte, common_steps}
use Rattle.ed_codes.proofs.Readings.{other_byte}
use Rattle.ed_syntax.specs.Private.PartFronts.{SplitsQuote, SplitsRun}
use Rattle.ed_syntax.specs.declared.parts.Part as code

pub blank_parts : (b : ℕ) (bs : Text) → is_blank b ≡ true → parts_of (b ∷ bs) ≡ parts_of bs
blank_parts b bs e = search (rules, other_byte)

run_head : (b : ℕ) (bs : Text) → is_run_byte b ≡ true
    → parts_of (b ∷ bs) ≡ option_map (with_run_byte b bs) (parts_of bs)
run_head b bs e = search (rules, other_byte)

pub all_head : (b : ℕ) (bs : Text) → list_all is_run_byte (b ∷ bs) ≡ true
    → (is_run_byte b ≡ true) × (list_all is_run_byte bs ≡ true)
all_head b bs = and_parts (is_run_byte b) _

one_run : (b : ℕ) (rest : Text) (o : Option (List LinePart)) → begins_run rest ≡ false
    → option_map (with_run_byte b rest) o ≡ option_map (λ ps. run (b ∷ []) ∷ ps) o
one_run b rest None e = refl
one_run b rest (Some ps) e = simp e

more_run : (b c : ℕ) (r rest : Text) (o : Option (List LinePart)) → is_run_byte c ≡ true
    → option_map (with_run_byte b ((c ∷ r) ++ rest)) (option_map (λ ps. run (c ∷ r) ∷ ps) o)
    ≡ option_map (λ ps. run (b ∷ c ∷ r) ∷ ps) o
more_run b c r rest None e = refl
more_run b c r rest (Some ps) e = simp e

pub run_parts : (b : ℕ) (r rest : Text) → list_all is_run_byte (b ∷ r) ≡ true → begins_run rest ≡ false
    → parts_of ((b ∷ r) ++ rest) ≡ option_map (λ ps. run (b ∷ r) ∷ ps) (parts_of rest)
run_parts b [] rest e h = run_head b rest (all_head b [] e).0 ∙ one_run b rest (parts_of rest) h
run_parts b (c ∷ r) rest e h =
    let tail = (all_head b (c ∷ r) e).1 in
    run_head b ((c ∷ r) ++ rest) (all_head b (c ∷ r) e).0
    ∙ ap (option_map (with_run_byte b ((c ∷ r) ++ rest))) (run_parts c r rest tail h)
    ∙ more_run b c r rest _ (all_head c r tail).0

pub sign_parts : (b : ℕ) (bs : Text) → (b == 59) ≡ false → (b == 34) ≡ false → is_blank b ≡ false
    → is_run_byte b ≡ false → parts_of (b ∷ bs) ≡ option_map (λ ps. sign b ∷ ps) (parts_of bs)
sign_parts b bs c q s r = simp (c, q, s, r)

no_quote_head : (b : ℕ) (bs : Text) → has_quote (b ∷ bs) ≡ false → ((b == 34) ≡ false) × (has_quote bs ≡ false)
no_quote_head b bs = or_parts (b == 34) _

pub quote_parts : (q inside rest : Text) → has_quote inside ≡ false
    → parts_from (Some q) (inside ++ 34 ∷ rest) ≡ option_map (λ ps. quoted (q ++ inside) ∷ ps) (parts_of rest)
quote_parts q [] rest e = ap (λ (t : Text). option_map (λ ps. quoted t ∷ ps) (parts_of rest)) (sym (append-nil q))
quote_parts q (b ∷ bs) rest e =
    let here = no_quote_head b bs e in
    let other : (b == 34) ≡ false = here.0 in
    simp other (quote_parts _ bs rest here.1
    ∙ ap (λ (t : Text). option_map (λ ps. quoted t ∷ ps) (parts_of rest)) (append_assoc q (b ∷ []) bs))

pub open_parts : (q text : Text) → has_quote text ≡ false → parts_from (Some q) text ≡ None
open_parts q [] e = refl
open_parts q (b ∷ bs) e =
    let here = no_quote_head b bs e in let other : (b == 34) ≡ false = here.0 in simp other (open_parts _ bs here.1)

-- ---- what a call takes

pub run_takes : (line first rest : Text) → begins_run line ≡ true → SplitsRun line first rest
    → (parts_of line ≡ option_map (λ ps. run first ∷ ps) (parts_of rest)) × (length rest < length line)
run_takes line [] rest b s = absurd (cc)
run_takes line (x ∷ xs) rest b s = (
  ap parts_of s.whole ∙ run_parts x xs rest s.each s.end,
  (let size : length line ≡ length (x ∷ xs) + length rest = ap length s.whole ∙ length-append (x ∷ xs) rest
      in omega (arith, size)),
)

-- and what it takes after blanks: a string, nothing as a quote is never closed, or a run
pub quote_taken : (line here after inside rest : Text) → parts_of line ≡ parts_of here → length here ≤ length line
    → here ≡ 34 ∷ after → SplitsQuote after inside rest
    → (parts_of line ≡ option_map (λ ps. quoted inside ∷ ps) (parts_of rest)) × (length rest < length line)
quote_taken line here after inside rest same shorter split s = grind (arith, common_steps, quote_parts, length-append)

pub open_taken : (line here after : Text) → parts_of line ≡ parts_of here → here ≡ 34 ∷ after
    → has_quote after ≡ false → parts_of line ≡ None
open_taken line here after same split none = same ∙ ap parts_of split ∙ open_parts [] after none

pub run_taken : (line here after first rest : Text) (b : ℕ) → parts_of line ≡ parts_of here
    → length here ≤ length line → here ≡ b ∷ after → is_run_byte b ≡ true → SplitsRun here first rest
    → (parts_of line ≡ option_map (λ ps. run first ∷ ps) (parts_of rest)) × (length rest < length line)
run_taken line here after first rest b same shorter split begins s = grind (arith, common_steps, run_takes)

pub more_parts : (line rest after : Text) (ps : List code.Part) (p : code.Part)
    → parts_of line ≡ option_map (λ t. map part ps ++ t) (parts_of rest)
    → parts_of rest ≡ option_map (λ t. part p ∷ t) (parts_of after)
    → parts_of line ≡ option_map (λ t. map part (ps ++ p ∷ []) ++ t) (parts_of after)
more_parts line rest after ps p e h = e ∙ ap (option_map (λ t. map part ps ++ t)) h ∙ joined (parts_of after)
  where
    joined : (o : Option (List LinePart)) → option_map (λ t. map part ps ++ t) (option_map (λ t. part p ∷ t) o)
        ≡ option_map (λ t. map part (ps ++ p ∷ []) ++ t) o
    joined None = refl
    joined (Some t) =
        let whole = sym (append_assoc _ _ t)
        ∙ ap (λ (l : List LinePart). l ++ t) (sym (map-append part ps (p ∷ []))) in
        ap (λ (l : List LinePart). Some l) whole
