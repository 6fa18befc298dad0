-- A text has the parts that are read in it, and no others.
use Rattle.ed_syntax.proofs.Kit.{[], ap, append_assoc, false, List, None, Option, option_map, rules}
use Rattle.ed_syntax.proofs.Kit.{refl, Some, true, ℕ, ◌++◌, ◌==◌, ◌∙◌, ◌∷◌, ◌≡◌, Decides-eqb}
use Rattle.ed_syntax.proofs.Kit.{Text, blank, comment, HasLineParts, is_sign, nothing, one_run, one_sign, one_string}
use Rattle.ed_syntax.proofs.Kit.{is_run_byte, has_quote, is_blank, LinePart, quoted, run, sign, parts_from, parts_of}
use Rattle.ed_syntax.proofs.Kit.{with_run_byte}
use Rattle.ed_syntax.proofs.PartLemmas.{blank_parts, run_parts, sign_parts, quote_parts}
use Rattle.ed_syntax.proofs.Kit.{arith, begins_run, IfSome, nat_tests}
use Rattle.std.proofs.lemmas.Bool.{both_ways, cond_both, or_parts, not-true}
use Rattle.std.proofs.lemmas.List.Folds.{list_any-append}
use Rattle.std.proofs.lemmas.Option.{IfSome_then}
use Rattle.ed_syntax.specs.Reading.Parts.{longer}

-- what a byte that is a part by itself is not
pub record IsOther (b : ℕ) : Type 0 where
  pub comment : (b == 59) ≡ false
  pub quote : (b == 34) ≡ false
  pub space : is_blank b ≡ false
  pub run_byte : is_run_byte b ≡ false

pub other : (b : ℕ) → is_sign b ≡ true → IsOther b
other b e =
    let p = or_parts (b == 59) _ (not-true _ e) in
    let q = or_parts (b == 34) _ p.1 in
    let r = or_parts (is_blank b) _ q.1 in
    record { comment = p.0; quote = q.0; space = r.0; run_byte = r.1 }

-- the parts that a text has are read in it
pub parts_are_read : (text : Text) (ps : List LinePart) → HasLineParts text ps → parts_of text ≡ Some ps
parts_are_read _ _ nothing = refl
parts_are_read _ _ (comment bytes) = refl
parts_are_read _ _ (blank b text ps e h) = blank_parts b text e ∙ parts_are_read text ps h
parts_are_read _ _ (one_sign b text ps e h) =
    let o = other b e in
    sign_parts b text o.comment o.quote o.space o.run_byte
    ∙ ap (option_map (λ t. sign b ∷ t)) (parts_are_read text ps h)
parts_are_read _ _ (one_string q text ps e h) =
    quote_parts [] q text e ∙ ap (option_map (λ t. quoted q ∷ t)) (parts_are_read text ps h)
parts_are_read _ _ (one_run b r text ps e f h) =
    run_parts b r text e f ∙ ap (option_map (λ t. run (b ∷ r) ∷ t)) (parts_are_read text ps h)

-- ---- what is read is there

-- what is read outside quotes, or after a quote and some bytes
abbrev IsRead : Option Text → Text → List LinePart → Type 0
IsRead None bytes ps = HasLineParts bytes ps
IsRead (Some q) bytes ps = has_quote q ≡ false → HasLineParts (34 ∷ q ++ bytes) ps

-- the text has what is read in it
abbrev HasRead : Text → Option (List LinePart) → Type 0
HasRead bytes o = IfSome o (HasLineParts bytes)

-- a blank is not a byte of a run
no_run_byte : (b : ℕ) → is_blank b ≡ true → is_run_byte b ≡ false
no_run_byte b e = grind (arith, nat_tests)

-- a byte of a run before a run belongs to it
before_run : (b : ℕ) (bs : Text) (ps : List LinePart) → is_run_byte b ≡ true → HasLineParts bs ps
    → begins_run bs ≡ true → HasLineParts (b ∷ bs) (longer b ps)
before_run b _ _ e (one_run c r text ps f g h) t = one_run b (c ∷ r) text ps (rw e f) g h
before_run b _ _ e (blank c text ps f h) t = absurd (both_ways _ (no_run_byte c f) t)
before_run b _ _ e (one_sign c text ps f h) t = absurd (both_ways _ (other c f).run_byte t)
before_run b _ _ e h t = absurd (cc)

-- what is made of what is read
made : {A B : Type 0} (P : A → Type 0) (Q : B → Type 0) (f : A → B) (o : Option A) → IfSome o P
    → ((x : A) → P x → Q (f x)) → IfSome (option_map f o) Q
made P Q f o h step = search rules

run_byte : (b : ℕ) (bs : Text) (ps : List LinePart) → is_run_byte b ≡ true → HasLineParts bs ps
    → HasLineParts (b ∷ bs) (with_run_byte b bs ps)
run_byte b bs ps e h = cond_both (begins_run bs) _ _ (HasLineParts (b ∷ bs)) (before_run b bs ps e h)
    (λ ends. one_run b [] bs ps (simp e) ends h)

one_byte : (b : ℕ) (bs : Text) → ((o : Option Text) → IfSome (parts_from o bs) (IsRead o bs))
    → HasRead (b ∷ bs) (parts_of (b ∷ bs))
one_byte b bs behind =
    cond_both (b == 59) _ _ (HasRead (b ∷ bs)) (λ h. rw ((Decides-eqb b 59).0 h) (comment bs)) (λ h.
    cond_both (b == 34) _ _ (HasRead (b ∷ bs)) (λ i. rw ((Decides-eqb b 34).0 i)
    (IfSome_then (parts_from (Some []) bs) (behind (Some [])) (λ ps g. g refl))) (λ i.
    cond_both (is_blank b) _ _ (HasRead (b ∷ bs)) (λ j. IfSome_then _ outside (λ ps. blank b bs ps j)) (λ j.
    cond_both (is_run_byte b) _ _ (HasRead (b ∷ bs))
    (λ k. made _ (HasLineParts (b ∷ bs)) (with_run_byte b bs) _ outside (λ ps. run_byte b bs ps k))
    (λ k. made _ (HasLineParts (b ∷ bs)) (λ ps. sign b ∷ ps) _ outside (λ ps. one_sign b bs ps (simp (h, i, j, k)))))))
  where
    outside : HasRead bs (parts_of bs)
    outside = behind None

string_byte : (q : Text) (b : ℕ) (bs : Text) → ((o : Option Text) → IfSome (parts_from o bs) (IsRead o bs))
    → IfSome (parts_from (Some q) (b ∷ bs)) (IsRead (Some q) (b ∷ bs))
string_byte q b bs behind = cond_both (b == 34) _ _ (λ o. IfSome o (IsRead (Some q) (b ∷ bs)))
    (λ e. made _ (IsRead (Some q) (b ∷ bs)) (λ ps. quoted q ∷ ps) _ (behind None) (λ ps h none.
    rw ((Decides-eqb b 34).0 e) (one_string q bs ps none h)))
    (λ e. IfSome_then (parts_from (Some (q ++ b ∷ [])) bs) (behind (Some (q ++ b ∷ []))) (λ ps h none.
    rw append_assoc at (h (rw (list_any-append (λ c. c == 34) q (b ∷ []), none, e) refl))))

read_from : (bytes : Text) (o : Option Text) → IfSome (parts_from o bytes) (IsRead o bytes)
read_from [] None = nothing
read_from [] (Some q) = tt
read_from (b ∷ bs) None = one_byte b bs (read_from bs)
read_from (b ∷ bs) (Some q) = string_byte q b bs (read_from bs)

-- the parts that are read in a text are those that it has
pub read_parts_are : (text : Text) (ps : List LinePart) → parts_of text ≡ Some ps → HasLineParts text ps
read_parts_are text ps e = rw e at (read_from text None)
