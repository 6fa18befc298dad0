-- Names are texts of 1 to 16 bytes.
use Rattle.ed_syntax.proofs.Kit.{[], arith, Bool, false, length, nat_le, Option, refl, rules, suc, true, zero, ℕ, ◌&&◌}
use Rattle.ed_syntax.proofs.Kit.{◌<◌, ◌==◌, ◌∷◌, ◌≡◌, ◌⊎◌, list_all, and_parts, nat_tests, Text, is_local_name}
use Rattle.ed_syntax.proofs.Kit.{is_lower, is_name, is_place_name, is_run_byte}
use Rattle.std.proofs.Common.{IfNone, IsNone}
use Rattle.std.specs.Str.{IsAscii}
use Rattle.std.proofs.lemmas.Str.{IsUtf8-from_ascii}
use Rattle.ed_syntax.specs.Private.Names.{IsNameText}

run_byte_small : (b : ℕ) → is_run_byte b ≡ true → b < 128
run_byte_small b h = grind (arith, nat_tests)

run_ascii : (bs : Text) → list_all is_run_byte bs ≡ true → IsAscii bs
run_ascii [] h i = omega arith
run_ascii (b ∷ bs) h zero = run_byte_small b (and_parts _ _ h).0
run_ascii (b ∷ bs) h (suc i) = run_ascii bs (and_parts _ _ h).1 i

-- a byte of a run, and up to 15 more
run_text : (b : ℕ) (bs : Text) → is_run_byte b ≡ true → nat_le (length bs) 15 ≡ true → list_all is_run_byte bs ≡ true
    → IsNameText (b ∷ bs)
run_text b bs first few rest = search (rules, IsUtf8-from_ascii, run_ascii)

lower_is_run : (b : ℕ) → is_lower b ≡ true → is_run_byte b ≡ true
lower_is_run b h = simp h

under_is_run : (b : ℕ) → (b == 95) ≡ true → is_run_byte b ≡ true
under_is_run b h = grind (arith, nat_tests)

pub name_text : (r : Text) → is_name r ≡ true → IsNameText r
name_text [] h = absurd (cc)
name_text (b ∷ bs) h =
    let parts = and_parts _ _ h in
    let more = and_parts _ _ parts.1 in
    run_text b bs (lower_is_run b parts.0) more.0 more.1

local_text : (r : Text) → is_local_name r ≡ true → IsNameText r
local_text [] h = absurd (cc)
local_text (b ∷ bs) h =
    let parts = and_parts _ _ h in
    let more = and_parts _ _ (and_parts _ _ parts.1).1 in
    run_text b bs (under_is_run b parts.0) more.0 more.1

pub place_name_text : (two : Bool) (r : Text) → is_place_name two r ≡ true → IsNameText r
place_name_text two r h = by_name (is_name r) refl
  where
    by_name : (x : Bool) → is_name r ≡ x → IsNameText r
    by_name true e = name_text r e
    by_name false e =
        let rest : (two && is_local_name r) ≡ true = rw e at h in local_text r (and_parts two _ rest).1

-- a text of a name has a name
pub IfNone-named : {A : Type 0} (P : Type 0) (o : Option A) (text r : Text) → text ≡ r → IsNameText r
    → (IsNone o → (length text ≡ 0) ⊎ (16 < length text)) → IfNone o P
IfNone-named P o text r same h none = search rules
