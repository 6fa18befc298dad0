-- Settings, one at a time.
use Rattle.ed_syntax.proofs.Kit.{[], ap, arith, Bool, Err, List, None, Ok, Option, option_and_then, option_map, refl}
use Rattle.ed_syntax.proofs.Kit.{Some, suc, zero, ℕ, ◌-◌, ◌<◌, ◌∙◌, ◌∷◌, ◌≡◌, array, LinePart, sign, form_result}
use Rattle.ed_syntax.proofs.Kit.{Ranged, ranged_map, settings, FormFault, NotThisForm, OutOfRange, Setting}
use Rattle.arrayvec.specs.ArrayVec.{ArrayVec}
use Rattle.std.specs.Option.{ok_or}
use Rattle.ed_syntax.specs.Reading.Grammar.{and_more, both, setting}

step : (two : Bool) (k : ℕ) (parts : List LinePart) → 0 < k
    → settings two k parts ≡ option_and_then (λ p. and_more p.0 p.1 (settings two (k - 1))) (setting two parts)
unfolding settings
step two zero parts h = absurd (omega arith)
step two (suc j) parts h =
    let e : j ≡ suc j - 1 = omega arith in
    ap (λ (n : ℕ). option_and_then (λ p. and_more p.0 p.1 (settings two n)) (setting two parts)) e

pub none_left : (two : Bool) (k : ℕ) (parts : List LinePart) → k ≡ 0 → settings two k parts ≡ None
unfolding settings
none_left two k parts e = rw e refl

pub no_setting : (two : Bool) (k : ℕ) (parts : List LinePart) → 0 < k → setting two parts ≡ None
    → settings two k parts ≡ None
no_setting two k parts h e = step two k parts h ∙ ap (option_and_then (λ p. and_more p.0 p.1 (settings two (k - 1)))) e

pub first_setting : (two : Bool) (k : ℕ) (parts rest : List LinePart) (s : Ranged Setting) → 0 < k
    → setting two parts ≡ Some (s, rest)
    → settings two k parts ≡ and_more s rest (settings two (k - 1))
first_setting two k parts rest s h e =
    step two k parts h ∙ ap (option_and_then (λ p. and_more p.0 p.1 (settings two (k - 1)))) e

-- a setting before what is neither the end nor a comma
pub not_read : (two : Bool) (k : ℕ) (parts rest : List LinePart) (s : Ranged Setting) → 0 < k
    → setting two parts ≡ Some (s, rest) → and_more s rest (settings two (k - 1)) ≡ None
    → Err NotThisForm ≡ form_result (ranged_map array (settings two k parts))
not_read two k parts rest s h e stop = rw (first_setting two k parts rest s h e, stop) refl

-- a setting alone
pub one_setting : (two : Bool) (k : ℕ) (parts : List LinePart) (s : Ranged Setting) → 0 < k
    → setting two parts ≡ Some (s, [])
    → ok_or (option_map array (both s (Some []))) OutOfRange ≡ form_result (ranged_map array (settings two k parts))
one_setting two k parts s h e = rw (first_setting two k parts [] s h e) (alone s)
  where
    alone : (s : Ranged Setting) → ok_or (option_map array (both s (Some []))) OutOfRange
        ≡ form_result (ranged_map array (Some (option_map (λ a. a ∷ []) s)))
    alone None = refl
    alone (Some x) = refl

-- a setting before others that are not read
pub fault_after : (two : Bool) (k : ℕ) (parts rest : List LinePart) (s : Ranged Setting) (fault : FormFault) → 0 < k
    → setting two parts ≡ Some (s, sign 44 ∷ rest)
    → Err fault ≡ form_result (ranged_map array (settings two (k - 1) rest))
    → Err fault ≡ form_result (ranged_map array (settings two k parts))
fault_after two k parts rest s fault h e = rw (first_setting two k parts _ s h e) (same s _)
  where
    same : (s : Ranged Setting) (o : Option (Ranged (List Setting))) → Err fault ≡ form_result (ranged_map array o)
        → Err fault ≡ form_result (ranged_map array (option_map (both s) o))
    same s None f = f
    same None (Some None) f = f
    same (Some x) (Some None) f = f
    same s (Some (Some xs)) f = absurd (cc)

-- and before others that are
pub setting_before : (two : Bool) (k : ℕ) (parts rest : List LinePart) (s : Ranged Setting) (more : ArrayVec Setting)
    → 0 < k → setting two parts ≡ Some (s, sign 44 ∷ rest)
    → Ok more ≡ form_result (ranged_map array (settings two (k - 1) rest))
    → ok_or (option_map array (both s (Some more.items))) OutOfRange
    ≡ form_result (ranged_map array (settings two k parts))
setting_before two k parts rest s more h e = rw (first_setting two k parts _ s h e) (same s _)
  where
    same : (s : Ranged Setting) (o : Option (Ranged (List Setting))) → Ok more ≡ form_result (ranged_map array o)
        → ok_or (option_map array (both s (Some more.items))) OutOfRange
        ≡ form_result (ranged_map array (option_map (both s) o))
    same s None f = absurd (cc)
    same s (Some None) f = absurd (cc)
    same None (Some (Some xs)) f = refl
    same (Some x) (Some (Some xs)) f =
        let is : more ≡ array xs = cc in rw is refl
