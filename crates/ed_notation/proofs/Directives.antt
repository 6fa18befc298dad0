-- What a row does: its numbers are in range, and the directive is a P, an E or a T at every row that the reader
-- reaches.
use Rattle.ed_notation.proofs.Kit.{if_means, List, lit≤, nat_le, nat_lt, true, ℕ, ◌+◌, ◌<◌, ◌≡◌, ◌≤◌, leb-false}
use Rattle.ed_notation.proofs.Kit.{ltb-false, locations, Size, locations_most, arith, ◌*◌, is_place, address}
use Rattle.ed_notation.proofs.Kit.{control_of, letter_action_of, letter_effect, row_effect, IsDirective, Control}
use Rattle.ed_notation.proofs.Kit.{Directive, Neither, ThetaByBlank, LetterAction, Enters, Places, RowKind, Blank}
use Rattle.ed_notation.proofs.Kit.{Digit, Kay, Letter, Mark, Other, Zed, DirectiveState, PartialItem, RowEffect, Ended}
use Rattle.ed_notation.proofs.Kit.{Entered, Longer, Placed, Refused}
use Rattle.ed_notation.specs.Reading.{kay_sets, zed_sets}
use Rattle.ed_notation.proofs.Tests.{AimMeans, ControlMeans, aim_means, control_means, is_place_means}

-- the numbers of what a row does are in range, and it leaves a directive
abbrev pub IsEffectInRange : DirectiveState → RowEffect → Type 0
IsEffectInRange setting (Refused cause) = Unit {0}
IsEffectInRange setting (Longer part k) = (part.number ≤ 32767) × (k ≤ 17)
IsEffectInRange setting (Ended next k) = (IsDirective setting.directive → IsDirective next.directive) × (k ≤ 17)
IsEffectInRange setting (Placed at word) =
    (IsDirective setting.directive → IsDirective (setting.directive + 2)) × (at < 1024) × (setting.directive < 24576)
IsEffectInRange setting (Entered at) = at < 1024

place_directive : (x : ℕ) → is_place x ≡ true → IsDirective x
place_directive x h = let range = (is_place_means x h).range in omega (arith, range)

module _ (z : Size) (setting : DirectiveState) (part : PartialItem) where
  abbrev Good : RowEffect → Type 0
  Good t = IsEffectInRange setting t

  kay : (k : Control) → ControlMeans k part.function → Good (kay_sets k setting part)
  kay Directive means = if_means Good (nat_lt 1023 part.number) _ _ (λ _. tt) (λ h.
      let l = ltb-false _ _ h in (λ _. omega (arith, l, means), lit≤ tt))
  kay Neither means = tt
  kay k means = if_means Good (nat_lt 1023 part.number) _ _ (λ _. tt) (λ _. (λ d. d, lit≤ tt))

  zed : (k : Control) → Good (zed_sets k setting part)
  zed Directive = if_means Good (is_place (4096 * part.function + 2 * part.number + setting.theta)) _ _
      (λ h. (λ _. place_directive _ h, lit≤ tt)) (λ _. tt)
  zed ThetaByBlank = if_means Good (nat_le 65536 (2 * part.number + setting.theta)) _ _ (λ _. tt)
      (λ _. (λ d. d, lit≤ tt))
  zed k = tt

  letter : (k : LetterAction) (word : ℕ) → AimMeans k setting.directive → Good (letter_effect z k setting word)
  letter Places word five =
      let most = locations_most z in
      if_means Good (nat_lt (address setting.directive) 44) _ _ (λ _. tt) (λ _.
      if_means Good (nat_le (locations z) (address setting.directive)) _ _ (λ _. tt) (λ h.
      let l = leb-false _ _ h in (λ _. omega (arith, l, most, five), omega (arith, l, most), omega (arith, five))))
  letter Enters word three =
      let most = locations_most z in
      if_means Good (nat_le (locations z) (address setting.directive)) _ _ (λ _. tt) (λ h.
      if_means Good (nat_le 65536 word) _ _ (λ _. tt) (λ _.
      if_means Good (nat_lt (address setting.directive) 44) _ _ (λ _. tt) (λ _.
      let l = leb-false _ _ h in omega (arith, l, most))))
  letter k word means = tt

  -- whatever a row does
  pub in_range : (r : RowKind) (words : List ℕ) (c : ℕ) → part.number ≤ 32767
      → Good (row_effect z r words setting part c)
  in_range Digit words c few = if_means Good part.mark _ _ (λ _. tt) (λ _.
      if_means Good (nat_lt 32767 (10 * part.number + c)) _ _ (λ _. tt) (λ h. (ltb-false _ _ h, lit≤ tt)))
  in_range Mark words c few = if_means Good part.mark _ _ (λ _. tt) (λ _. (few, lit≤ tt))
  in_range Zed words c few = if_means Good part.mark _ _ (λ _. tt) (λ _. zed (control_of part.function))
  in_range Kay words c few =
      if_means Good part.mark _ _ (λ _. tt) (λ _. kay (control_of part.function) (control_means part.function))
  in_range Blank words c few = if_means Good part.blank _ _ (λ _. (λ d. d, lit≤ tt)) (λ _. tt)
  in_range Letter words c few = letter (letter_action_of setting.directive) _ (aim_means setting.directive)
  in_range Other words c few = tt

-- the directive of a tape before its first row
pub first_directive : IsDirective 20568
first_directive = omega arith
