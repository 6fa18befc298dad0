-- What holds of both values of a choice holds of the choice.
use Rattle.std.proofs.Common.{◌≡◌, refl, Bool, true, false, if◌then◌else◌}

-- what holds of both branches of a test holds of the choice
pub if_means : {A : Type 0} (P : A → Type 0) (b : Bool) (x y : A) → (b ≡ true → P x) → (b ≡ false → P y)
    → P (if b then x else y)
if_means P true x y f g = f refl
if_means P false x y f g = g refl
