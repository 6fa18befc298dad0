-- The shift orders, each by its name on paper: R D shifts one place to the right, L F thirteen to the left.
use Rattle.ed_machine.proofs.Names.{◌/◌, refl, ℕ, ◌≡◌}
use Rattle.ed_words.specs.declared.order_words.TheConstants.{L_D, L_F, R_D}
use Rattle.ed_orders.specs.Places.{places}
use lib.Count.{count_trailing_zeros}

-- a word is the order of a function that shifts by this number of places
pub record IsShift (function word count : ℕ) : Type 0 where
  pub function_is : word / 4096 ≡ function
  pub places_are : places word ≡ count

pub RD : IsShift 4 R_D 1
unfolding places count_trailing_zeros
RD = record { function_is = refl; places_are = refl }

pub R4F : IsShift 4 16392 4
unfolding places count_trailing_zeros
R4F = record { function_is = refl; places_are = refl }

pub R16F : IsShift 4 16416 6
unfolding places count_trailing_zeros
R16F = record { function_is = refl; places_are = refl }

pub RF : IsShift 4 16384 15
unfolding places count_trailing_zeros
RF = record { function_is = refl; places_are = refl }

pub LD : IsShift 25 L_D 1
unfolding places count_trailing_zeros
LD = record { function_is = refl; places_are = refl }

pub L1F : IsShift 25 102402 2
unfolding places count_trailing_zeros
L1F = record { function_is = refl; places_are = refl }

pub L2F : IsShift 25 102404 3
unfolding places count_trailing_zeros
L2F = record { function_is = refl; places_are = refl }

pub L8F : IsShift 25 102416 5
unfolding places count_trailing_zeros
L8F = record { function_is = refl; places_are = refl }

pub L64F : IsShift 25 102528 8
unfolding places count_trailing_zeros
L64F = record { function_is = refl; places_are = refl }

pub L512F : IsShift 25 103424 11
unfolding places count_trailing_zeros
L512F = record { function_is = refl; places_are = refl }

pub LF : IsShift 25 L_F 13
unfolding places count_trailing_zeros
LF = record { function_is = refl; places_are = refl }
