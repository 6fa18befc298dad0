-- The letter of an order is what its function prints in letter shift.
use Rattle.ed_page.proofs.Kit.{Kind, function_of, kind_of_function, ap, false, if◌then◌else◌, List, None, Option, refl}
use Rattle.ed_page.proofs.Kit.{Some, ℕ, ◌≡◌, letter_byte}
use Rattle.std.proofs.Common.{is_some, slice_index}
use Rattle.ed_codes.specs.Spelling.{byte_of}
use Rattle.ed_orders.proofs.KindLetters.{by_letter}
use Rattle.ed_page.specs.Meanings.{letter_shown}

by_kind : (f : ℕ) (kind : Option Kind) → kind_of_function f ≡ kind
    → letter_byte kind ≡ (if is_some kind then byte_of f false else 0)
by_kind f None e = refl
by_kind f (Some kind) e = ap (λ (text : List ℕ). slice_index text 0) ((by_letter f kind).0 e)

pub letter_is : (w : ℕ) → letter_byte (kind_of_function (function_of w)) ≡ letter_shown w
letter_is w = by_kind (function_of w) (kind_of_function (function_of w)) refl
