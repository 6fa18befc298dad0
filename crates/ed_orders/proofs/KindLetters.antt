-- Each order's function is the code of its letter.
use Rattle.ed_orders.proofs.Kit.{[], ap, Bool, false, nat_lt, None, Option, refl, slice_index, Some, sym, true, ℕ, ◌<◌}
use Rattle.ed_orders.proofs.Kit.{◌∙◌, ◌∷◌, ◌≡◌, ltb-true, get_or_past, letters, from_below, kind_of_function, kinds}
use Rattle.ed_orders.proofs.Kit.{Kind, L, R}
use Rattle.std.proofs.Common.{unwrap_or, nat_eq, lit<}
use Rattle.std.proofs.lemmas.Bool.{eqb-true, ltb-false}
use Rattle.ed_codes.specs.Spelling.{byte_of, row_of}
use Rattle.ed_codes.proofs.Spellings.{letter_back}
use Rattle.ed_orders.specs.Kinds.{letter_of, FunctionIsByLetter}
use Rattle.ed_orders.specs.declared.kind.Kind.TheVariants.{A, S, H, V, N, T, U, C, E, G, I, O, F, X, Y, Z}

-- the function of an order
abbrev function_of_kind : Kind → ℕ
function_of_kind A = 28
function_of_kind S = 12
function_of_kind H = 21
function_of_kind V = 31
function_of_kind N = 22
function_of_kind T = 5
function_of_kind U = 7
function_of_kind C = 30
function_of_kind R = 4
function_of_kind L = 25
function_of_kind E = 3
function_of_kind G = 27
function_of_kind I = 8
function_of_kind O = 9
function_of_kind F = 17
function_of_kind X = 26
function_of_kind Y = 6
function_of_kind Z = 13

-- an order is the kind of its function, and its letter spells that function
record IsOwn (k : Kind) : Type 0 where
  below : function_of_kind k < 32
  kind : kind_of_function (function_of_kind k) ≡ Some k
  letter : letter_of k ≡ byte_of (function_of_kind k) false ∷ []

own : (k : Kind) → IsOwn k
own A = record { below = lit< tt; kind = refl; letter = refl }
own S = record { below = lit< tt; kind = refl; letter = refl }
own H = record { below = lit< tt; kind = refl; letter = refl }
own V = record { below = lit< tt; kind = refl; letter = refl }
own N = record { below = lit< tt; kind = refl; letter = refl }
own T = record { below = lit< tt; kind = refl; letter = refl }
own U = record { below = lit< tt; kind = refl; letter = refl }
own C = record { below = lit< tt; kind = refl; letter = refl }
own R = record { below = lit< tt; kind = refl; letter = refl }
own L = record { below = lit< tt; kind = refl; letter = refl }
own E = record { below = lit< tt; kind = refl; letter = refl }
own G = record { below = lit< tt; kind = refl; letter = refl }
own I = record { below = lit< tt; kind = refl; letter = refl }
own O = record { below = lit< tt; kind = refl; letter = refl }
own F = record { below = lit< tt; kind = refl; letter = refl }
own X = record { below = lit< tt; kind = refl; letter = refl }
own Y = record { below = lit< tt; kind = refl; letter = refl }
own Z = record { below = lit< tt; kind = refl; letter = refl }

abbrev has_function : ℕ → Option Kind → Bool
has_function f None = true
has_function f (Some k) = nat_eq f (function_of_kind k)

-- the function of a kind is that order's
from_kind : (f : ℕ) (k : Kind) → kind_of_function f ≡ Some k → f ≡ function_of_kind k
from_kind f k e = by_test (nat_lt f 32) refl
  where
    by_test : (b : Bool) → nat_lt f 32 ≡ b → f ≡ function_of_kind k
    by_test true t = eqb-true f _
        (sym (ap (has_function f) e) ∙ from_below (λ n. has_function n (kind_of_function n)) 32 f
        refl (ltb-true f 32 t))
    by_test false t = let none = sym (get_or_past kinds f None (ltb-false f 32 t)) ∙ e in absurd (cc)

-- the function that an order's letter spells is that order's
from_letter : (f : ℕ) (k : Kind) → letter_of k ≡ byte_of f false ∷ [] → f ≡ function_of_kind k
from_letter f k e = by_test (nat_lt f 32) refl
  where
    same : row_of (slice_index letters f) ≡ Some (function_of_kind k)
    same =
        let byte = ap (λ text. slice_index text 0) (sym e ∙ (own k).letter) in ap row_of byte
        ∙ letter_back (function_of_kind k) (own k).below

    by_test : (b : Bool) → nat_lt f 32 ≡ b → f ≡ function_of_kind k
    by_test true t = ap (λ row. unwrap_or row 0) (sym (letter_back f (ltb-true f 32 t)) ∙ same)
    by_test false t = let none = sym (ap row_of (get_or_past letters f 0 (ltb-false f 32 t))) ∙ same in absurd (cc)

-- a function is an order's if and only if the order's letter spells it
pub by_letter : FunctionIsByLetter
by_letter f k = (
  λ e. (own k).letter ∙ ap (λ n. byte_of n false ∷ []) (sym (from_kind f k e)),
  λ e. ap kind_of_function (from_letter f k e) ∙ (own k).kind,
)
