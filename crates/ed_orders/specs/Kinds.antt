-- Which functions are orders: an order's function is the code of its letter (Wilkes, Wheeler and Gill 1951; the order
-- X, and F as it is here, are this project's own rules).
use Rattle.std.specs.Prelude.{◌≡◌, ◌↔◌, ℕ, List, [], ◌∷◌, Option, Some, None, false, codes, slice_index_or}
use Rattle.ed_codes.specs.Spelling.{byte_of}
use Rattle.ed_orders.specs.declared.kind.Kind.{Kind}
use Rattle.ed_orders.specs.declared.kind.Kind.TheVariants.{A, S, H, V, N, T, U, C, R, L, E, G, I, O, F, X, Y, Z}

-- the kinds of the functions 0 to 31, eight a line
abbrev pub kinds : List (Option Kind)
kinds =
    None ∷ None ∷ None ∷ Some E ∷ Some R ∷ Some T ∷ Some Y ∷ Some U
    ∷ Some I ∷ Some O ∷ None ∷ None ∷ Some S ∷ Some Z ∷ None ∷ None
    ∷ None ∷ Some F ∷ None ∷ None ∷ None ∷ Some H ∷ Some N ∷ None
    ∷ None ∷ Some L ∷ Some X ∷ Some G ∷ Some A ∷ None ∷ Some C ∷ Some V ∷ []

-- the order of a function, or None if it is not one, as for 32 and above
abbrev pub kind_of_function : ℕ → Option Kind
kind_of_function f = slice_index_or kinds f None

-- the letter of an order, as a text of one byte
abbrev pub letter_of : Kind → List ℕ
letter_of A = codes "A"
letter_of S = codes "S"
letter_of H = codes "H"
letter_of V = codes "V"
letter_of N = codes "N"
letter_of T = codes "T"
letter_of U = codes "U"
letter_of C = codes "C"
letter_of R = codes "R"
letter_of L = codes "L"
letter_of E = codes "E"
letter_of G = codes "G"
letter_of I = codes "I"
letter_of O = codes "O"
letter_of F = codes "F"
letter_of X = codes "X"
letter_of Y = codes "Y"
letter_of Z = codes "Z"

-- a function is an order's if and only if, as a tape code, it is spelled by the order's letter
abbrev pub FunctionIsByLetter : Type 0
FunctionIsByLetter = (f : ℕ) (k : Kind) → (kind_of_function f ≡ Some k) ↔ (letter_of k ≡ byte_of f false ∷ [])
