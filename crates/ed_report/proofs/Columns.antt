-- Numbers in columns, as `format!` writes them.
use Rattle.ed_report.proofs.Kit.{append-nil, short_at, order_text, [], ap, append_assoc, arith, codes, false, length}
use Rattle.ed_report.proofs.Kit.{List, ℕ, ◌++◌, ◌∷◌, ◌≡◌, decimal, right}
use Rattle.ed_machine.proofs.Names.{◌-◌, ◌^◌, Cells}
use Rattle.std.proofs.Common.{lit≤}
use Rattle.std.specs.Fmt.{char_count, format_spec, padded_integral}
use Rattle.std.specs.List.{repeat}
use Rattle.std.proofs.lemmas.Str.{encode_ascii}
use Rattle.ed_report.specs.Listings.{listing_line}

-- what `{n:WIDTH}` writes
pub in_columns : (width n : ℕ)
    → padded_integral (format_spec 32 0 0 width (2 ^ 64 - 1)) false [] (decimal n) ≡ right width n
unfolding padded_integral char_count
in_columns width n =
    let k = width - length (decimal n) in
    let short : width - length (decimal n) - 0 - 0 ≡ k = omega arith in
    let none : k - k ≡ 0 = omega arith in
    rw (short, none) (simp append-nil (ap (λ (e : List ℕ). repeat k e ++ decimal n) (encode_ascii 32 (lit≤ tt))))

pieces : (a b text : List ℕ)
    → a ++ 32 ∷ (b ++ 32 ∷ (text ++ 10 ∷ [])) ≡ a ++ codes " " ++ b ++ codes " " ++ text ++ 10 ∷ []
pieces a b text = simp append_assoc

-- what is written of a location is its line
pub line_wrote : (store : Cells) (place : ℕ) (four six text : List ℕ) → four ≡ right 4 place
    → six ≡ right 6 (short_at store place)
    → text ≡ order_text (short_at store place) → four ++ 32 ∷ (six ++ 32 ∷ (text ++ 10 ∷ [])) ≡ listing_line store place
line_wrote store place four six text a b c =
    rw (a, b, c) (pieces (right 4 place) (right 6 (short_at store place)) (order_text (short_at store place)))
