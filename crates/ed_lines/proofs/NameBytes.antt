-- Two names are equal if and only if their sizes and their 16 bytes are.
use Rattle.ed_lines.proofs.Kit.{drop, length, List, nat_eq, refl, take, ℕ, ◌&&◌, ◌++◌, ◌<◌, ◌≡◌, arith}
use Rattle.ed_lines.proofs.Kit.{◌≤◌, Decides-eqb, take_at, rules, common_steps}
use Rattle.std.proofs.Common.{replicate, IsUtf8}
use Rattle.std.specs.Bool.{Decides}
use Rattle.std.specs.Cmp.{both_ways}
use Rattle.std.specs.Cmp.Lexicographic.{pointwise}
use Rattle.std.proofs.lemmas.List.{drop-replicate}
use Rattle.std.proofs.lemmas.Slice.Eq.{slice_eq-Decides}
use Rattle.ed_lines.specs.PaddedNames.{IsPadded}

-- the test of two lists decides whether they are equal
list_test : (xs ys : List ℕ) → Decides (pointwise nat_eq xs ys) (xs ≡ ys)
list_test xs ys = slice_eq-Decides Decides-eqb xs ys (pointwise nat_eq xs ys) refl

pub same_bytes : (b d : List ℕ) (n m : ℕ) → IsPadded b n → IsPadded d m
    → (nat_eq n m && pointwise nat_eq b d) ≡ pointwise nat_eq (take n b) (take m d)
same_bytes b d n m p q = search (rules, both_ways, list_test)

-- a text at the front of 16 bytes that are 0
pub padded_text : (text : List ℕ) → 0 < length text → length text ≤ 16 → IsUtf8 text
    → IsPadded (text ++ drop (length text) (replicate 16 0)) (length text)
padded_text text some few utf8 =
    let n = length text in
    let rest = drop-replicate {X = ℕ} n 16 0 in
    let front : take n (text ++ drop n (replicate 16 0)) ≡ text = take_at text _ n refl in
    grind (arith, common_steps)
