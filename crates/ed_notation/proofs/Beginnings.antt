-- The beginning of a tape up to its fault: no rule is broken before it, and no row of it costs more than 17 orders.
use Rattle.ed_notation.proofs.Kit.{[], inl, inr, length, length-append, List, lit≤, None, Option, refl, Some, true}
use Rattle.ed_notation.proofs.Kit.{true≢false, ℕ, ◌∷◌, ◌≡◌, ◌≤◌, Size, arith, sym, ◌*◌, IsSoundTo, is_broken, IsFault}
use Rattle.ed_notation.proofs.Kit.{IsRead, part_rows, NotationState, Begun, mark_rows, TapeCause, EndOfTape, rules}
use Rattle.ed_notation.specs.Beginnings.{part_cost, orders_before}
use Rattle.ed_notation.proofs.Costs.{all_most, mark_most}

-- no rule is broken before a fault
pub fault_sound : {z : Size} {words : List ℕ} {start : NotationState} {rows : List ℕ} {row : ℕ} {cause : TapeCause}
    → IsFault z words start rows row cause → IsSoundTo z words start rows row
fault_sound {row = row} {cause} f r other b =
    elim (f.least r other b) [ inl less ↦ omega arith | inr same ↦ omega (arith, same.0) ]

-- where a tape must not end, it ends
pub is_broken-end_of_tape : (z : Size) (words : List ℕ) (n : NotationState) (part : Option Begun) (rest : List ℕ)
    → is_broken z words n part rest EndOfTape ≡ true → rest ≡ []
is_broken-end_of_tape z words n part [] h = refl
is_broken-end_of_tape z words n None (c ∷ rest) h = absurd (true≢false (sym h))
is_broken-end_of_tape z words n (Some b) (c ∷ rest) h = absurd (true≢false (sym h))

part_most : (part : Option Begun) → part_cost part ≤ 17 * length (part_rows part)
part_most None = lit≤ tt
part_most (Some b) = omega (arith, mark_most b.mark, length-append b.digits (mark_rows b.mark))

-- the rows before a row cost no more than 17 orders each
pub beginning_most : {words : List ℕ} {start : NotationState} {rows : List ℕ} {row : ℕ}
    (r : IsRead words start rows row) → orders_before r ≤ 17 * length rows
beginning_most {words} {start} {rows} r = search (rules, length-append, all_most, part_most)
