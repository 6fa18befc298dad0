-- The accumulator has 71 digits after each order.
use Rattle.ed_checker.proofs.Kit.{nat_le, Kind, A, C, E, G, I, L, N, R, S, T, V, Y, [], Bool, false, List, lit<, nat_lt}
use Rattle.ed_checker.proofs.Kit.{Option, Some, true, ℕ, ◌<◌, ◌^◌, ◌∷◌, jump_order, obey_word, place_of, row_order}
use Rattle.ed_checker.proofs.Kit.{State}
use Rattle.ed_machine.proofs.SoundSteps.{plus71_fits, minus71_fits, plus_product_fits, minus_product_fits}
use Rattle.ed_machine.proofs.SoundSteps.{collated_fits, left71_fits, right71_fits}

jump_fits : (b : Bool) (p : ℕ) (s : State) → s.acc < 2 ^ 71 → (jump_order b p s).state.acc < 2 ^ 71
jump_fits true p s h = h
jump_fits false p s h = h

row_fits : (xs : List ℕ) (w : ℕ) (s : State) → s.acc < 2 ^ 71 → (row_order xs w s).state.acc < 2 ^ 71
row_fits [] w s h = h
row_fits (x ∷ xs) w s h = h

-- the accumulator has 71 digits
pub acc_fits : (k : Option Kind) (w : ℕ) (s : State) → s.acc < 2 ^ 71 → (obey_word k w s).state.acc < 2 ^ 71
acc_fits (Some A) w s h = plus71_fits _ _
acc_fits (Some S) w s h = minus71_fits _ _
acc_fits (Some V) w s h = plus_product_fits _ _ _
acc_fits (Some N) w s h = minus_product_fits _ _ _
acc_fits (Some T) w s h = lit< tt
acc_fits (Some C) w s h = collated_fits _ _ _
acc_fits (Some R) w s h = right71_fits _ _
acc_fits (Some L) w s h = left71_fits _ _
acc_fits (Some E) w s h = jump_fits (nat_lt s.acc (2 ^ 70)) (place_of s w) s h
acc_fits (Some G) w s h = jump_fits (nat_le (2 ^ 70) s.acc) (place_of s w) s h
acc_fits (Some I) w s h = row_fits s.tape w s h
acc_fits (Some Y) w s h = plus71_fits _ _
acc_fits other w s h = h
