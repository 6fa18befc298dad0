-- The letters and signs of the codes are ASCII.
use Rattle.ed_orders.proofs.Kit.{nat_lt, refl, slice_index, ℕ, ◌<◌, ltb-true, letters, from_below}

pub letter_ascii : (code : ℕ) → code < 32 → slice_index letters code < 128
letter_ascii code below = ltb-true _ 128 (from_below (λ k. nat_lt (slice_index letters k) 128) 32 code refl below)
