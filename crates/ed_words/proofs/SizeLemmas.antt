-- Addresses modulo the size of a store.
use Rattle.std.proofs.Common.{◌≡◌, ℕ, ◌%◌, ◌<◌, ◌≤◌, refl, sym, ◌∙◌, arith, Bool, true, false, nat_lt}
use Rattle.std.proofs.lemmas.Bool.{ltb-true, ltb-false, lt-ltb, le-ltb}
use Rattle.ed_words.specs.Sizes.{locations, within, WithinIsModulo}
use Rattle.ed_words.specs.declared.size.Size.{Size}
use Rattle.ed_words.specs.declared.size.Size.TheVariants.{Small, Full}

-- a number below 512 is itself
pub within_low : (z : Size) (n : ℕ) → n < 512 → within z n ≡ n
within_low z n h = rw (lt-ltb n 512 h) refl

-- a number of 512 or more is reduced
pub within_high : (z : Size) (n : ℕ) → 512 ≤ n → within z n ≡ n % locations z
within_high z n h = rw (le-ltb n 512 h) refl

by_size : (z : Size) (n : ℕ) → n < 512 → n ≡ n % locations z
by_size Small n h = omega arith
by_size Full n h = omega arith

-- `within` is the remainder modulo the size
pub within_is : WithinIsModulo
within_is z n = by_test (nat_lt n 512) refl
  where
    by_test : (b : Bool) → nat_lt n 512 ≡ b → within z n ≡ n % locations z
    by_test true e = within_low z n (ltb-true n 512 e) ∙ by_size z n (ltb-true n 512 e)
    by_test false e = within_high z n (ltb-false n 512 e)

-- a size is at most 1024
pub locations_most : (z : Size) → locations z ≤ 1024
locations_most Small = omega arith
locations_most Full = omega arith

-- a size is at least 512
pub locations_least : (z : Size) → 512 ≤ locations z
locations_least Small = omega arith
locations_least Full = omega arith

small : (z : Size) (n : ℕ) → n < locations z → n ≡ n % locations z
small Small n h = omega arith
small Full n h = omega arith

-- a number below the size is itself
pub within_below : (z : Size) (n : ℕ) → n < locations z → within z n ≡ n
within_below z n h = within_is z n ∙ sym (small z n h)

-- a number modulo the size is below it
pub within_fits : (z : Size) (n : ℕ) → within z n < locations z
within_fits Small n = rw (within_is Small n) (omega arith)
within_fits Full n = rw (within_is Full n) (omega arith)
