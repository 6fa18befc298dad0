-- The bytes of the codes spell them.
use Rattle.std.proofs.Common.{◌≡◌, ◌≢◌, ℕ, ◌<◌, refl, ap, Bool, true, false, List, length, get_or, arith}
use Rattle.std.specs.Prelude.{◌==◌, Option, Some, None, position, slice_index}
use Rattle.std.proofs.lemmas.Bool.Decides.{Decides-eqb, nat_tests}
use Rattle.std.specs.Char.{is_ascii_digit}
use Rattle.std.proofs.lemmas.List.Sums.{position_or_len_is}
use Rattle.ed_codes.specs.Spelling.{letters, row_of}
use Rattle.ed_codes.proofs.Below.{from_below}

-- two numbers that are not the same
pub eqb-differs : (b k : ℕ) → b ≢ k → (b == k) ≡ false
eqb-differs b k ne = grind (arith, nat_tests)

-- a byte that is no digit spells the code of a letter or sign, if any
pub no_digit : (byte : ℕ) → is_ascii_digit byte ≡ false → row_of byte ≡ position (λ b. b == byte) letters
no_digit byte e = rw e refl

-- the byte is at this index, and at none before it
pub first_at : (bytes : List ℕ) (byte n : ℕ) → n < length bytes
    → ((k : ℕ) → k < n → (get_or bytes k 0 == byte) ≡ false) → (get_or bytes n 0 == byte) ≡ true
    → position (λ b. b == byte) bytes ≡ Some n
first_at bytes byte n below before here =
    let at = position_or_len_is (λ b. b == byte) bytes n 0 (omega arith) before (λ _. here) in
    grind (arith, nat_tests)

-- the byte is at no index
pub at_none : (bytes : List ℕ) (byte : ℕ) → ((k : ℕ) → k < length bytes → (get_or bytes k 0 == byte) ≡ false)
    → position (λ b. b == byte) bytes ≡ None
at_none bytes byte others =
    let at = position_or_len_is (λ b. b == byte) bytes (length bytes) 0
    (omega arith) others (λ l. absurd (omega arith)) in
    grind (arith, nat_tests)

abbrev is_code : ℕ → Option ℕ → Bool
is_code code None = false
is_code code (Some row) = row == code

is_code_meaning : (code : ℕ) (r : Option ℕ) → is_code code r ≡ true → r ≡ Some code
is_code_meaning code None h = absurd (cc)
is_code_meaning code (Some row) h = ap Some ((Decides-eqb row code).0 h)

-- the letter or sign of a code spells it
pub letter_back : (code : ℕ) → code < 32 → row_of (slice_index letters code) ≡ Some code
letter_back code below =
    is_code_meaning code (row_of (slice_index letters code))
    (from_below (λ k. is_code k (row_of (slice_index letters k))) 32 code refl below)
