-- Digits that a piece prints one by one without leading zeros, as the print routine and the post-mortem do.
use Rattle.ed_machine.proofs.Names.{rules, List, suc, zero, ◌*◌, [], arith, Bool, false, Option, Some, true, ℕ, ◌+◌}
use Rattle.ed_machine.proofs.Names.{◌<◌, ◌∷◌, ◌≡◌, ◌≤◌}
use Rattle.ed_words.specs.declared.order_words.TheConstants.{V_F}
use Rattle.ed_machine.proofs.Kit.Frames.{Frame, Moment}
use Rattle.ed_machine.proofs.Kit.Paths.{Path, stay, followed}

-- whether a digit was printed, as the word that says so
abbrev pub flag_of : Bool → ℕ
flag_of true = 4096
flag_of false = 0

-- what is printed of a digit: a zero only if a digit was printed before it
abbrev pub shown : Bool → ℕ → List ℕ
shown false zero = []
shown false (suc q) = suc q ∷ []
shown true q = q ∷ []

-- whether a digit was printed then
abbrev pub begun : Bool → ℕ → Bool
begun false zero = false
begun false (suc q) = true
begun true q = true

-- the word that the accumulator was cleared into
abbrev pub spared : Bool → ℕ → ℕ
spared false zero = V_F
spared false (suc q) = 0
spared true q = 0

-- the last code printed, after these
abbrev pub last_of : Option ℕ → List ℕ → Option ℕ
last_of last [] = last
last_of last (c ∷ cs) = last_of (Some c) cs

-- a power is subtracted as often as possible; eight orders subtract it once and count the digit: the moments are those
-- with what is left of the number and the digit so far
pub taken_away : {n h : ℕ} {f : Frame n h} (moments : ℕ → ℕ → Moment) (power bound : ℕ)
    → ((u d : ℕ) → u + power < bound → d < 9 → Path f 8 (moments (u + power) d) [] (moments u (d + 1)))
    → (q d r : ℕ) → (q * power + r < bound) × (d + q ≤ 9)
    → Path f (8 * q) (moments (q * power + r) d) [] (moments r (d + q))
taken_away moments power bound once zero d r few = search (rules, stay)
taken_away moments power bound once (suc q) d r few =
    let e : 8 * suc q ≡ 8 + 8 * q = omega arith in
    let g : d + suc q ≡ d + 1 + q = omega arith in
    let s : suc q * power + r ≡ q * power + r + power = omega arith in
    rw (e, g, s) (followed (once (q * power + r) d (omega arith) (omega arith))
    (taken_away moments power bound once q (d + 1) r (omega arith, omega arith)))
