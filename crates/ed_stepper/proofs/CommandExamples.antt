-- Worked lines of scripts: what each says, and the only answer that the public clause of `bad_line` allows for it.
use Rattle.ed_stepper.proofs.Kit.{[], codes, None, Option, refl, Some, ℕ, ◌++◌, ◌∷◌, ◌≡◌, Text, go, LineSaysCommand}
use Rattle.ed_stepper.proofs.Kit.{no_part, one_part, one_space, bad_line, HasBadLine, Accumulator, Move, Nothing, Show}
use Rattle.std.proofs.Common.{lit≤}
use Rattle.ed_stepper.proofs.CommandLaws.{read_line_says}
use Rattle.ed_stepper.proofs.ScriptLaws.{bad_line_is, never_both, one_bad_line}
use Rattle.ed_stepper.specs.declared.moves.MoveTarget.TheVariants as aims

-- ---- lines that say a command

-- by hand: spaces at either end, and leading zeros
by_hand : LineSaysCommand (codes "  go 07 ") (Move (aims.Orders 7))
by_hand = record {
  parts = codes "go" ∷ codes "07" ∷ [];
  has_parts = one_space _ _ (one_space _ _ (one_part 103 (111 ∷ []) _ _ refl refl (one_space _ _
      (one_part 48 (55 ∷ []) _ _ refl refl (one_space _ _ no_part)))));
  says = go (codes "07")
      (record { some = lit≤ tt; few = lit≤ tt; digits = refl; at_least = lit≤ tt; at_most = lit≤ tt });
}

-- a line of spaces does nothing
spaces : LineSaysCommand (codes "  ") Nothing
spaces = read_line_says _ _ refl

-- one location is shown as those from it to itself
one_place : LineSaysCommand (codes "show 1023") (Show 1023 1023)
one_place = read_line_says _ _ refl

accumulator : LineSaysCommand (codes "show   acc") Accumulator
accumulator = read_line_says _ _ refl

-- ---- what `bad_line` may answer

only_bad : (script : Text) (k : ℕ) → bad_line script ≡ Some k → (r : Option ℕ) → HasBadLine script r → r ≡ Some k
only_bad script k e None h = absurd (never_both script h.0 k h.1 (bad_line_is script (Some k) e))
only_bad script k e (Some n) h =
    let same = one_bad_line script n k h (bad_line_is script (Some k) e) in λ i. Some (same i)

only_good : (script : Text) → bad_line script ≡ None → (r : Option ℕ) → HasBadLine script r → r ≡ None
only_good script e None h = refl
only_good script e (Some n) h = let s = bad_line_is script None e in absurd (never_both script s.0 n s.1 h)

-- three lines, the last without an end
good : (r : Option ℕ) → HasBadLine (codes "entry" ++ 13 ∷ 10 ∷ 10 ∷ codes "back 0") r → r ≡ None
good = only_good _ refl

-- a tab is not a space
tab : (r : Option ℕ) → HasBadLine (9 ∷ []) r → r ≡ Some 1
tab = only_bad _ 1 refl

-- 1 is the least number of orders, and a number has 9 digits at most
go_0 : (r : Option ℕ) → HasBadLine (codes "go 1\ngo 0\ngo 0") r → r ≡ Some 2
go_0 = only_bad _ 2 refl

ten_digits : (r : Option ℕ) → HasBadLine (codes "go 0000000001") r → r ≡ Some 1
ten_digits = only_bad _ 1 refl

-- the second location of `show` is not below the first
show_back : (r : Option ℕ) → HasBadLine (codes "show 5 4") r → r ≡ Some 1
show_back = only_bad _ 1 refl

-- `entry` has nothing after it, and no command has capital letters
entry_5 : (r : Option ℕ) → HasBadLine (codes "entry 5") r → r ≡ Some 1
entry_5 = only_bad _ 1 refl

capital : (r : Option ℕ) → HasBadLine (codes "Entry") r → r ≡ Some 1
capital = only_bad _ 1 refl
