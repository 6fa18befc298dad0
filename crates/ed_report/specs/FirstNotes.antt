-- The line that the program writes for a fault of a tape of Initial Orders 1 (this project's own rule). It ends with a
-- line feed (10), and the row is in decimal.
use Rattle.std.specs.Prelude.{ℕ, List, [], ◌∷◌, ◌++◌, codes}
use Rattle.std.specs.Fmt.{decimal}
use Rattle.ed_initial1.specs.declared.cause.Tape1Cause.{Tape1Cause}
use Rattle.ed_initial1.specs.declared.cause.Tape1Cause.TheVariants.{EndOfTape, BadRow, NumberTooLarge, FirstWord}
use Rattle.ed_initial1.specs.declared.cause.Tape1Fault.{Tape1Fault}
use Rattle.ed_initial1.specs.declared.cause.Tape1Fault.TheVariants.{At, Memory}

-- the number and the text of each rule of the notation of Initial Orders 1
abbrev pub cause1_text : Tape1Cause → List ℕ
cause1_text EndOfTape = codes "K1 end of tape"
cause1_text BadRow = codes "K2 bad row"
cause1_text NumberTooLarge = codes "K3 number too large"
cause1_text FirstWord = codes "K4 first word"

-- `row R: Kk TEXT`; R is the row at which a tape breaks a rule
abbrev pub rule1_line : ℕ → Tape1Cause → List ℕ
rule1_line row cause = codes "row " ++ decimal row ++ codes ": " ++ cause1_text cause ++ 10 ∷ []

-- the line of a tape's fault; that no memory was found is not a line of this kind
abbrev pub tape1_fault_line : Tape1Fault → List ℕ
tape1_fault_line (At row cause) = rule1_line row cause
tape1_fault_line Memory = []
