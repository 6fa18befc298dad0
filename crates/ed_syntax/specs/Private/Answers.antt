-- The answers of the code, by the definitions.
use Rattle.std.specs.Prelude.{◌≡◌, ℕ, List, Result, Ok, Err, Vec}
use Rattle.std.specs.declared.alloc.Global.{Global}
use Rattle.ed_syntax.specs.Reading.Sources.{Fault}
use Rattle.ed_lines.specs.declared.fault.SourceCause.{SourceCause}
use Rattle.ed_lines.specs.declared.fault.SourceFault.{SourceFault}
use Rattle.ed_lines.specs.declared.fault.SourceFault.TheVariants.{At, Memory}
use Rattle.ed_syntax.specs.declared.form.Form.{Form}
use Rattle.ed_lines.specs.declared.program.Line.{Line}

-- a fault is the one of the definition, or memory ran out
abbrev pub IsFaultOf : Result (List Line) Fault → SourceFault → Type 0
IsFaultOf wanted (At k c) = wanted ≡ Err (record { line = k; cause = c })
IsFaultOf wanted Memory = Unit {0}

-- lines are those of the definition, or their fault is
abbrev pub LinesAre : Result (List Line) Fault → Result (Vec Line Global) SourceFault → Type 0
LinesAre wanted (Ok v) = wanted ≡ Ok v.items
LinesAre wanted (Err e) = IsFaultOf wanted e

-- what the line with the number k says is that of the definition, or its fault is, or memory ran out
abbrev pub LineIs : ℕ → Result Form SourceCause → Result Form SourceFault → Type 0
LineIs k wanted (Ok f) = wanted ≡ Ok f
LineIs k wanted (Err (At line c)) = (line ≡ k) × (wanted ≡ Err c)
LineIs k wanted (Err Memory) = Unit {0}
