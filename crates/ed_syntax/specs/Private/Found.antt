-- What the code answers to parts, by what the grammar reads in them.
use Rattle.std.specs.Prelude.{List, Option, Some, None, Result, Ok, Err, map}
use Rattle.std.specs.Borrow.{Bor}
use Rattle.ed_syntax.specs.Parts.{LinePart}
use Rattle.ed_syntax.specs.Reading.Grammar.{Ranged}
use Rattle.ed_syntax.specs.Private.Seen.{part}
use Rattle.ed_syntax.specs.declared.form_fault.FormFault.{FormFault}
use Rattle.ed_syntax.specs.declared.form_fault.FormFault.TheVariants.{NotThisForm, OutOfRange}
use Rattle.ed_syntax.specs.declared.parts.Part.{Part}

-- what is read, or why nothing is: the parts don't have its form, or a number is out of its range
abbrev pub form_result : {A : Type 0} → Option (Ranged A) → Result A FormFault
form_result None = Err NotThisForm
form_result (Some None) = Err OutOfRange
form_result (Some (Some a)) = Ok a

-- what was found at the front, and the parts after it
abbrev pub front : {A : Type 0} → Option (A × Bor (List Part)) → Option (A × List LinePart)
front (Some p) = Some (p.0, map part p.1.now)
front None = None
