use Rattle.std.proofs.Common.{refl}
use Rattle.ed_printer.proofs.Tables.{letters_entry, figures_entry}
use Rattle.ed_printer.proofs.printer.Shift.characters.Goals as goal

pub returns-in-Letters : goal.returns-in-Letters
returns-in-Letters c = λ code below. letters_entry _ code code c.in-Letters.is refl below

pub returns-in-Figures : goal.returns-in-Figures
returns-in-Figures c = λ code below. figures_entry _ code code c.in-Figures.is refl below
