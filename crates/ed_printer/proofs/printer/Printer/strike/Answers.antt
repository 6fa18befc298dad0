use Rattle.ed_printer.proofs.Latest.{in_latest_shift}
use Rattle.ed_printer.proofs.printer.Printer.strike.Goals as goal

pub returns-clause-law : goal.returns-clause-law
returns-clause-law c = in_latest_shift
