use Rattle.ed_programs.proofs.FirstTapeRuns.{first_tape_prints_of}
use Rattle.ed_programs.proofs.SquaresRuns.{squares_run}
use Rattle.ed_programs.proofs.squares.squares_program.Goals as goal

pub returns-clause-law : goal.returns-clause-law
returns-clause-law c = first_tape_prints_of c.filled_program.result c.filled_program.ensures squares_run
