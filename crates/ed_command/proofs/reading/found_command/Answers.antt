use Rattle.ed_command.proofs.Kit.{map, options_in}
use Rattle.ed_command.proofs.Ranged.{found_in_range}
use Rattle.ed_command.proofs.reading.found_command.Goals as goal

pub returns-clause-ranges : goal.returns-clause-ranges
returns-clause-ranges c =
    found_in_range (map (λ w. w.now) c.unwrap_or.result.now) (options_in c.found_options.result) _
    c.command_of.ensures
