use Rattle.ed_stepper.proofs.Kit.{[], refl, rules, sym, ◌++◌, ◌∙◌, ◌≡◌, err_from_is_err_and, commands_of}
use Rattle.ed_stepper.proofs.CommandLaws.{read_in_range}
use Rattle.ed_stepper.proofs.Plays.{playing_done, playing_fault, playing_first, playing_left, playing_next}
use Rattle.ed_stepper.proofs.ScriptLaws.{good_script, none_is_bad}
use Rattle.ed_stepper.proofs.script.run_script.Goals as goal

pub loop-rest-init : goal.loop-rest-init
loop-rest-init c =
    playing_first c.args.script.now _ c.args.session.now
    (none_is_bad c.args.script.now _ c.in_default.is c.bad_line.ensures.is) c.new-text.ensures.items

pub carry_out-requires : goal.carry_out-requires
carry_out-requires c =
    read_in_range c.first_line.result.0.now c.unwrap-command.result
    (sym c.command_of.ensures ∙ c.unwrap-command.ensures)

pub returns-in_err-extend_from_slice-in-Ok : goal.returns-in_err-extend_from_slice-in-Ok
returns-in_err-extend_from_slice-in-Ok c =
    let r = c.from_residual in
    let p = err_from_is_err_and r.result r.ensures.1 in
    let ends = rw c.in-Ok.is at c.carry_out.ensures in
    rw (p.1, p.2) (
      commands_of c.args.script.now,
      good_script c.args.script.now (none_is_bad c.args.script.now _ c.in_default.is c.bad_line.ensures.is),
      playing_left (playing_next c.loop-rest.invariant c.first_line.result.1.now c.first_line.ensures.lines
          (sym c.command_of.ensures ∙ c.unwrap-command.ensures) ends refl),
    )

pub returns-in-Err : goal.returns-in-Err
returns-in-Err c =
    let ends = rw c.in-Err.is at c.carry_out.ensures in
    let good = good_script c.args.script.now (none_is_bad c.args.script.now _ c.in_default.is c.bad_line.ensures.is) in
    let is = playing_fault c.loop-rest.invariant c.first_line.result.1.now c.first_line.ensures.lines
    (sym c.command_of.ensures ∙ c.unwrap-command.ensures) good c.in-Err.fault _ ends in
    rw c.on_line.ensures is

pub loop-rest-preserved : goal.loop-rest-preserved
loop-rest-preserved c =
    let ends = rw c.in-Ok.is at c.carry_out.ensures in
    let grown : c.extend_from_slice.new.self.items ≡ c.loop-rest.text.items ++ c.in-Ok.written.items = search rules in
    playing_next c.loop-rest.invariant c.first_line.result.1.now c.first_line.ensures.lines
    (sym c.command_of.ensures ∙ c.unwrap-command.ensures) ends grown

pub returns : goal.returns
returns c =
    let none : c.loop-rest.rest.now ≡ [] = search rules in (
      commands_of c.args.script.now,
      good_script c.args.script.now (none_is_bad c.args.script.now _ c.in_default.is c.bad_line.ensures.is),
      playing_done c.loop-rest.invariant none,
    )
