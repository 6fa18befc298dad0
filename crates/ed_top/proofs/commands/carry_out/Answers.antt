use Rattle.ed_top.proofs.Kit.{Answer, ap, rules, answer}
use Rattle.ed_command.specs.declared.command.Action.{Action}
use Rattle.ed_top.proofs.Writing.{known_carried, made_carried, Carried-written}
use Rattle.ed_top.proofs.commands.carry_out.Goals.{in-Tape, in-CheckTape, in-Tape1, in-CheckTape1, in-Run, in-Punch}
use Rattle.ed_top.proofs.commands.carry_out.Goals.{in-Listing, in-Call, in-Library, in-Demo, in-Step}
use Rattle.ed_top.proofs.commands.carry_out.Goals as goal

pub returns : goal.returns
returns g c =
    let of : Action → Answer = λ a. answer a c.args.command.settings in
    let written = c.write.ensures in
    elim c.match-command.branch [
      | in-Tape w ↦ Carried-written _ _ _ _ (ap of w.in-Tape.is) w.tape-reply.ensures (rw w.reply-is at written)
      | in-CheckTape w ↦
          Carried-written _ _ _ _ (ap of w.in-CheckTape.is) w.check_tape-reply.ensures (rw w.reply-is at written)
      | in-Run w ↦ Carried-written _ _ _ _ (ap of w.in-Run.is) w.run-reply.ensures (rw w.reply-is at written)
      | in-Punch w ↦ Carried-written _ _ _ _ (ap of w.in-Punch.is) (search rules) (rw w.reply-is at written)
      | in-Listing w ↦ Carried-written _ _ _ _ (ap of w.in-Listing.is) w.list-reply.ensures (rw w.reply-is at written)
      | in-Call w ↦ made_carried _ _ _ _ (ap of w.in-Call.is) w.call_routine-reply.ensures (rw w.reply-is at written)
      | in-Library w ↦
          known_carried _ _ _ _ (ap of w.in-Library.is) w.list_library-reply.ensures (rw w.reply-is at written)
      | in-Demo w ↦ made_carried _ _ _ _ (ap of w.in-Demo.is) w.demo-reply.ensures (rw w.reply-is at written)
      | in-Tape1 w ↦ Carried-written _ _ _ _ (ap of w.in-Tape1.is) w.tape1-reply.ensures (rw w.reply-is at written)
      | in-CheckTape1 w ↦
          Carried-written _ _ _ _ (ap of w.in-CheckTape1.is) w.check_tape1-reply.ensures (rw w.reply-is at written)
      | in-Step w ↦ Carried-written _ _ _ _ (ap of w.in-Step.is) w.step-reply.ensures (rw w.reply-is at written)
    ]
