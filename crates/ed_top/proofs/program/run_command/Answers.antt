use Rattle.ed_top.proofs.Kit.{Vec, Global, gains_none, INPUT_BYTES, Bool, false, length, Err, Ok, refl, true, ℕ, ◌≤◌}
use Rattle.ed_top.proofs.Kit.{device, Device, answer, HasInput}
use Rattle.ed_devices.proofs.Endings.{ended_carried, ended_unread, input_by}
use Rattle.ed_top.proofs.OneOutcome.{answer_once}
use Rattle.ed_top.proofs.program.run_command.Goals as goal

-- an input is within the limit
few_read : (reads : Bool) (source : Device) (v : Vec ℕ Global) → HasInput reads source (Ok v)
    → length v.items ≤ INPUT_BYTES
few_read false source v h = h.0
few_read true source v h = h.0

pub carry_out-requires : goal.carry_out-requires
carry_out-requires g c =
    let source = device g.S.Source.left g.S.Source.faults c.args.source.now c.input_of.new.source in
    record {
      few = rw c.deref.ensures.value (few_read c.reads_input.result source c.in-Ok.input c.in-Ok.ensures);
      ranges = c.requires;
    }

pub returns-in-Ok : goal.returns-in-Ok
returns-in-Ok g c =
    let a = answer c.args.command.action c.args.command.settings in
    let source = device g.S.Source.left g.S.Source.faults c.args.source.now c.input_of.new.source in
    ended_carried a source _ _ c.in-Ok.input _ _
    (input_by a source _ (Ok c.in-Ok.input) c.reads_input.ensures c.in-Ok.ensures)
    (rw c.deref.ensures.value at c.carry_out.ensures) c.end_carried.ensures

pub returns-in-Err : goal.returns-in-Err
returns-in-Err g c =
    let a = answer c.args.command.action c.args.command.settings in
    let source = device g.S.Source.left g.S.Source.faults c.args.source.now c.input_of.new.source in
    ended_unread a source _ _ c.in-Err.stop _ (answer_once c.args.command.action c.args.command.settings)
    (input_by a source _ (Err c.in-Err.stop) c.reads_input.ensures c.in-Err.ensures)
    (gains_none (g.K.Sink.held c.args.out.now)) refl c.end_unread.ensures
