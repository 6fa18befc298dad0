use Rattle.ed_devices.proofs.Kit.{refl}
use Rattle.ed_devices.proofs.devices.write_note.Goals as goal

pub returns-in-Ok : goal.returns-in-Ok
returns-in-Ok g c = record {
  done = λ not_9. (refl, c.in-Ok.ensures.whole, c.in-Ok.ensures.faults);
  part = λ is_9. absurd (c.requires is_9);
}

pub returns-in-Err : goal.returns-in-Err
returns-in-Err g c = record {
  done = λ not_9. absurd (not_9 refl);
  part = λ is_9. (c.in-Err.ensures.faults, c.in-Err.ensures.whole);
}
