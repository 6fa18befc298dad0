use Rattle.ed_machine.proofs.Names.{drop, take, ◌++◌, ◌≡◌}
use Rattle.ed_machine.proofs.machine.place_image.Given as goal

abbrev pub invariant-loop-i : goal.invariant-loop-i
invariant-loop-i l = l.store ≡ record {
  words = take l.i l.image ++ drop l.i l.fn.store.words;
  sandwich = l.fn.store.sandwich;
}
