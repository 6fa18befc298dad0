-- The names that the proofs of this crate cite, passed on from one place. Declares nothing.
pub use Rattle.std.proofs.Common.{nat_le}
pub use Rattle.ed_machine.specs.Sheet.{Sheet}
pub use Rattle.ed_machine.specs.declared.ending.Ending.{Ending}
pub use Rattle.ed_machine.specs.declared.ending.Ending.TheVariants.{Limit, Stopped}
pub use Rattle.ed_machine.specs.declared.turn.Turn.{Turn}
pub use Rattle.ed_machine.specs.declared.turn.Turn.TheVariants.{NoOrder, NoTape, Printed, Went}
pub use Rattle.ed_machine.proofs.LeastNumbers.{first_once}
pub use Rattle.ed_machine.proofs.Names.{[], ap, arith, Bool, false, inl, inr, length, length-append, None, refl, rules}
pub use Rattle.ed_machine.proofs.Names.{Some, suc, sym, true, ℕ, ◌+◌, ◌-◌, ◌<◌, ◌∙◌, ◌≡◌, ◌≤◌, ◌⊎◌, nat_tests, State}
pub use Rattle.ed_machine.proofs.Names.{codes_of, is_obeyed, Progress, state_after, stops_of}
unfoldable pub use Rattle.ed_machine.proofs.Names.{step, progress}
pub use Rattle.ed_run.specs.Laws.{AllWent}
pub use Rattle.ed_run.specs.Run.{end_at, end_by, EndsAfter, IsRun, prints, run_orders}
unfoldable pub use Rattle.ed_run.specs.Run.{run_end}
