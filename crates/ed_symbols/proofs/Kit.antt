-- The names that the proofs of this crate cite, passed on from one place. Declares nothing.
pub use Rattle.std.proofs.Common.{is_none, is_some}
pub use Rattle.std.specs.List.{list_any}
pub use Rattle.std.proofs.lemmas.Bool.{or_cases, or_left, or_right}
pub use Rattle.std.proofs.lemmas.List.{at_drop_all, drop_more}
pub use Rattle.std.proofs.lemmas.List.Folds.{Any-from_list_any, list_any-from_Any}
pub use Rattle.ed_lines.specs.declared.fault.SourceCause.{SourceCause}
pub use Rattle.ed_lines.specs.declared.fault.SourceFault.{SourceFault}
pub use Rattle.ed_lines.specs.declared.fault.SourceFault.TheVariants.{At, Memory}
pub use Rattle.ed_lines.specs.declared.program.Line.{Line}
pub use Rattle.ed_lines.specs.declared.program.Setting.{Setting}
pub use Rattle.ed_lines.proofs.Kit.{[], ap, append_assoc, arith, Bool, drop, false, get_or, if◌then◌else◌, inl, inr}
pub use Rattle.ed_lines.proofs.Kit.{length, length-append, List, None, not, Option, refl, Some, subst, sym, true, ℕ, ℤ}
pub use Rattle.ed_lines.proofs.Kit.{◌*◌, ◌++◌, ◌+◌, ◌<◌, ◌||◌, ◌∙◌, ◌∷◌, ◌≡◌, ◌≤◌, ◌⊎◌, common_steps, append-nil}
pub use Rattle.ed_lines.proofs.Kit.{number_of, rules}
pub use Rattle.ed_symbols.specs.NameFaults.{counter_after, counter_from, IsLineAfter}
pub use Rattle.ed_symbols.specs.NameTests.{defines_again, is_no_address, is_unknown, names_unknown, naming_cause}
pub use Rattle.ed_symbols.specs.NameTests.{naming_fault_from, or_later, reaches_outside}
pub use Rattle.ed_symbols.specs.Names.{definition_of, line_definitions, symbols_from}
pub use Rattle.ed_symbols.specs.Operands.{operand_of}
pub use Rattle.ed_symbols.specs.Places.{after_statement, first_counter, segment_of}
pub use Rattle.ed_symbols.specs.declared.location_counter.LocationCounter.{LocationCounter}
pub use Rattle.ed_symbols.specs.declared.symbols.Definition.{Definition}
