-- The names that the proofs of this crate cite, passed on from one place. Declares nothing.
pub use Rattle.std.proofs.Common.{[], ap, append_assoc, arith, Bool, codes, drop, false, get_or, IfOk, IfSome}
pub use Rattle.std.proofs.Common.{if◌then◌else◌, inl, inr, length, length-append, List, map, nat_eq, nat_lt, neg_ℤ}
pub use Rattle.std.proofs.Common.{None, not, Ok, Option, pos, refl, Result, rules, Some, subst, sym, take, true, zero}
pub use Rattle.std.proofs.Common.{ℕ, ℤ, ◌&&◌, ◌*◌, ◌++◌, ◌+◌, ◌<◌, ◌==◌, ◌^◌, ◌||◌, ◌∙◌, ◌∷◌, ◌≡◌, ◌≤◌, ◌⊎◌}
pub use Rattle.std.specs.Fmt.{decimal}
pub use Rattle.std.specs.List.{list_all}
pub use Rattle.std.proofs.lemmas.Bool.{and_from, and_parts}
pub use Rattle.std.proofs.lemmas.Bool.Decides.{Decides-eqb, nat_tests}
pub use Rattle.std.proofs.lemmas.Grind.{common_steps}
pub use Rattle.std.proofs.lemmas.List.{append-nil, length-map, take_at}
pub use Rattle.std.proofs.lemmas.Slice.Eq.{bytes_eq-Decides}
pub use Rattle.ed_words.specs.Texts.{Text}
pub use Rattle.ed_lines.specs.Causes.{number_of}
pub use Rattle.ed_lines.specs.Names.{is_name, is_place_name}
pub use Rattle.ed_lines.specs.Programs.{AreNumbered, is_base, is_line, is_operand, is_setting, is_statement}
pub use Rattle.ed_lines.specs.declared.fault.SourceCause.{SourceCause}
pub use Rattle.ed_lines.specs.declared.program.Operand.{Operand}
pub use Rattle.ed_lines.specs.declared.program.Setting.{Setting}
pub use Rattle.ed_lines.specs.declared.program.Statement.{Statement}
