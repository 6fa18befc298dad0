-- The names that the proofs of this crate cite, passed on from one place. Declares nothing.
pub use Rattle.std.proofs.Common.{append-nil, string_bytes, Vec}
pub use Rattle.std.specs.List.{flat_map}
pub use Rattle.std.specs.declared.alloc.Global.{Global}
pub use Rattle.std.proofs.lemmas.List.{drop_all}
pub use Rattle.std.proofs.lemmas.Result.{IfOk-weaker}
pub use Rattle.ed_words.specs.declared.memory.NoMemory.{NoMemory}
pub use Rattle.ed_store.specs.Cells.{short_at}
pub use Rattle.ed_orders.specs.Texts.{order_text}
pub use Rattle.ed_machine.specs.State.{State}
pub use Rattle.ed_lines.proofs.Kit.{[], ap, append_assoc, arith, codes, drop, false, get_or, IfOk, length, List, Ok}
pub use Rattle.ed_lines.proofs.Kit.{refl, Result, sym, ℕ, ◌++◌, ◌+◌, ◌<◌, ◌∙◌, ◌∷◌, ◌≡◌, ◌≤◌, decimal, common_steps}
pub use Rattle.ed_library.specs.Entries.{catalogue}
pub use Rattle.ed_report.specs.Catalogue.{parameter_text, routine_lines}
pub use Rattle.ed_report.specs.Listings.{right}
pub use Rattle.ed_report.specs.Traces.{letters_from}
