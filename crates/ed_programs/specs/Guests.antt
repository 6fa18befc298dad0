-- Every source that enters the checking routine over a guest of its own, and what the command `run` answers to it. The
-- guest's orders, and what the routine prints for them, are those of the crate `ed_checker`.
use Rattle.std.specs.Prelude.{◌≡◌, ℕ, suc, ◌+◌, ◌-◌, ◌<◌, ◌≤◌, List, [], ◌∷◌, ◌++◌, codes, length, pos}
use Rattle.std.specs.Prelude.{Option, Some, None, Result, Ok, Err, String, string_bytes}
use Rattle.std.specs.declared.alloc.Global.{Global}
use Rattle.ed_words.specs.declared.size.Size.{Size}
use Rattle.ed_words.specs.Texts.{Text}
use Rattle.ed_machine.specs.State.{State}
use Rattle.ed_machine.specs.Steps.{state_after}
use Rattle.ed_printer.specs.Paper.{paper}
use Rattle.ed_run.specs.declared.settings.Settings.{Settings}
use Rattle.ed_lines.specs.declared.program.Operand.{Operand}
use Rattle.ed_lines.specs.declared.program.Operand.TheVariants.{Label}
use Rattle.ed_lines.specs.declared.program.Statement.{Statement}
use Rattle.ed_lines.specs.declared.program.Statement.TheVariants.{Fetch, Enter}
use Rattle.ed_lines.specs.declared.program.Line.{Line}
use Rattle.ed_symbols.specs.Places.{even_from}
use Rattle.ed_symbols.specs.NameFaults.{IsLineAfter, counter_after}
use Rattle.ed_link.specs.Linked.{entry_of, symbols_of, operand_number}
use Rattle.ed_link.specs.Tapes.{cost}
use Rattle.ed_headline.specs.Refusals.{IsAcceptedAs}
use Rattle.ed_headline.specs.EntryState.{entry_state}
use Rattle.ed_tapes.specs.Answer.{IsDue}
use Rattle.ed_headline.specs.Sources.{run_outcome}
use Rattle.ed_checker.specs.Checker.{IsAllowed, checked_codes, checked_orders, guest, planting_place, saving_orders}
use Rattle.ed_checker.specs.Laws.{IsFollowed, StopsAfter}
use Rattle.ed_sources.specs.CallSources.{text_of_lines}
use Rattle.ed_tapes.specs.Runs.{paper_room}
use Rattle.ed_laws.specs.BlockedGuests.{IsBlockedAt, RunsToBlock, blocked_codes, orders_to_block}
use Rattle.ed_command.specs.declared.command.Action.TheVariants.{Run}
use Rattle.ed_top.specs.Output.{answer}
use Rattle.ed_programs.specs.Programs.{SourceRuns}
use Rattle.ed_programs.specs.declared.refusal.Refusal.{Refusal}

-- ---- the source

-- the statement `use check as NAME with H=FIRST`; the code of H is 21
abbrev pub use_check : List ℕ → Operand → Option Statement
use_check name first =
    Some (Fetch (codes "check") name (record { items = record { letter = 21; operand = first } ∷ [] }))

-- a line of the source uses the routine under a name, and a line enters that name
pub record EntersChecker (lines : List Line) : Type 0 where
  pub name : List ℕ
  pub first : Operand
  -- the line that uses the routine, and the lines before it
  pub before : List Line
  pub using : Line
  pub stands : IsLineAfter lines before using
  pub uses : using.statement ≡ use_check name first
  -- the line that enters it
  pub ahead : List Line
  pub entering : Line
  pub follows : IsLineAfter lines ahead entering
  pub enters : entering.statement ≡ Some (Enter name)

-- the base of the routine: the next even location after the lines before its `use`
abbrev pub checker_base : List Line → ℕ
checker_base before = even_from (counter_after before).place

-- ---- the guest

-- the guest's first order is the one at H, so the guest is the machine at the entry with its counter there
abbrev pub entry_guest : Size → List Line → Operand → State
entry_guest z lines first =
    record (entry_state z lines) { counter = operand_number (symbols_of lines) None first; orders = 0 }

-- the first q orders of a guest are allowed and obeyed, none of them is a stop, and the next one is an allowed Z
pub record StopsAtZ (base q : ℕ) (g : State) : Type 0 where
  pub followed : IsFollowed base q g
  pub stops : StopsAfter q g
  pub allowed : IsAllowed base (state_after q g)

-- the orders that the machine obeys for the first q orders of a guest. The last one is its Z, so this is the sum of
-- their turns without the orders that save after a turn
abbrev pub stopped_orders : State → ℕ → ℕ
stopped_orders g q = checked_orders g q - saving_orders

-- ---- the law

-- the program is entered at the routine, and the guest that the routine finds there is the machine with its
-- counter at H. If that guest stops at a Z after q orders, and the paper has room, the run prints the checked codes of
-- these orders and of the Z, in exactly their turns, and stops at the routine's planting place. If instead it is
-- blocked after q orders, what `run` answers is a run that prints their checked codes and the function of the word at
-- which the guest is blocked, and that ends there as the guest does
pub record ChecksGuest (s : Settings) (source : Text) (lines : List Line) (c : EntersChecker lines) : Type 0 where
  pub entry : entry_of lines ≡ checker_base c.before
  pub finds : operand_number (symbols_of lines) None c.first < 1024
      → guest (checker_base c.before) (entry_state s.size lines) ≡ entry_guest s.size lines c.first
  pub runs : (q : ℕ) → StopsAtZ (checker_base c.before) q (entry_guest s.size lines c.first)
      → length (checked_codes (entry_guest s.size lines c.first) (suc q)) ≤ paper_room
      → SourceRuns s source (stopped_orders (entry_guest s.size lines c.first) (suc q))
      (checker_base c.before + planting_place + 1) (paper (checked_codes (entry_guest s.size lines c.first) (suc q)))
  pub answers : IsDue (answer Run s) source (run_outcome s lines)
  pub blocks : (q : ℕ) → IsBlockedAt (checker_base c.before) q (entry_guest s.size lines c.first)
      → cost lines + orders_to_block q (entry_guest s.size lines c.first) < s.limit
      → length (blocked_codes q (entry_guest s.size lines c.first)) ≤ paper_room → s.post_mortem ≡ None
      → RunsToBlock (checker_base c.before) q (entry_guest s.size lines c.first) s lines

-- the same for every source that is accepted and enters the routine
abbrev pub EachGuestIsChecked : Type 0
EachGuestIsChecked = (s : Settings) (source : Text) (lines : List Line) (c : EntersChecker lines)
    → IsAcceptedAs s.size source lines → ChecksGuest s source lines c

-- ---- a source for each guest

-- a text with the lines of a guest, whose first order has the label main, and the two lines that have it checked
abbrev pub checked_text : Text → Text
checked_text orders = orders ++ 10 ∷ text_of_lines (codes "use check as c with H=main" ∷ codes "enter c" ∷ [])

-- the lines of an accepted source enter the routine over the order at main, and the run checks it
pub record ChecksFromMain (s : Settings) (source : Text) (lines : List Line) : Type 0 where
  pub enters : EntersChecker lines
  pub first : enters.first ≡ Label (codes "main") (pos 0)
  pub checks : ChecksGuest s source lines enters

-- for all settings, a program that is answered and accepted has its guest checked
abbrev pub ChecksItsGuest : Result (String Global) Refusal → Type 0
ChecksItsGuest (Ok program) = (s : Settings) (lines : List Line) → IsAcceptedAs s.size (string_bytes program) lines
    → ChecksFromMain s (string_bytes program) lines
ChecksItsGuest (Err refusal) = Unit {0}

-- ---- one guest

-- a guest of three lines, which prints A and stops
abbrev pub sample_guest : Text
sample_guest = codes "segment main" ++ 10 ∷ codes "O letter F" ++ 10 ∷ codes "Z F" ++ 10 ∷ codes "letter: A F"

-- its source is accepted, and the run prints O with the letter that this order prints, and Z
abbrev pub SampleIsChecked : Type 0
SampleIsChecked = (s : Settings) → SourceRuns s (checked_text sample_guest) 54 101 (codes "OAZ")
