-- What a run prints that has a guest checked whose next order can't be obeyed (this project's own rule).
use Rattle.std.specs.Prelude.{◌≡◌, ℕ, suc, ◌+◌, ◌-◌, ◌<◌, ◌≤◌, false, None, List, [], ◌∷◌, ◌++◌, length, unwrap_or}
use Rattle.ed_words.specs.Texts.{Text}
use Rattle.ed_words.specs.Words.{function_of}
use Rattle.ed_printer.specs.Paper.{paper}
use Rattle.ed_machine.specs.State.{State}
use Rattle.ed_machine.specs.OrderTable.{next_word, step}
use Rattle.ed_machine.specs.Steps.{is_obeyed, progress, state_after}
use Rattle.ed_machine.specs.declared.ending.Ending.{Ending}
use Rattle.ed_machine.specs.declared.ending.Ending.TheVariants.{NoOrder}
use Rattle.ed_run.specs.Run.{end_by, run_end}
use Rattle.ed_run.specs.declared.settings.Settings.{Settings}
use Rattle.ed_lines.specs.declared.program.Line.{Line}
use Rattle.ed_link.specs.Linked.{entry_of}
use Rattle.ed_link.specs.Tapes.{cost}
use Rattle.ed_report.specs.Notes.{ending_line, entry_note}
use Rattle.ed_checker.specs.Checker.{IsAllowed, checked_codes, checked_orders, guest, planting_place, saving_orders}
use Rattle.ed_checker.specs.Laws.{HasGuest, IsFollowed}
use Rattle.ed_headline.specs.EntryState.{entry_state}
use Rattle.ed_headline.specs.Refusals.{IsAcceptedAs}
use Rattle.ed_tapes.specs.Runs.{paper_room, status_of}
use Rattle.ed_headline.specs.Sources.{run_outcome}

-- the first q orders of a guest are allowed and obeyed, none of them is a stop, and the next one is allowed and can't
-- be obeyed: it is not an order, or it reads a tape with no row left
pub record IsBlockedAt (base q : ℕ) (g : State) : Type 0 where
  pub followed : IsFollowed base q g
  pub no_stops : (progress q g).stops ≡ 0
  pub allowed : IsAllowed base (state_after q g)
  pub blocked : is_obeyed (step (state_after q g)).turn ≡ false

-- the checking routine is at the start of a turn, and its guest is blocked after q orders
pub record IsBlockedAfter (base q : ℕ) (m : State) : Type 0 where
  pub stands : HasGuest base m
  pub guest_blocked : IsBlockedAt base q (guest base m)

-- the codes that are printed: the checked codes of the orders, and the function of the word at which the guest is
-- blocked
abbrev pub blocked_codes : ℕ → State → List ℕ
blocked_codes q g = checked_codes g q ++ function_of (next_word (state_after q g)) ∷ []

-- the orders that the machine obeys: the turns, without the copied order and those that save
abbrev pub orders_to_block : ℕ → State → ℕ
orders_to_block q g = checked_orders g (suc q) - (1 + saving_orders)

-- the ending of a run at the order that the guest can't obey
abbrev pub guest_ending : ℕ → State → Ending
guest_ending q g = unwrap_or (end_by (step (state_after q g)).turn false) NoOrder

-- a run from there with a greater limit and enough room prints these codes and ends at the routine's copy of the word
pub record EndsBlocked (base q : ℕ) (m : State) (limit resumes room : ℕ) : Type 0 where
  pub last : State
  pub counter : last.counter ≡ base + planting_place
  pub orders : last.orders ≡ m.orders + orders_to_block q (guest base m)
  pub run : run_end limit resumes room m
      ≡ record { ending = guest_ending q (guest base m); state = last; codes = blocked_codes q (guest base m) }

-- the same of `run` for a source that is entered there with a guest, without a post-mortem
pub record RunsToBlock (base q : ℕ) (g : State) (s : Settings) (lines : List Line) : Type 0 where
  pub last : State
  pub counter : last.counter ≡ base + planting_place
  pub orders : last.orders ≡ cost lines + orders_to_block q g
  pub out_is : (run_outcome s lines).out ≡ paper (blocked_codes q g)
  pub note_is : (run_outcome s lines).note ≡ entry_note (entry_of lines) (cost lines)
      ++ ending_line (guest_ending q g) last
  pub status_is : (run_outcome s lines).status ≡ status_of (guest_ending q g)

-- the same for every machine with such a guest, and every source that is accepted and entered there
pub record EachGuestIsBlocked : Type 0 where
  pub machines : (base q : ℕ) (m : State) (limit resumes room : ℕ) → IsBlockedAfter base q m
      → orders_to_block q (guest base m) < limit → length (blocked_codes q (guest base m)) ≤ room
      → EndsBlocked base q m limit resumes room
  pub sources : (base q : ℕ) (s : Settings) (source : Text) (lines : List Line)
      → IsAcceptedAs s.size source lines → IsBlockedAfter base q (entry_state s.size lines)
      → cost lines + orders_to_block q (guest base (entry_state s.size lines)) < s.limit
      → length (blocked_codes q (guest base (entry_state s.size lines))) ≤ paper_room → s.post_mortem ≡ None
      → RunsToBlock base q (guest base (entry_state s.size lines)) s lines
