-- The state in which the program of a source is entered, on a machine that was cleared before Start (what the Initial
-- Orders of Wilkes, Wheeler and Gill 1951 do with the tape of a linked program).
use Rattle.std.specs.Prelude.{◌≡◌, ℕ, ◌+◌, ◌*◌, ◌^◌, ◌<◌, ◌≤◌, false, List, [], ◌∷◌}
use Rattle.std.specs.Prelude.{◌++◌, None, drop, length, replicate, reverse}
use Rattle.ed_words.specs.declared.size.Size.{Size}
use Rattle.ed_store.specs.Cells.{Cells}
use Rattle.ed_machine.specs.State.{State}
use Rattle.ed_machine.specs.OrderTable.{step}
use Rattle.ed_machine.specs.Steps.{progress, state_after}
use Rattle.ed_machine.specs.declared.turn.Turn.TheVariants.{Went}
use Rattle.ed_notation.specs.Fold.{over}
use Rattle.ed_initial.specs.Entry.{first_state}
use Rattle.ed_initial.specs.Listing.{initial_orders}
use Rattle.ed_codes.specs.declared.letters.TheConstants.{F}
use Rattle.ed_words.specs.Texts.{Text}
use Rattle.ed_words.specs.declared.order_words.TheConstants.{A_F, E_F, T_F}
use Rattle.ed_lines.specs.declared.program.Line.{Line}
use Rattle.ed_symbols.specs.Places.{first_counter}
use Rattle.ed_link.specs.Linked.{linked_words, entry_of, theta_from, data_after}
use Rattle.ed_link.specs.Tapes.{ReachesLinkedEntry, cost, punched_rows, tape}
use Rattle.ed_headline.specs.Refusals.{IsAcceptedAs}

-- the locations 0 to 43 at the entry: the Initial Orders as listed, and 0 after them, but for seven words, as they are
-- once the last item, P F, is read: its number, 0, in 0; its last row, F, in 1; the order that added the value of F,
-- A 41 F, in 20; the directive, an E order with the entry, in 22; its function, 0, in 40; θ in 42; and the value of D,
-- 1, in 43
abbrev pub loader_words : List Line → List ℕ
loader_words lines = over
    ((0, 0) ∷ (1, F) ∷ (20, A_F + 2 * 41) ∷ (22, E_F + 2 * entry_of lines) ∷ (40, 0)
    ∷ (42, theta_from 0 first_counter lines) ∷ (43, 1) ∷ [])
    (initial_orders ++ replicate 3 0)

-- the state at the entry, with its store
abbrev pub entered_state : Size → List Line → Cells → State
entered_state z lines c = record {
  size = z;
  store = c;
  acc = 0;
  multiplier = T_F * 2 ^ 18;
  counter = entry_of lines;
  tape = data_after lines;
  last = None;
  orders = cost lines;
}

-- ---- the store by the linked program's words

-- the store at the entry: those of the Initial Orders, and from 44 upwards the linked program's words over 0; every
-- sandwich digit is 0
abbrev pub entry_store : List Line → Cells
entry_store lines = record {
  words = loader_words lines ++ drop 44 (over (reverse (linked_words lines)) (replicate 1024 0));
  sandwich = replicate 512 false;
}

-- the state at the entry
abbrev pub entry_state : Size → List Line → State
entry_state z lines = entered_state z lines (entry_store lines)

-- for every source without a fault, reading its tape gives its linked program, from every store
abbrev pub EachSourceComes : Type 0
EachSourceComes =
    (z : Size) (source : Text) (lines : List Line) → IsAcceptedAs z source lines → ReachesLinkedEntry z lines

-- a cleared machine that is started on the punched tape reaches the state at the entry, with this store, after the stated
-- cost, which is at most 17 orders for each row of the punched items, and 9 more; none of these orders prints or stops,
-- so nothing is printed
pub record Enters (z : Size) (lines : List Line) (c : Cells) : Type 0 where
  pub state_is : state_after (cost lines) (first_state z (tape lines)) ≡ entered_state z lines c
  pub silent : (progress (cost lines) (first_state z (tape lines))).codes ≡ []
  pub went : (j : ℕ) → j < cost lines → (step (state_after j (first_state z (tape lines)))).turn ≡ Went
  pub cheap : cost lines ≤ 17 * length (punched_rows lines) + 9

-- the same holds for every source that is accepted
abbrev pub EachSourceEnters : Type 0
EachSourceEnters =
    (z : Size) (source : Text) (lines : List Line) → IsAcceptedAs z source lines → Enters z lines (entry_store lines)
