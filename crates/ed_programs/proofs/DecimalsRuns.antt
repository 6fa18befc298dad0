-- What the source of `examples/decimals.edsac` prints: its lines, its entry and its law.
use Rattle.ed_programs.proofs.Kit.{Size, Settings, Line, all_words, moment_at, [], List, lit≤, map, refl, subst, true}
use Rattle.ed_programs.proofs.Kit.{ℕ, ◌+◌, ◌∷◌, ◌≡◌, Text, paper, State, settings, parameter_store, ReachesStop}
use Rattle.ed_programs.proofs.Kit.{entry_state, replicate, decimals_prints, SourceRuns, stops_from_entry, Marked, rules}
use Rattle.ed_programs.specs.Decimals.{decimals_orders, decimals_text}
use Rattle.ed_programs.specs.declared.decimals.TheConstants.{DECIMALS}
use Rattle.ed_programs.proofs.DecimalsPass.{page_codes, page_orders}
use Rattle.ed_programs.proofs.DecimalsProgram.{IsAround, cells, decimals_stop, loaded, none_done}
use Rattle.ed_programs.proofs.SourceRuns.{AreSaid, lines_of_pieces, program_runs}

-- what the two lines print
abbrev lines_print : List ℕ
lines_print =
    7 ∷ 1 ∷ 8 ∷ 2 ∷ 8 ∷ 1 ∷ 8 ∷ 2 ∷ 8 ∷ 4 ∷ 20 ∷ 5 ∷ 9 ∷ 0 ∷ 4 ∷ 5 ∷ 2 ∷ 3 ∷ 5 ∷ 3 ∷ 6 ∷ 20 ∷ 0 ∷ 2 ∷ 8 ∷ 7 ∷ 4 ∷ 7
    ∷ 1 ∷ 3 ∷ 5 ∷ 2 ∷ 20 ∷ 6 ∷ 6 ∷ 2 ∷ 4 ∷ 9 ∷ 7 ∷ 7 ∷ 5 ∷ 7 ∷ 2 ∷ 20 ∷ 4 ∷ 7 ∷ 0 ∷ 9 ∷ 3 ∷ 6 ∷ 9 ∷ 9 ∷ 9 ∷ 5 ∷ 18
    ∷ 24 ∷ 9 ∷ 5 ∷ 7 ∷ 4 ∷ 9 ∷ 6 ∷ 6 ∷ 9 ∷ 6 ∷ 7 ∷ 20 ∷ 6 ∷ 2 ∷ 7 ∷ 7 ∷ 2 ∷ 4 ∷ 0 ∷ 7 ∷ 6 ∷ 6 ∷ 20 ∷ 3 ∷ 0 ∷ 3 ∷ 5
    ∷ 3 ∷ 5 ∷ 4 ∷ 7 ∷ 5 ∷ 9 ∷ 20 ∷ 4 ∷ 5 ∷ 7 ∷ 1 ∷ 3 ∷ 8 ∷ 2 ∷ 1 ∷ 7 ∷ 8 ∷ 20 ∷ 5 ∷ 2 ∷ 5 ∷ 1 ∷ 6 ∷ 6 ∷ 4 ∷ 2 ∷ 7 ∷
    4 ∷ 18 ∷ 24 ∷ []

codes_are : page_codes 1 (replicate 74 1) ≡ lines_print
codes_are = refl

orders_are : 602 + page_orders 1 (replicate 74 1) ≡ 453712
orders_are = refl

shown : paper (11 ∷ 2 ∷ 23 ∷ 18 ∷ 24 ∷ lines_print) ≡ decimals_prints
shown = refl

abbrev pieces : List Text
pieces = map (λ piece. piece.now) DECIMALS

abbrev marks : List (Marked true)
marks = []

abbrev lines : List Line
lines = lines_of_pieces true pieces [] marks

printed : {s : State} → ReachesStop (602 + page_orders 1 (replicate 74 1)) s
    (11 ∷ 2 ∷ 23 ∷ 18 ∷ 24 ∷ page_codes 1 (replicate 74 1)) 135
    → ReachesStop 453712 s (11 ∷ 2 ∷ 23 ∷ 18 ∷ 24 ∷ lines_print) 135
printed {s} stop =
    subst (λ codes. ReachesStop 453712 s (11 ∷ 2 ∷ 23 ∷ 18 ∷ 24 ∷ codes) 135) codes_are
    (subst (λ k. ReachesStop k s (11 ∷ 2 ∷ 23 ∷ 18 ∷ 24 ∷ page_codes 1 (replicate 74 1)) 135) orders_are stop)

module _ (z : Size) where
  is_around : IsAround (entry_state z lines).store.words
  unfolding settings parameter_store
  is_around = record { all = all_words z lines; at2 = refl; at3 = refl }

  ends : ReachesStop 453712 (entry_state z lines) (11 ∷ 2 ∷ 23 ∷ 18 ∷ 24 ∷ lines_print) 135
  unfolding settings
  ends =
      stops_from_entry z lines refl 107 (lit≤ tt) (cells loaded none_done) refl refl [] refl
      (printed (decimals_stop z (record (moment_at (entry_state z lines)) { tape = [] }) (replicate 74 1) refl
      (entry_state z lines).store.words (entry_state z lines).last is_around (entry_state z lines).orders))

said : AreSaid true pieces [] marks
unfolding settings
said = refl

pub hundred_run : (s : Settings) → SourceRuns s decimals_text decimals_orders 135 decimals_prints
unfolding settings
hundred_run s = program_runs s true pieces [] marks said (ends s.size) (lit≤ tt) refl shown
