-- A machine on which Start has just acted is at the first of the Initial Orders, and a well-formed tape reaches an
-- entry.
use Rattle.ed_initial.proofs.Kit.{rules, start_state, State, opening, arith, inl, inr, List, ℕ, TapeEntry, WellFormed}
use Rattle.ed_initial.proofs.Kit.{IsDirective, reading_is_rules, IsStarted, ReachesEntry, initial_orders}
use Rattle.std.proofs.Math.ListN.{get_or-append}

pub is_started : (rows : List ℕ) (s : State) → IsStarted (start_state initial_orders rows s)
is_started rows s = search (rules, get_or-append)

pub well_comes : (s : State) → WellFormed s.size s.store.words (opening s.store.words) s.tape → (e : TapeEntry)
    × ReachesEntry s e
well_comes s well =
    let set : IsDirective 20568 = omega arith in
    elim (reading_is_rules s.size s.store.words (opening s.store.words) 9 s.tape set).either [
      | inl h ↦ (h.1.0, record { well = h.0; comes = h.1.1 })
      | inr h ↦ absurd (well h.0 h.1 h.2.is)
    ]
