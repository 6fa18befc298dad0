-- What the command `run` answers to a source that enters the checking routine.
use Rattle.ed_programs.proofs.Kit.{String, Global, no_step, Settings, Line, Err, Result, IsProgram, operand_number}
use Rattle.ed_programs.proofs.Kit.{checked_codes, HasGuest, checked_orders, IsAllowed, arith, inl, length, List, None}
use Rattle.ed_programs.proofs.Kit.{Ok, rules, string_bytes, subst, suc, sym, zero, ℕ, ◌+◌, ◌<◌, ◌≡◌, ◌≤◌, locations}
use Rattle.ed_programs.proofs.Kit.{Text, locations_most, paper, State, state_after, symbols_of, cost, ReachesStop}
use Rattle.ed_programs.proofs.Kit.{guest, entry_state, AnswersFromEntry, run_outcome, accepted_is}
use Rattle.ed_programs.proofs.Kit.{each_answer_is_from_entry, stopped_outcome, IsAcceptedAs, paper_room, OfSource}
use Rattle.ed_programs.proofs.Kit.{checked_text, checker_base, EntersChecker, entry_guest, stopped_orders, StopsAtZ}
use Rattle.ed_programs.proofs.Kit.{GivesProgram, SourceRuns, Refusal}
use Rattle.ed_checker.specs.Checker.{planting_place}
use Rattle.ed_checker.specs.Laws.{IsFollowed}
use Rattle.ed_checker.proofs.Follow.{checker_law}
use Rattle.ed_sources.proofs.CheckedPaper.{checks_to_stop}
use Rattle.ed_sources.proofs.Stops.{comes_to_stop}
use Rattle.ed_laws.specs.BlockedGuests.{IsBlockedAt, RunsToBlock, blocked_codes, orders_to_block}
use Rattle.ed_laws.proofs.Theorems.{blocked_guests}
use Rattle.ed_programs.specs.Guests.{ChecksGuest, EachGuestIsChecked, ChecksItsGuest}
use Rattle.ed_programs.proofs.GuestNames.{entry_is}
use Rattle.ed_programs.proofs.GuestStands.{guest_is, has_guest}
use Rattle.ed_programs.proofs.GuestTexts.{enters_from_main, source_short}

-- ---- the machine stops at the guest's Z

-- the machine stops there after the turns of its guest
record HasChecked (base q : ℕ) (m g : State) : Type 0 where
  count : ℕ
  exact : count + 17 ≡ checked_orders g (suc q)
  comes : ReachesStop count m (checked_codes g (suc q)) (base + planting_place + 1)

checked_to_stop : (base q : ℕ) (m : State) → HasGuest base m → StopsAtZ base q (guest base m)
    → HasChecked base q m (guest base m)
checked_to_stop base q m has z = search (rules, checker_law, comes_to_stop, checks_to_stop)

-- the guest's first order is in the store
first_below : (base q : ℕ) (g : State) → IsFollowed base q g → IsAllowed base (state_after q g)
    → g.counter + 1 < locations g.size
first_below base zero g followed last = rw (no_step g) last.next
first_below base (suc q) g followed last = rw (no_step g) (followed.allowed 0 (omega arith)).next

-- ---- the law

module _ (s : Settings) (source : Text) (lines : List Line) (c : EntersChecker lines)
    (accepted : IsAcceptedAs s.size source lines) where
  abbrev base : ℕ
  base = checker_base c.before

  abbrev m : State
  m = entry_state s.size lines

  abbrev g : State
  g = entry_guest s.size lines c.first

  -- H names a location of the store
  first_low : (q : ℕ) → IsFollowed base q g → IsAllowed base (state_after q g)
      → operand_number (symbols_of lines) None c.first < 1024
  first_low q followed last = search (rules, locations_most, first_below)

  -- the guest of the machine is the guest of the source
  stopped : (q : ℕ) → StopsAtZ base q g → HasChecked base q m g
  stopped q z =
      let low = first_low q z.followed z.allowed in
      let same = guest_is s.size source lines accepted c low in
      subst (λ (x : State). HasChecked base q m x) same
      (checked_to_stop base q m (has_guest s.size source lines accepted c low)
      (subst (StopsAtZ base q) (sym same) z))

  entry : AnswersFromEntry s lines
  entry = each_answer_is_from_entry s source lines accepted

  runs : (q : ℕ) → StopsAtZ base q g → length (checked_codes g (suc q)) ≤ 1000000
      → SourceRuns s source (stopped_orders g (suc q)) (base + planting_place + 1) (paper (checked_codes g (suc q)))
  runs q z few =
      let o = stopped q z in
      let exact = o.exact in
      let count : o.count + 1 ≡ stopped_orders g (suc q) = omega (arith, exact) in
      subst (λ k. SourceRuns s source k (base + planting_place + 1) (paper (checked_codes g (suc q)))) count (record {
        lines = lines;
        accepted = accepted;
        from_entry = entry;
        outcome = λ none plain fits. inl (
          source_short source accepted.two lines accepted.says,
          subst (OfSource s.size (run_outcome s) source) (stopped_outcome s entry o.comes few none plain fits)
              (accepted_is s.size (run_outcome s) source lines accepted),
        );
      })

  blocks : (q : ℕ) → IsBlockedAt base q g → cost lines + orders_to_block q g < s.limit
      → length (blocked_codes q g) ≤ paper_room → s.post_mortem ≡ None → RunsToBlock base q g s lines
  blocks q at =
      let low = first_low q at.followed at.allowed in
      let same = guest_is s.size source lines accepted c low in
      subst (λ (x : State). cost lines + orders_to_block q x < s.limit → length (blocked_codes q x) ≤ paper_room
      → s.post_mortem ≡ None → RunsToBlock base q x s lines) same
      (blocked_guests.sources base q s source lines accepted (record {
        stands = has_guest s.size source lines accepted c low;
        guest_blocked = subst (IsBlockedAt base q) (sym same) at;
      }))

  pub checks : ChecksGuest s source lines c
  checks = record {
    entry = entry_is s.size lines accepted.faultless c;
    finds = guest_is s.size source lines accepted c;
    runs = runs;
    answers = inl (
      source_short source accepted.two lines accepted.says,
      accepted_is s.size (run_outcome s) source lines accepted,
    );
    blocks = blocks;
  }

pub each_guest : EachGuestIsChecked
each_guest = checks

-- the same for the source that is made for a guest
pub checks_from_main : (program : Result (String Global) Refusal) (text : Text)
    → GivesProgram None (checked_text text) program → ChecksItsGuest program
checks_from_main (Err refusal) text gives = tt
checks_from_main (Ok program) text gives = λ s lines accepted.
    let says : IsProgram (checked_text text) accepted.two lines =
    subst (λ (t : Text). IsProgram t accepted.two lines) gives.1 accepted.says in
    let main = enters_from_main text accepted.two lines says in
    record {
      enters = main.enters;
      first = main.first;
      checks = checks s (string_bytes program) lines main.enters accepted;
    }
