-- The theorem of Initial Orders 1: a load of a tape that gives a whole program ends at 31, at its cost, in the state
-- at the entry.
use Rattle.ed_initial1.proofs.Kit.{with_short, length-append, [], ap, arith, false, length, List, refl, subst, sym, ℕ}
use Rattle.ed_initial1.proofs.Kit.{◌*◌, ◌++◌, ◌+◌, ◌∙◌, ◌∷◌, ◌≡◌, ◌≤◌, step, State, state_after, at_entry1, IsStarted1}
use Rattle.ed_initial1.proofs.Kit.{BeginsWith, ReachesEntry1, Tape, WellFormed1, AreItems, costs1, Item1, spelled_rows1}
use Rattle.ed_initial1.proofs.Kit.{word1, words, EndsAs1, Loaded1, rules}
use Rattle.ed_store.specs.Cells.{IsStore}
use Rattle.ed_initial1.specs.Entry.{IsLoaded1}
use Rattle.ed_initial1.specs.Load.{orders_of1}
use Rattle.ed_initial1.proofs.Opened.{HasItsLengths, kept, listed, begins, state-opened, state-closed, step-clears}
use Rattle.ed_initial1.proofs.Paths.{ToProgram, moment}
use Rattle.ed_initial1.proofs.Reading.{ReachesEntry1-programmed}
use Rattle.ed_initial1.proofs.Rests.{tape_of, tape_is, written, final, whole_path, first_word}
use Rattle.ed_initial1.proofs.Settled.{Entered-settled, state_after-comes}
use Rattle.ed_initial1.proofs.Walks.{state, Reaches, Reaches-to_program}

-- no tape costs more than 14 orders a row
pub costs_fit : (is : List Item1) → costs1 is ≤ 14 * length (spelled_rows1 is)
costs_fit [] = omega arith
costs_fit (i ∷ is) = search (rules, length-append, costs_fit is)

-- the state at the entry of a tape's items
abbrev entry_of : State → ℕ → List Item1 → List ℕ → State
entry_of s e is rest = at_entry1 s (record { end = e; items = is; rest = rest })

reached : {s : State} → HasItsLengths s.store → IsStarted1 s → {e : ℕ} (is : List Item1) (rest : List ℕ)
    → s.tape ≡ spelled_rows1 is ++ rest → AreItems is → BeginsWith e is → 31 + length is ≡ e
    → Reaches (4 + costs1 is) s (entry_of s e is rest)
reached store started [] rest rows good first count = absurd first
reached {s} store started {e} (i ∷ is) rest rows good first count =
    let ws = s.store.words in
    let k = 4 + costs1 (i ∷ is) in
    let path : ToProgram k (begins s (tape_of (i ∷ is) rest))
    (moment (kept s) (final e 12300 (word1 i) i is) (written ws 32 (words is)) false 0 31 rest) =
    whole_path (kept s) (listed ws) i is good refl first count in
    let tape : tape_of (i ∷ is) rest ≡ s.tape = sym (tape_is (i ∷ is) rest) ∙ sym rows in
    let start : state (begins s (tape_of (i ∷ is) rest)) s.orders ≡ s =
    ap (λ x. state (begins s x) s.orders) tape ∙ state-opened s store started in
    let end = state-closed store started is rest first count in
    subst (λ x. Reaches k x (entry_of s e (i ∷ is) rest)) start
    (subst (λ x. Reaches k (state (begins s (tape_of (i ∷ is) rest)) s.orders) x) end
    (Reaches-to_program path s.orders))

-- the same for a tape
pub leads_in : (s : State) → HasItsLengths s.store → IsStarted1 s → (t : Tape) → ReachesEntry1 s.tape t
    → Reaches (4 + costs1 t.items) s (at_entry1 s t)
leads_in s store started t c = reached store started t.items t.rest c.rows_are c.good c.first c.count

-- the first order of the program clears location e
cleared : (s : State) → IsStarted1 s → (e : ℕ) (is : List Item1) (rest : List ℕ) → BeginsWith e is
    → (step (entry_of s e is rest)).state.store ≡ with_short (entry_of s e is rest).store e 0
cleared s started e [] rest first = absurd first
cleared s started e (i ∷ is) rest first =
    step-clears (entry_of s e (i ∷ is) rest) e started.size refl (first_word e i first) (omega (arith, first.high))

module _ (s u : State) (r : Loaded1) (store : IsStore s.store) (started : IsStarted1 s)
    (ends : EndsAs1 s (14 * length s.tape + 4) r)
    (is : u ≡ state_after (orders_of1 r) s) where
  pub whole_load : (t : Tape) → ReachesEntry1 s.tape t → IsLoaded1 s t r u
  whole_load t c =
      let k = 4 + costs1 t.items in
      let bound = 14 * length s.tape + 4 in
      let g = leads_in s (record { words = store.words_are; sandwich = store.digits_are }) started t c in
      let rows : length s.tape ≡ length (spelled_rows1 t.items) + length t.rest = ap length c.rows_are
      ∙ length-append (spelled_rows1 t.items) t.rest in
      let fits : k ≤ bound = omega (arith, costs_fit t.items) in
      let result = Entered-settled s (at_entry1 s t) k g bound fits r ends in
      let there : u ≡ at_entry1 s t =
      is ∙ ap (λ x. state_after (orders_of1 x) s) result ∙ state_after-comes s (at_entry1 s t) k g in
      record {
        result_is = result;
        state_is = there;
        silent = g.silent;
        clears = subst (λ (x : State). (step x).state.store ≡ with_short x.store t.end 0) (sym there)
            (cleared s started t.end t.items t.rest c.first);
      }

  -- the same without a given program
  pub total_load : WellFormed1 s.tape → (t : Tape) × ReachesEntry1 s.tape t × IsLoaded1 s t r u
  total_load well = let p = ReachesEntry1-programmed s.tape well in (p.0, p.1, whole_load p.0 p.1)
