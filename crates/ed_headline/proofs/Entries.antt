-- The tape of a linked program leads to its state at the entry.
use Rattle.ed_headline.proofs.Kit.{Size, State, TapeEntry, over, first_state, Line, entry_of, arrival, tape, Linked, []}
use Rattle.ed_headline.proofs.Kit.{ap, arith, Bool, drop, false, List, nat_lt, refl, subst, sym, true, ℕ, ◌++◌, ◌+◌}
use Rattle.ed_headline.proofs.Kit.{◌-◌, ◌∙◌, ◌∷◌, ◌≡◌, ◌≤◌, nat_tests, IsLinked, data_after, Enters, entry_state}
use Rattle.ed_headline.proofs.Kit.{entry_store}
use Rattle.ed_initial.proofs.Kit.{set, at_entry, ReachesEntry}
use Rattle.std.specs.List.{flat_map}
use Rattle.std.proofs.lemmas.List.{drop-set-lt, drop-set-add}
use Rattle.ed_notation.specs.Spellings.{item_rows}
use Rattle.ed_notation.proofs.Costs.{cost-most}
use Rattle.ed_initial.specs.Entry.{IsLoaded}
use Rattle.ed_initial.specs.declared.loading.Loaded.{Loaded}
use Rattle.ed_initial.proofs.Quiet.{LeadsIn, comes_in}
use Rattle.ed_initial.proofs.Starts.{first_length, first_store, first_words, IsStarted-first_state}
use Rattle.ed_link.specs.Tapes.{ReachesLinkedEntry}
use Rattle.ed_headline.specs.EntryState.{EachSourceEnters}
use Rattle.ed_headline.proofs.EachSource.{each_source as comes_to}
use Rattle.std.proofs.Common.{rules}

-- words placed over stores that agree from 44 upwards agree there
one : (v w : List ℕ) (p x : ℕ) (t : Bool) → nat_lt p 44 ≡ t → drop 44 v ≡ drop 44 w
    → drop 44 (set v p x) ≡ drop 44 (set w p x)
one v w p x true e h = search (rules, drop-set-lt)
one v w p x false e h =
    let l : 44 ≤ p = grind (arith, nat_tests) in
    let q : 44 + (p - 44) ≡ p = omega arith in
    let a : (u : List ℕ) → drop 44 (set u p x) ≡ set (drop 44 u) (p - 44) x =
    λ u. ap (λ y. drop 44 (set u y x)) (sym q) ∙ drop-set-add 44 u (p - 44) x in
    a v ∙ ap (λ (y : List ℕ). set y (p - 44) x) h ∙ sym (a w)

same_over : (placed : List (ℕ × ℕ)) (v w : List ℕ) → drop 44 v ≡ drop 44 w
    → drop 44 (over placed v) ≡ drop 44 (over placed w)
same_over [] v w h = h
same_over (p ∷ placed) v w h = one (over placed v) (over placed w) p.0 p.1 (nat_lt p.0 44) refl (same_over placed v w h)

-- ---- its state at the entry

first_orders : (n : ℕ) → 0 + n ≡ n
first_orders n = omega arith

entered : (z : Size) (lines : List Line)
    → at_entry (first_state z (tape lines)) (arrival (first_state z (tape lines)).store.words lines)
    ≡ entry_state z lines
unfolding first_state
entered z lines = search (rules, same_over, first_words, first_orders)

module _ (z : Size) (lines : List Line) (loads : ReachesLinkedEntry z lines) where
  comes : ReachesEntry (first_state z (tape lines)) (arrival (first_state z (tape lines)).store.words lines)
  unfolding first_state
  comes = let w = loads first_words first_length in record { well = w.0; comes = w.1 }

  pub leads : LeadsIn (first_state z (tape lines)) (arrival (first_state z (tape lines)).store.words lines)
  leads = comes_in _ _ (first_store z (tape lines)) (IsStarted-first_state z (tape lines)) comes

  pub enters : Enters z lines (entry_store lines)
  enters = record {
    state_is = leads.arrives ∙ entered z lines;
    silent = leads.prints_none;
    went = leads.went;
    cheap = let m = cost-most _ _ _ _ _ comes.comes in omega (arith, m);
  }

pub each_source : EachSourceEnters
each_source z source lines a = enters z lines (comes_to z source lines a)

-- what `load` leaves of the machine that is started on the tape of a linked program
pub entry_state-loaded : {z : Size} {lines : List Line} {program : Linked} {rows : List ℕ} {s t : State} {r : Loaded}
    → IsLinked z lines program
    → s ≡ first_state z rows → rows ≡ flat_map item_rows program.items.items ++ program.after.items
    → ((e : TapeEntry) → ReachesEntry s e → IsLoaded s e r t) → t ≡ entry_state z lines
entry_state-loaded {z} {lines} {rows = rows} {s} is begun written load =
    let tape_is : rows ≡ tape lines = written ∙ (λ i. flat_map item_rows (is.items i) ++ is.after i) in
    let first : s ≡ first_state z (tape lines) = begun ∙ ap (first_state z) tape_is in
    let e = arrival (first_state z (tape lines)).store.words lines in
    let there = load e (subst (λ (x : State). ReachesEntry x e) (sym first) (comes z lines is.loads)) in
    there.state_is ∙ ap (λ (x : State). at_entry x e) first ∙ entered z lines
