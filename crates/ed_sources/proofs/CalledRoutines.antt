-- A call of a routine, up to the order after it, and up to that order if it is a stop.
use Rattle.ed_sources.proofs.Kit.{Z_F, Leads-append, IsCalled, [], ap, arith, get_or, inl, inr, length, List, refl}
use Rattle.ed_sources.proofs.Kit.{rules, subst, ℕ, ◌%◌, ◌*◌, ◌+◌, ◌<◌, ◌^◌, ◌∙◌, ◌∷◌, ◌≡◌, ◌≤◌, ◌⊎◌, locations}
use Rattle.ed_sources.proofs.Kit.{short_at, step, State, Leads, newline, print, read, with_h, after_digits, digit_rows}
use Rattle.ed_sources.proofs.Kit.{digits, digits_value, print_orders, IsOther, IsLoadedAt, IsOutside, ◌≢◌, StopsAt}
use Rattle.ed_sources.proofs.Kit.{place_count, caller}
use Rattle.ed_machine.specs.declared.turn.Turn.TheVariants.{Stopped}
use Rattle.ed_routines.proofs.Called.{IsWithin, IsCalled-loaded as routine_called}
use Rattle.ed_sources.proofs.Calling.{HasRoutine, IsBefore, caller-back, called, caller_is, Leads-calls}
use Rattle.ed_sources.proofs.Calling.{IsOutside-called, IsLoadedAt-stands}
use Rattle.ed_routines.proofs.NewLine as new_line
use Rattle.ed_routines.proofs.PrintCall as print_call
use Rattle.ed_routines.proofs.ReadCall as read_call

-- the order Z F at the counter
pub stop_at : (s : State) → get_or s.store.words s.counter 0 ≡ Z_F → (step s).turn ≡ Stopped
unfolding step
stop_at s e = rw e refl

-- a location outside those from one to another
abbrev pub IsBeside : ℕ → ℕ → ℕ → Type 0
IsBeside from to i = (i < from) ⊎ (to ≤ i)

-- the call of a routine at m in a state: k orders print the codes and lead to the order after it, and the words
-- outside those from one location to another are unchanged
pub record Passes (k : ℕ) (s : State) (codes : List ℕ) (m from to : ℕ) : Type 0 where
  pub last : State
  pub leads : Leads k s codes last
  pub counter : last.counter ≡ m + 2
  pub acc : last.acc ≡ 0
  pub all : length last.store.words ≡ 1024
  pub size : last.size ≡ s.size
  pub words : (i : ℕ) → IsBeside from to i → short_at last.store i ≡ short_at s.store i

-- `read` is called: after the call the number of its digit rows is in the store
pub record ReadsNumber (s : State) (m h to : ℕ) : Type 0 where
  pub passes : Passes (2 + (11 + 13 * length (digit_rows s.tape))) s [] m h to
  pub number : short_at passes.last.store h ≡ digits_value (digit_rows s.tape) % 2 ^ 17

-- with a stop after it
pub StopsAt-passes : {k m from to : ℕ} {s : State} {codes : List ℕ} → Passes k s codes m from to
    → IsBeside from to (m + 2)
    → short_at s.store (m + 2) ≡ Z_F → StopsAt k s codes (m + 2)
StopsAt-passes {m = m} p other stop = search (rules, stop_at, other)

-- a word beside those that a routine may change is not one of its working locations
pub IsOther-around : (r : ℕ) {base from to i : ℕ} → from ≤ base → base + place_count r ≤ to → IsBeside from to i
    → IsOther r base i
IsOther-around r early late (inl l) = record { other = inl (omega arith) }
IsOther-around r early late (inr g) = record { other = inr (inl (omega arith)) }

-- nor one of those between
pub ne-aside : {from to h i : ℕ} → from ≤ h → h < to → IsBeside from to i → i ≢ h
ne-aside early late (inl l) e = omega arith
ne-aside early late (inr g) e = omega arith

module _ {s : State} {m base : ℕ} (o : IsBefore s m base) where
  abbrev t : State
  t = called s m base

  -- the call of a routine that leads to the order after it
  abbrev pub passes : {k from to : ℕ} {codes : List ℕ} {end : State} → Leads k t codes end → end.counter ≡ caller t + 2
      → end.acc ≡ 0 → length end.store.words ≡ 1024 → end.size ≡ s.size
      → ((i : ℕ) → IsBeside from to i → short_at end.store i ≡ short_at s.store i) → Passes (2 + k) s codes m from to
  passes {end = end} leads counter acc all size words = record {
    last = end;
    leads = Leads-append (Leads-calls o) leads;
    counter = counter ∙ ap (λ x. x + 2) (caller_is o);
    acc = acc;
    all = all;
    size = size;
    words = words;
  }

  -- `print`, which prints the number n at h
  pub print_passes : {h n : ℕ} → HasRoutine s print base (with_h h) → IsOutside print base h s
      → short_at s.store h ≡ n → n < 65536 → Passes (2 + print_orders n) s (11 ∷ digits n) m base (base + 51)
  print_passes {h} {n} has out number small =
      let printing : IsCalled print (with_h h) base h (locations s.size) t =
      routine_called o.all (IsLoadedAt-stands o has) (IsOutside-called o out) in
      let low : short_at t.store h < 65536 = rw number small in
      subst (λ x. Passes (2 + print_orders x) s (11 ∷ digits x) m base (base + 51)) number
      (passes (print_call.leads_to printing low) refl refl (print_call.all_last printing low) refl
      (λ i b. (print_call.keeps printing low _ refl).words i (IsOther-around print (omega arith) (omega arith) b)))

  -- `newline`
  pub newline_passes : HasRoutine s newline base [] → Passes 7 s (18 ∷ 24 ∷ []) m base (base + 7)
  newline_passes has =
      let there : IsLoadedAt newline [] base t = IsLoadedAt-stands o has in
      let within : IsWithin 7 base 0 (locations s.size) t = search (rules, caller-back) in
      passes (new_line.leads_to o.all there within) refl refl (new_line.all_last o.all there within) refl
      (λ i b. (new_line.keeps o.all there within _ refl).words i (IsOther-around newline (omega arith) (omega arith) b))

  -- `read`, whose digit rows end with the code c
  pub ReadsNumber-called : {h c : ℕ} {rest : List ℕ} → HasRoutine s read base (with_h h) → IsOutside read base h s
      → h < base → after_digits s.tape ≡ c ∷ rest → c < 32 → ReadsNumber s m h (base + 24)
  ReadsNumber-called {h} has out before ends code =
      let reading : IsCalled read (with_h h) base h (locations s.size) t =
      routine_called o.all (IsLoadedAt-stands o has) (IsOutside-called o out) in
      record {
        passes = passes (read_call.leads_to reading ends code) refl refl (read_call.all_last reading ends code) refl
            (λ i b. (read_call.keeps reading ends code _ refl).words i (ne-aside (omega arith) (omega arith) b)
            (IsOther-around read (omega arith) (omega arith) b));
        number = (read_call.has_read reading ends code _ refl).number;
      }
