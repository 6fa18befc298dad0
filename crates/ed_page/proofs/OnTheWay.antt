-- The states on the way of a tape, from Start with either Initial Orders: they are within their bounds, Start and
-- orders lead to them, and a picture shows one of them alone.
use Rattle.ed_page.proofs.Kit.{common_steps, IfSome, IsNone, ◌↔◌, Size, IsReached, Cells, IsStore, lit≤, ◌%◌, ◌/◌}
use Rattle.ed_page.proofs.Kit.{locations, ap, arith, Bool, drop, get_or, inl, inr, length, List, None, Option, refl}
use Rattle.ed_page.proofs.Kit.{rules, Some, subst, sym, ℕ, ◌++◌, ◌-◌, ◌<◌, ◌^◌, ◌∙◌, ◌≡◌, ◌≤◌, State, state_after}
use Rattle.ed_page.proofs.Kit.{first_state, first_state1, AreCodes, Pictures, PicturesStore, size_shown, Registers}
use Rattle.std.proofs.Common.{unwrap_or}
use Rattle.ed_words.specs.declared.size.Size.TheVariants.{Small, Full}
use Rattle.ed_machine.specs.Reached.IsReached.{clear, start, obey}
use Rattle.ed_machine.specs.Sound.{IsSound}
use Rattle.ed_machine.specs.State.{cleared_state}
use Rattle.ed_machine.proofs.Keeping.{steps_follow}
use Rattle.ed_machine.proofs.SoundSteps.{sound_after}
use Rattle.ed_initial.specs.Listing.{initial_orders}
use Rattle.ed_initial.proofs.Starts.{all_fit, first_sound}
use Rattle.ed_initial1.specs.Listing.{first_orders}
use Rattle.ed_page.specs.Going.{CanGoOn, IsAfterStart}
use Rattle.ed_page.specs.Pictures.{last_shown}
use Rattle.ed_page.proofs.Stores.{words_fit}
use Rattle.ed_page.proofs.TapeRows.{by_steps}

first_sound1 : (rows : List ℕ) → AreCodes rows → IsSound (first_state1 rows)
unfolding first_state1
first_sound1 rows are = search (rules, all_fit)

-- a state in which a way begins: its bounds, that Start led to it, its size and its rows
pub record IsFirst (z : Size) (rows : List ℕ) (first : State) : Type 0 where
  pub sound : IsSound first
  pub reached : IsReached first
  pub size_is : first.size ≡ z
  pub tape_is : first.tape ≡ rows

first_is : (z : Size) (rows : List ℕ) → AreCodes rows → IsFirst z rows (first_state z rows)
unfolding first_state
first_is z rows are = record {
  sound = first_sound z rows are;
  reached = start initial_orders rows (cleared_state z) (omega arith) (clear z);
  size_is = refl;
  tape_is = refl;
}

first_is1 : (rows : List ℕ) → AreCodes rows → IsFirst Full rows (first_state1 rows)
unfolding first_state1
first_is1 rows are = record {
  sound = first_sound1 rows are;
  reached = start first_orders rows (cleared_state Full) (omega arith) (clear Full);
  size_is = refl;
  tape_is = refl;
}

-- each state after Start is such a state
pub is_first : {small : Bool} {rows : List ℕ} {first : State} → AreCodes rows → IsAfterStart small rows first
    → IsFirst (size_shown small) rows first
is_first {small} {rows} are (inl is) =
    subst (IsFirst (size_shown small) rows) (sym is) (first_is (size_shown small) rows are)
is_first {rows = rows} {first} are (inr is) =
    subst (λ (small : Bool). IsFirst (size_shown small) rows first) (sym is.0)
    (subst (IsFirst Full rows) (sym is.1) (first_is1 rows are))

-- its rows are the last ones of the tape
last_rows : (read left all : List ℕ) → read ++ left ≡ all → drop (length all - length left) all ≡ left
last_rows read left all is = grind (arith, common_steps)

-- the states on the way
module _ {z : Size} {rows : List ℕ} {first : State} (is : IsFirst z rows first) (k : ℕ) where
  -- their bounds
  pub way_sound : IsSound (state_after k first)
  way_sound = sound_after k first is.sound

  -- Start and orders lead to them
  pub way_reached : IsReached (state_after k first)
  way_reached = obey k first is.reached

  pub way_size : (state_after k first).size ≡ z
  way_size = (steps_follow k first).size_is ∙ is.size_is

  pub way_rows : drop (length rows - length (state_after k first).tape) rows ≡ (state_after k first).tape
  way_rows =
      let ends = by_steps k first in
      last_rows ends.0 (state_after k first).tape rows (ends.1 ∙ is.tape_is)

  pub way_left : length (state_after k first).tape ≤ length rows
  way_left = search (rules, steps_follow)

-- the number for the last printed code is below 33
pub shown_fits : (last : Option ℕ) → unwrap_or last 0 < 32 → last_shown last ≤ 32
shown_fits None h = omega arith
shown_fits (Some code) h = omega arith

-- a state by its parts
pub same_state : (s t : State) → t.size ≡ s.size → t.store ≡ s.store → t.acc ≡ s.acc → t.multiplier ≡ s.multiplier
    → t.counter ≡ s.counter → t.tape ≡ s.tape → t.last ≡ s.last → t.orders ≡ s.orders → t ≡ s
same_state s t size store acc multiplier counter tape last orders = search rules

-- what a picture shows of a state on the way is within its bounds
module _ {small : Bool} {rows words digits : List ℕ} {r : Registers} (p : CanGoOn small rows words digits r) where
  abbrev shown : State
  shown = state_after p.way.orders p.first

  pub IsFirst-begun : IsFirst (size_shown small) rows p.first
  IsFirst-begun = is_first p.way.rows_are p.begins

  sound : IsSound shown
  sound = way_sound IsFirst-begun p.way.orders

  pub fit_words : length words ≡ 1024 → (a : ℕ) → get_or words a 0 < 2 ^ 17
  fit_words = words_fit shown.store words digits sound.store p.way.pictured.store

  pub fit_multiplier : r.multiplier < 2 ^ 35
  fit_multiplier = subst (λ n. n < 2 ^ 35) (sym p.way.pictured.registers.multiplier) sound.multiplier

  pub fit_counter : r.counter < locations (size_shown small)
  fit_counter =
      subst (λ n. n < locations (size_shown small)) (sym p.way.pictured.registers.counter)
      (subst (λ (z : Size). shown.counter < locations z) (way_size IsFirst-begun p.way.orders) sound.counter)

  pub fit_last : r.last ≤ 32
  fit_last = subst (λ n. n ≤ 32) (sym p.way.pictured.registers.last) (shown_fits shown.last sound.last)

  pub fit_rows : r.rows_left ≤ length rows
  fit_rows = search (rules, way_left, IsFirst-begun)

pub most_places : (z : Size) → locations z ≤ 1024
most_places Small = lit≤ tt
most_places Full = lit≤ tt

-- a number that may be a code, and the last printed code that it represents
last_is : (read last : Option ℕ) (n : ℕ) → (IsNone read ↔ (32 ≤ n)) → IfSome read (λ code. code ≡ n)
    → n ≡ last_shown last → unwrap_or last 0 < 32 → read ≡ last
last_is None None n none some is low = refl
last_is None (Some code) n none some is low = search rules
last_is (Some read) None n none some is low = search rules
last_is (Some read) (Some code) n none some is low = ap Some (some ∙ is)

-- a state that was made of what a picture shows is the state that it shows
pub shown_state : {z : Size} {rows : List ℕ} {first : State} → IsFirst z rows first → (k : ℕ)
    {words digits : List ℕ} {r : Registers} (t : State)
    → Pictures (state_after k first) words digits r → t.size ≡ z
    → ((c : Cells) → IsStore c → PicturesStore c words digits → t.store ≡ c)
    → ((a : ℕ) → a < 2 ^ 71 → r.acc_low ≡ a % 2 ^ 36 → r.acc_high ≡ a / 2 ^ 36 → t.acc ≡ a)
    → t.multiplier ≡ r.multiplier → t.counter ≡ r.counter → t.tape ≡ drop (length rows - r.rows_left) rows
    → (IsNone t.last ↔ (32 ≤ r.last)) → IfSome t.last (λ code. code ≡ r.last) → t.orders ≡ r.orders
    → t ≡ state_after k first
shown_state {rows = rows} {first} is k t p size store acc multiplier counter tape none some orders =
    let s = state_after k first in
    let sound = way_sound is k in
    let g = p.registers in
    same_state s t (size ∙ sym (way_size is k)) (store s.store sound.store p.store)
    (acc s.acc sound.acc g.acc_low g.acc_high) (multiplier ∙ g.multiplier) (counter ∙ g.counter)
    (tape ∙ ap (λ n. drop (length rows - n) rows) g.rows_left ∙ way_rows is k)
    (last_is t.last s.last _ none some g.last sound.last) (orders ∙ g.orders)
