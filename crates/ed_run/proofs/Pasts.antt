-- One more order of a run.
use Rattle.ed_run.proofs.Kit.{nat_le, Sheet, Ending, Limit, Stopped, Turn, Printed, Went, [], ap, arith, Bool, false}
use Rattle.ed_run.proofs.Kit.{inl, inr, length, length-append, None, refl, rules, Some, sym, true, ℕ, ◌+◌, ◌-◌, ◌<◌}
use Rattle.ed_run.proofs.Kit.{◌∙◌, ◌≡◌, ◌≤◌, ◌⊎◌, nat_tests, step, State, codes_of, is_obeyed, progress, state_after}
use Rattle.ed_run.proofs.Kit.{stops_of, end_at, end_by, EndsAfter, IsRun, prints}
use Rattle.std.proofs.Common.{◌++◌, below_more, Option, append_assoc, subst}
use Rattle.ed_machine.specs.declared.ending.Ending.TheVariants.{PaperFull}
use Rattle.ed_machine.specs.declared.turn.Turn.TheVariants.{Stopped as Stops}
use Rattle.ed_machine.proofs.Steps.{next_state, next_stops, past_next}
use Rattle.ed_run.proofs.Ends.{limit_ends, stop_ends}

-- a run that has obeyed some orders and has not ended
module _ (limit resumes room : ℕ) (s : State) where
  -- k orders led to m, with this number of stops
  pub record Past (k : ℕ) (m : State) (stops : ℕ) : Type 0 where
    pub state : m ≡ state_after k s
    pub stops_are : stops ≡ (progress k s).stops
    pub within : stops ≤ resumes
    pub first : (j : ℕ) → j < k → end_at limit resumes room j (progress j s) ≡ None

  pub past_first : Past 0 s 0
  unfolding progress
  past_first = record { state = refl; stops_are = refl; within = omega arith; first = λ j l. absurd (omega arith) }

module _ {limit resumes room : ℕ} {s : State} {k : ℕ} {m : State} {stops : ℕ}
    (p : Past limit resumes room s k m stops) where
  -- whether the paper is full now
  abbrev full_now : Bool
  full_now = nat_le room (length (progress k s).codes)

  few_stops : (progress k s).stops ≤ resumes
  few_stops = omega (arith, p.stops_are, p.within)

  next_end : k < limit → end_at limit resumes room k (progress k s) ≡ end_by (step m).turn full_now
  next_end below = search rules

  -- at its limit
  pub past_limit : k ≡ limit → EndsAfter limit resumes room s k Limit
  past_limit is = record { now = limit_ends limit resumes room k (progress k s) few_stops is; first = p.first }

  -- its next order, which has this turn, does not end it
  module _ (below : k < limit) (none : end_by (step m).turn full_now ≡ None) where
    pub first_more : (j : ℕ) → j < k + 1 → end_at limit resumes room j (progress j s) ≡ None
    first_more = below_more (λ j. end_at limit resumes room j (progress j s) ≡ None) k p.first (next_end below ∙ none)

    module _ {turn : Turn} (is : (step m).turn ≡ turn) where
      stops_more : (progress (k + 1) s).stops ≡ stops + stops_of turn
      stops_more =
          next_stops k s ∙ ap (λ n. n + stops_of (step (state_after k s)).turn) (sym p.stops_are)
          ∙ ap (λ (x : State). stops + stops_of (step x).turn) (sym p.state) ∙ ap (λ (t : Turn). stops + stops_of t) is

      -- it goes on
      pub past_more : {n : State} {more : ℕ} → n ≡ (step m).state → more ≡ stops + stops_of turn → more ≤ resumes
          → Past limit resumes room s (k + 1) n more
      past_more to count within = record {
        state = next_state k s p.state to;
        stops_are = count ∙ sym stops_more;
        within = within;
        first = first_more;
      }

      -- it ends with a stop for which no resume is left
      pub past_stops : resumes < stops + stops_of turn → EndsAfter limit resumes room s (k + 1) Stopped
      past_stops many = record {
        now = stop_ends limit resumes room (k + 1) (progress (k + 1) s) (omega (arith, many, stops_more));
        first = first_more;
      }

-- what one order of the program did: the turn, the state and the paper after it, and the stops counted
pub record Took (m : State) (paper : Sheet) (stops : ℕ) (turn : Turn) (m' : State) (paper' : Sheet) (stops' : ℕ) :
    Type 0 where
  pub turn_is : (step m).turn ≡ turn
  pub state_is : m' ≡ (step m).state
  pub paper_is : paper' ≡ record { codes = paper.codes ++ codes_of turn; room = paper.room }
  pub stops_are : stops' ≡ stops + stops_of turn

-- an order that prints nothing did this
pub Took-silent : {m m' : State} {paper paper' : Sheet} {stops stops' : ℕ} {turn : Turn} → (step m).turn ≡ turn
    → m' ≡ (step m).state
    → paper' ≡ paper → codes_of turn ≡ [] → stops' ≡ stops + stops_of turn → Took m paper stops turn m' paper' stops'
Took-silent {paper = paper} {turn = turn} turn_is state_is same none counted = search rules

-- whether a sheet has no room left
abbrev pub is_full : Sheet → Bool
is_full paper = nat_le paper.room (length paper.codes)

-- a run of the program from a state onto a sheet
module _ (limit resumes : ℕ) (s : State) (sheet : Sheet) where
  -- the state of the program after k orders
  pub record Running (k : ℕ) (m : State) (paper : Sheet) (stops : ℕ) : Type 0 where
    pub past : Past limit resumes (sheet.room - length sheet.codes) s k m stops
    pub codes : paper ≡ record { codes = sheet.codes ++ (progress k s).codes; room = sheet.room }

  pub at_first : Running 0 s sheet 0
  unfolding progress
  at_first = search rules

-- k orders of it have been obeyed
module _ {limit resumes : ℕ} {s : State} {sheet : Sheet} {k : ℕ} {m : State} {paper : Sheet} {stops : ℕ}
    (r : Running limit resumes s sheet k m paper stops) where
  -- the paper after one more order
  taken : {m' : State} {paper' : Sheet} {stops' : ℕ} {turn : Turn} → Took m paper stops turn m' paper' stops'
      → paper' ≡ record { codes = sheet.codes ++ (progress (k + 1) s).codes; room = sheet.room }
  taken {paper' = paper'} {turn = turn} t =
      let p = progress k s in
      let turn_is : (step p.state).turn ≡ turn =
      ap (λ (x : State). (step x).turn) (sym r.past.state) ∙ t.turn_is in
      let whole : paper'.codes ≡ sheet.codes ++ (p.codes ++ codes_of (step p.state).turn) =
      ap (λ (x : Sheet). x.codes) t.paper_is
      ∙ ap (λ (x : Sheet). x.codes ++ codes_of turn) r.codes
      ∙ append_assoc sheet.codes p.codes (codes_of turn)
      ∙ ap (λ (u : Turn). sheet.codes ++ (p.codes ++ codes_of u)) (sym turn_is) in
      let room : paper'.room ≡ sheet.room = ap (λ (x : Sheet). x.room) t.paper_is
      ∙ ap (λ (x : Sheet). x.room) r.codes in
      rw (past_next k s) (λ i. record { codes = whole i; room = room i })

  -- the room left for the codes of a run is what is left of the sheet's
  full_is : nat_le (sheet.room - length sheet.codes) (length (progress k s).codes) ≡ is_full paper
  full_is =
      let codes : length paper.codes ≡ length sheet.codes + length (progress k s).codes =
      ap (λ (x : Sheet). length x.codes) r.codes ∙ length-append sheet.codes (progress k s).codes in
      let room : paper.room ≡ sheet.room = ap (λ (x : Sheet). x.room) r.codes in
      rw (codes, room) (moved sheet.room (length sheet.codes) (length (progress k s).codes))
    where
      moved : (a b c : ℕ) → nat_le (a - b) c ≡ nat_le a (b + c)
      moved a b c = grind (arith, nat_tests)

  -- so the next order ends the run if it does on this paper
  same_end : {o : Option Ending} (turn : Turn) → end_by turn (is_full paper) ≡ o
      → end_by turn (nat_le (sheet.room - length sheet.codes) (length (progress k s).codes)) ≡ o
  same_end turn is = ap (end_by turn) full_is ∙ is

  -- the run goes on after an order that does not end it
  pub goes_on : {m' : State} {paper' : Sheet} {stops' : ℕ} {turn : Turn} → k < limit
      → Took m paper stops turn m' paper' stops' → end_by (step m).turn (is_full paper) ≡ None → stops' ≤ resumes
      → Running limit resumes s sheet (k + 1) m' paper' stops'
  goes_on below t free within = record {
    past = past_more r.past below (same_end (step m).turn free) t.turn_is t.state_is t.stops_are within;
    codes = taken t;
  }

  -- the number of orders obeyed, in another form
  pub Running-later : {n : ℕ} → k ≡ n → Running limit resumes s sheet n m paper stops
  Running-later is = subst (λ j. Running limit resumes s sheet j m paper stops) is r

  -- the run ends before an order that would end it
  pub ends_here : {ending : Ending} → k < limit → end_by (step m).turn (is_full paper) ≡ Some ending
      → IsRun limit resumes s sheet ending m paper
  ends_here below is = record {
    orders = k;
    ends = record { now = next_end r.past below ∙ same_end (step m).turn is; first = r.past.first };
    state_is = r.past.state;
    sheet_is = r.codes;
  }

  -- the run ends with a stop for which no resume is left
  pub ends_with_stop : {m' : State} {paper' : Sheet} {stops' : ℕ} → k < limit
      → Took m paper stops Stops m' paper' stops' → resumes < stops' → IsRun limit resumes s sheet Stopped m' paper'
  ends_with_stop below t many = record {
    orders = k + 1;
    ends = past_stops r.past below
        (same_end (step m).turn (ap (λ (u : Turn). end_by u (is_full paper)) t.turn_is)) t.turn_is
        (omega (arith, many, t.stops_are));
    state_is = next_state k s r.past.state t.state_is;
    sheet_is = taken t;
  }

-- an order that prints ends the run if the paper is full
pub full_ends : (turn : Turn) (full : Bool) → full ≡ true → prints turn ≡ true → end_by turn full ≡ Some PaperFull
full_ends (Printed code) full is printing = rw is refl
full_ends turn full is printing = absurd (cc)

-- an order that was obeyed doesn't end the run if the paper has room or nothing is printed
pub none_ends : (turn : Turn) (full : Bool) → is_obeyed turn ≡ true → (full ≡ false) ⊎ (prints turn ≡ false)
    → end_by turn full ≡ None
none_ends Went full obeyed either = refl
none_ends Stops full obeyed either = refl
none_ends (Printed code) full obeyed (inl room) = rw room refl
none_ends (Printed code) full obeyed (inr silent) = absurd (cc)
none_ends turn full obeyed either = absurd (cc)
