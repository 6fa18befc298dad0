-- When a run ends, if each of its orders is obeyed and has room.
use Rattle.ed_run.proofs.Kit.{nat_le, Ending, Limit, Stopped, Turn, NoOrder, NoTape, Printed, ap, arith, Bool, length}
use Rattle.ed_run.proofs.Kit.{length-append, None, refl, Some, suc, true, ℕ, ◌+◌, ◌-◌, ◌<◌, ◌∙◌, ◌≡◌, ◌≤◌, step, State}
use Rattle.ed_run.proofs.Kit.{codes_of, is_obeyed, progress, Progress, state_after, stops_of, end_at, end_by, EndsAfter}
use Rattle.std.proofs.lemmas.Bool.{leb-true}
use Rattle.ed_machine.specs.declared.turn.Turn.TheVariants.{Stopped as Stops}
use Rattle.ed_machine.proofs.Steps.{past_sum}
use Rattle.ed_run.specs.Laws.{HasRoom}
use Rattle.ed_run.proofs.Ends.{limit_ends, next_ends, stop_ends}

-- what one order adds
next_codes : (j : ℕ) (s : State)
    → length (progress (suc j) s).codes ≡ length (progress j s).codes + length (codes_of (step (state_after j s)).turn)
unfolding progress
next_codes j s = length-append (progress j s).codes (codes_of (step (state_after j s)).turn)

next_stops : (j : ℕ) (s : State) → (progress (suc j) s).stops
    ≡ (progress j s).stops + stops_of (step (state_after j s)).turn
unfolding progress
next_stops j s = refl

-- the numbers of codes and of stops never decrease
grows : (j d : ℕ) (s : State)
    → ((progress j s).stops ≤ (progress (j + d) s).stops)
    × (length (progress j s).codes ≤ length (progress (j + d) s).codes)
grows j d s =
    let later = progress d (state_after j s) in
    let stops : (progress (j + d) s).stops ≡ (progress j s).stops + later.stops =
    ap (λ (p : Progress). p.stops) (past_sum j d s) in
    let codes : length (progress (j + d) s).codes ≡ length (progress j s).codes + length later.codes =
    ap (λ (p : Progress). length p.codes) (past_sum j d s) ∙ length-append (progress j s).codes later.codes in
    (omega (arith, stops), omega (arith, codes))

-- an order that is obeyed doesn't end the run if it prints nothing or has room
goes_by : (turn : Turn) (full : Bool) → is_obeyed turn ≡ true → (full ≡ true → length (codes_of turn) ≡ 0)
    → end_by turn full ≡ None
goes_by (Printed code) true o h = absurd (let e = h refl in omega arith)
goes_by (NoOrder function) full o h = cc
goes_by NoTape full o h = cc
goes_by turn full o h = refl

-- no end comes before an order that is obeyed and has room, if resumes are left
not_before : (limit resumes : ℕ) {room k : ℕ} {s : State} → HasRoom room k s → k ≤ limit → (j : ℕ) → j < k
    → (progress j s).stops ≤ resumes → end_at limit resumes room j (progress j s) ≡ None
not_before limit resumes {room} {k} {s} r below j l few =
    let whole : suc j + (k - suc j) ≡ k = omega arith in
    let more = (grows (suc j) (k - suc j) s).1 in
    let most : length (progress (suc j) s).codes ≤ length (progress k s).codes = rw whole at more in
    next_ends limit resumes room j (progress j s) few (omega arith)
    ∙ goes_by (step (state_after j s)).turn (nat_le room (length (progress j s).codes)) (r.obeyed j l)
    (λ full. let m = leb-true room (length (progress j s).codes) full in
    omega (arith, m, most, r.printed, next_codes j s))

-- a bound on the number of stops at the end is one at each order before
was_few : (k j n : ℕ) (s : State) → j ≤ k → (progress k s).stops ≤ n → (progress j s).stops ≤ n
was_few k j n s l h =
    let whole : j + (k - j) ≡ k = omega arith in
    let more = (grows j (k - j) s).0 in
    let most : (progress j s).stops ≤ (progress k s).stops = rw whole at more in
    omega (arith, most, h)

pub at_limit : (limit resumes : ℕ) {room : ℕ} {s : State} → HasRoom room limit s → (progress limit s).stops ≤ resumes
    → EndsAfter limit resumes room s limit Limit
at_limit limit resumes {s = s} r few = record {
  now = limit_ends limit resumes _ limit (progress limit s) few refl;
  first = λ j l. not_before limit resumes r (omega arith) j l (was_few limit j resumes s (omega arith) few);
}

pub at_block : (limit resumes : ℕ) {room k : ℕ} {s : State} {e : Ending} → HasRoom room k s
    → (progress k s).stops ≤ resumes → k < limit
    → end_by (step (state_after k s)).turn (nat_le room (length (progress k s).codes)) ≡ Some e
    → EndsAfter limit resumes room s k e
at_block limit resumes {k = k} {s = s} r few l h = record {
  now = next_ends limit resumes _ k (progress k s) few l ∙ h;
  first = λ j m. not_before limit resumes r (omega arith) j m (was_few k j resumes s (omega arith) few);
}

pub at_stop : (limit resumes : ℕ) {room j : ℕ} {s : State} → HasRoom room (suc j) s → (progress j s).stops ≡ resumes
    → suc j ≤ limit
    → (step (state_after j s)).turn ≡ Stops → EndsAfter limit resumes room s (suc j) Stopped
at_stop limit resumes {j = j} {s = s} r few l stop =
    let more : (progress (suc j) s).stops ≡ (progress j s).stops + 1 = next_stops j s
    ∙ ap (λ (t : Turn). (progress j s).stops + stops_of t) stop in
    record {
      now = stop_ends limit resumes _ (suc j) (progress (suc j) s) (omega (arith, few, more));
      first = λ i m. not_before limit resumes r l i m (was_few j i resumes s (omega arith) (omega (arith, few)));
    }
