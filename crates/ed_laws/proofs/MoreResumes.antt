-- A run with more resumes, and a trace with a greater limit.
use Rattle.ed_laws.proofs.Kit.{StartsWith, [], ap, arith, List, sym, ℕ, ◌+◌, ◌-◌, ◌∙◌, ◌≡◌, ◌≤◌, State, state_after}
use Rattle.ed_laws.proofs.Kit.{run_end, RunEnd, first_state, tape, ending_line, first_state1, Outcome, paper_room}
use Rattle.ed_laws.proofs.Kit.{status_of, entered_before, trace_to, letters_in, Option, Size, nat_le, length, progress}
use Rattle.ed_laws.proofs.Kit.{lt-leb, few_codes, ◌<◌}
use Rattle.ed_run.specs.declared.settings.Window.{Window}
use Rattle.ed_laws.proofs.Limits.{Gives, bare, each_limit, outcomes_begin, Gives-ran_outcome}
use Rattle.ed_streams.specs.Traces.{trace_outcome}
use Rattle.ed_laws.specs.MoreResumes.{EachLimitIsKept, EachResume, KeepsResumes, TraceKeepsLimits, letters_of}
use Rattle.ed_laws.proofs.PartsLimits.{parts_keep_limits}
use Rattle.ed_laws.proofs.Stepped.{letters_sum}
use Rattle.ed_laws.proofs.TwoRuns.{limit_later, limit_same, resumed_begins, resumed_later, resumed_same}

-- ---- what `run` answers

resumes_kept : (first : Size → State) {give : Option Window → RunEnd → Outcome} → Gives give
    → KeepsResumes (λ s. give s.post_mortem (run_end s.limit s.resumes paper_room (first s.size))) (λ o. o.out)
resumes_kept first {give} g = record {
  same = λ s more few other.
      ap (give s.post_mortem) (resumed_same s.limit s.resumes more paper_room (first s.size) few
      (λ e. other (g.status _ _ ∙ ap status_of e))).run;
  begins = λ s more few none.
      outcomes_begin g s.post_mortem _ _ none (resumed_begins s.limit s.resumes more paper_room (first s.size) few);
}

-- ---- traces

-- the letters of more orders begin with those of fewer
pub letters_begin : (k m : ℕ) (s : State) → k ≤ m → StartsWith (letters_in (trace_to m s)) (letters_in (trace_to k s))
letters_begin k m s fits =
    let whole : k + (m - k) ≡ m = omega (arith, fits) in (
      letters_in (trace_to (m - k) (state_after k s)),
      ap (λ n. letters_in (trace_to n s)) (sym whole) ∙ letters_sum k (m - k) s,
    )

-- the answer of a trace by the run's orders and its end
abbrev trace_by : State → ℕ → RunEnd → Outcome
trace_by s k r = record { out = trace_to k s; note = ending_line r.ending r.state; status = status_of r.ending }

trace_keeps : (codes : List ℕ) → KeepsResumes (λ s. trace_outcome s codes) letters_of
trace_keeps codes = record {
  same = λ s more few other.
      let first = first_state s.size codes in
      let one = resumed_same s.limit s.resumes more s.limit first few (λ e. other (ap status_of e)) in
      λ i. trace_by first (one.orders i) (one.run i);
  begins = λ s more few none.
      letters_begin _ _ (first_state s.size codes)
      (resumed_later s.limit s.resumes more s.limit (first_state s.size codes) few);
}

-- below its limit no trace has as many codes as its paper has room for
trace_papers : (low high : ℕ) (s : State) → low ≤ high → (k : ℕ) → k < low
    → nat_le high (length (progress k s).codes) ≡ nat_le low (length (progress k s).codes)
trace_papers low high s fits k less =
    lt-leb _ _ (omega (arith, few_codes k s, less, fits)) ∙ sym (lt-leb _ _ (omega (arith, few_codes k s, less)))

trace_keeps_limits : (codes : List ℕ) → TraceKeepsLimits codes
trace_keeps_limits codes = record {
  same = λ s more fits other.
      let first = first_state s.size codes in
      let one = limit_same s.limit more s.resumes s.limit more first fits (trace_papers s.limit more first fits)
      (λ e. other (ap status_of e)) in
      λ i. trace_by first (one.orders i) (one.run i);
  begins = λ s more fits.
      let first = first_state s.size codes in
      letters_begin _ _ first
      (limit_later s.limit more s.resumes s.limit more first fits (trace_papers s.limit more first fits));
}

pub each_resume : EachResume
each_resume = record {
  tapes = λ codes. resumes_kept (λ z. first_state z codes) (Gives-ran_outcome (λ t. []));
  first_tapes = λ codes. resumes_kept (λ z. first_state1 codes) bare;
  sources = λ lines. resumes_kept (λ z. first_state z (tape lines)) (Gives-ran_outcome (entered_before lines));
  traces = trace_keeps;
}

pub each_limit_is_kept : EachLimitIsKept
each_limit_is_kept = record { runs = each_limit; traces = trace_keeps_limits; parts = parts_keep_limits }
