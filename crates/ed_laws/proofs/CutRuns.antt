-- A run that its limit cuts off before the program is entered, of a tape, of a source and of a tape of May 1949.
use Rattle.ed_laws.proofs.Kit.{Limit, counted_after, Settings, limit_there, lt-leb, Line, [], ap, arith, Bool}
use Rattle.ed_laws.proofs.Kit.{if◌then◌else◌, inl, List, refl, ℕ, ◌<◌, ◌∙◌, ◌≡◌, Text, State, state_after, AllWent}
use Rattle.ed_laws.proofs.Kit.{run_end, RunEnd, first_state, entry_of, cost, tape, entry_note, first_state1, paper_room}
use Rattle.ed_laws.proofs.Kit.{ran_outcome, with_post_mortem, entered_before, tape_outcome, is_obeyed}
use Rattle.ed_laws.proofs.Kit.{each_answer_is_from_entry, limit_state, run_of, paper, ◌++◌, Ending, NoTape, Outcome}
use Rattle.ed_laws.proofs.Kit.{status_of, ending_line, step, post_mortem_codes}
use Rattle.ed_laws.specs.FirstEntry.{cost1}
use Rattle.ed_machine.specs.declared.turn.Turn.TheVariants.{NoTape as HasNoTape}
use Rattle.ed_run.proofs.Quiet.{no_tape_there}
use Rattle.ed_laws.proofs.FirstEntries.{first_went, runs_from_31}
use Rattle.ed_laws.specs.CutRuns.{IsCutOff}
use Rattle.ed_laws.specs.FirstEntries.{EachFirstTapeRunsFromEntry}
use Rattle.ed_laws.specs.SourceEntries.{EachSourceRunsFromEntry}
use Rattle.ed_laws.proofs.Stepped.{none_done}
use Rattle.std.proofs.Common.{rules}

-- ---- a run whose first k orders neither print nor stop, from a state with no order counted

pub orders_done : (k : ℕ) (s : State) → AllWent k s → s.orders ≡ 0 → (state_after k s).orders ≡ k
orders_done k s went none =
    let count = counted_after k s (λ j less. ap is_obeyed (went j less)) in omega (arith, count, none)

-- the outcome of each of its endings, if it ends after k orders with the counter at the place
module _ (limit resumes k place : ℕ) (s : State) (give : RunEnd → Outcome) (out : Text) (went : AllWent k s)
    (none : s.orders ≡ 0) (at : (state_after k s).counter ≡ place)
    (told : (e : Ending) → give (record { ending = e; state = state_after k s; codes = [] })
    ≡ record { out = out; note = ending_line e (state_after k s); status = status_of e }) where
  abbrev outcome : Ending → Outcome
  outcome e = record {
    out = out;
    note = ending_line e (record (state_after k s) { counter = place; orders = k });
    status = status_of e;
  }

  ends_so : {r : RunEnd} (e : Ending) → r ≡ record { ending = e; state = state_after k s; codes = [] }
      → give r ≡ outcome e
  ends_so e is = search (rules, orders_done)

  pub at_limit : limit ≡ k → give (run_end limit resumes paper_room s) ≡ outcome Limit
  at_limit is =
      ends_so Limit (ap (λ n. run_end n resumes paper_room s) is ∙ limit_there k resumes paper_room s went)

  pub at_no_tape : k < limit → (step (state_after k s)).turn ≡ HasNoTape
      → give (run_end limit resumes paper_room s) ≡ outcome NoTape
  at_no_tape below turn = ends_so NoTape (no_tape_there limit resumes paper_room k s went below turn)

-- ---- a tape

module _ (s : Settings) (rows : List ℕ) (k : ℕ) (went : AllWent k (first_state s.size rows)) (below : s.limit < k) where
  few_went : AllWent s.limit (first_state s.size rows)
  few_went j less = went j (omega (arith, less, below))

  pub limit_orders : (limit_state s rows).orders ≡ s.limit
  limit_orders = orders_done s.limit (first_state s.size rows) few_went (none_done s.size rows)

  -- its answer, with a text before the line of its end that is empty there
  cut_off : (before : State → Text) → before (limit_state s rows) ≡ []
      → IsCutOff s rows (ran_outcome (before (run_of s rows).state) (with_post_mortem s.post_mortem (run_of s rows)))
  cut_off before empty =
      let there = limit_state s rows in
      let out : Text = paper (post_mortem_codes s.post_mortem there) in
      record {
        state_is = ap (λ (r : RunEnd). r.state) (limit_there s.limit s.resumes paper_room _ few_went);
        outcome = at_limit s.limit s.resumes s.limit there.counter (first_state s.size rows)
            (λ q. ran_outcome (before q.state) (with_post_mortem s.post_mortem q)) out few_went
            (none_done s.size rows) refl
            (λ e. ap (λ (t : Text). record { out = out; note = t ++ ending_line e there; status = status_of e }) empty)
            refl;
      }

  pub tape_cut_off : IsCutOff s rows (tape_outcome s rows)
  tape_cut_off = cut_off (λ t. []) refl

-- ---- a source

-- the entry isn't reported
not_entered : (lines : List Line) (t : State) → t.orders < cost lines → entered_before lines t ≡ []
not_entered lines t less =
    ap (λ (b : Bool). if b then entry_note (entry_of lines) (cost lines) else []) (lt-leb (cost lines) t.orders less)

pub sources_run_from_entry : EachSourceRunsFromEntry
sources_run_from_entry s source lines accepted =
    let from = each_answer_is_from_entry s source lines accepted in
    let went = from.enters.went in
    record {
      entered = from;
      short = λ below.
          cut_off s (tape lines) (cost lines) went below (entered_before lines)
          (not_entered lines (limit_state s (tape lines))
          (omega (arith, limit_orders s (tape lines) (cost lines) went below, below)));
    }

-- ---- a tape of May 1949

pub none_done1 : (rows : List ℕ) → (first_state1 rows).orders ≡ 0
unfolding first_state1
none_done1 rows = refl

pub first_tapes_run_from_entry : EachFirstTapeRunsFromEntry
first_tapes_run_from_entry s rows t comes =
    let first = first_state1 rows in
    let went : AllWent (cost1 t) first = first_went rows t comes in
    record {
      checked = inl (record { tape = t; comes = comes; outcome = refl });
      runs = runs_from_31 s rows t comes;
      short = λ below.
          at_limit s.limit s.resumes s.limit _ first (ran_outcome []) []
          (λ j less. went j (omega (arith, less, below))) (none_done1 rows) refl (λ e. refl) refl;
    }
