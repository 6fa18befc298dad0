-- A run with a greater limit: the same if it ended before its limit, else one that continues.
use Rattle.ed_laws.proofs.Kit.{paper, RunEnd, Size, State, run_end, first_state, Text, tape, [], ap, append-nil}
use Rattle.ed_laws.proofs.Kit.{append_assoc, List, None, Option, refl, sym, ℕ, ◌++◌, ◌∙◌, ◌∷◌, ◌≡◌, first_state1}
use Rattle.ed_laws.proofs.Kit.{Outcome, paper_room, ran_outcome, status_of, with_post_mortem, entered_before}
use Rattle.ed_laws.proofs.Kit.{paper_from, Shift, StartsWith, post_mortem_codes}
use Rattle.ed_run.specs.declared.settings.Window.{Window}
use Rattle.ed_printer.specs.Paper.{shift_after}
use Rattle.ed_printer.specs.declared.printer.Shift.TheVariants.{Letters}
use Rattle.ed_laws.specs.Limits.{EachLimit, KeepsLimits}
use Rattle.ed_laws.proofs.TwoRuns.{limit_begins, limit_same}
use Rattle.std.proofs.Common.{rules}

-- ---- on paper

-- after other codes
pub after_others : (before : List ℕ) (shift : Shift)
    → (left : Shift)
    × ((codes : List ℕ) → paper_from shift (before ++ codes) ≡ paper_from shift before ++ paper_from left codes)
after_others [] shift = (shift, λ codes. refl)
after_others (c ∷ before) shift = search (rules, append_assoc, after_others before (shift_after shift c))

pub printed_starts : (whole part : List ℕ) → StartsWith whole part → StartsWith (paper whole) (paper part)
printed_starts whole part (rest, is) =
    let after = after_others part Letters in (paper_from after.0 rest, ap paper is ∙ after.1 rest)

-- ---- outcomes

-- no post-mortem adds no code
pub none_added : (window : Option Window) (r : RunEnd) → window ≡ None → (with_post_mortem window r).codes ≡ r.codes
none_added window r is =
    ap (λ (w : Option Window). r.codes ++ post_mortem_codes w r.state) is ∙ append-nil r.codes

-- an outcome of a run has the status of its end, and its text without a post-mortem
pub record Gives (give : Option Window → RunEnd → Outcome) : Type 0 where
  pub status : (w : Option Window) (r : RunEnd) → (give w r).status ≡ status_of r.ending
  pub out : (w : Option Window) (r : RunEnd) → w ≡ None → (give w r).out ≡ paper r.codes

pub Gives-ran_outcome : (before : State → Text) → Gives (λ w r. ran_outcome (before r.state) (with_post_mortem w r))
Gives-ran_outcome before = record { status = λ w r. refl; out = λ w r none. ap paper (none_added w r none) }

pub bare : Gives (λ w r. ran_outcome [] r)
bare = record { status = λ w r. refl; out = λ w r none. refl }

-- what is printed begins so, if the codes do
pub outcomes_begin : {give : Option Window → RunEnd → Outcome} → Gives give → (w : Option Window) (r q : RunEnd)
    → w ≡ None → StartsWith r.codes q.codes → StartsWith (give w r).out (give w q).out
outcomes_begin g w r q none more =
    let (rest, is) = printed_starts r.codes q.codes more in
    (rest, g.out w r none ∙ is ∙ ap (λ (t : Text). t ++ rest) (sym (g.out w q none)))

limits_kept : (first : Size → State) {give : Option Window → RunEnd → Outcome} → Gives give
    → KeepsLimits (λ s. give s.post_mortem (run_end s.limit s.resumes paper_room (first s.size)))
limits_kept first {give} g = record {
  same = λ s more l other.
      ap (give s.post_mortem) (limit_same s.limit more s.resumes paper_room paper_room (first s.size) l (λ k h. refl)
      (λ e. other (g.status _ _ ∙ ap status_of e))).run;
  begins = λ s more l none.
      outcomes_begin g s.post_mortem _ _ none
      (limit_begins s.limit more s.resumes paper_room paper_room (first s.size) l (λ k h. refl));
}

pub each_limit : EachLimit
each_limit = record {
  tapes = λ codes. limits_kept (λ z. first_state z codes) (Gives-ran_outcome (λ t. []));
  first_tapes = λ codes. limits_kept (λ z. first_state1 codes) bare;
  sources = λ lines. limits_kept (λ z. first_state z (tape lines)) (Gives-ran_outcome (entered_before lines));
}
