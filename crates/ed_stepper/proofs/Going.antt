-- The orders of a run whose paper is never full.
use Rattle.ed_stepper.proofs.Kit.{Turn, Printed, Stopped, Went, step, State, is_obeyed, progress, stops_of, ap, arith}
use Rattle.ed_stepper.proofs.Kit.{inl, inr, length, nat_le, None, refl, Some, sym, true, ℕ, ◌<◌, ◌∙◌, ◌≡◌, ◌⊎◌}
use Rattle.std.proofs.lemmas.Bool.{lt-leb}
use Rattle.ed_machine.proofs.Steps.{few_codes}
use Rattle.ed_run.specs.Run.{end_by, EndsAfter}
use Rattle.ed_machine.specs.declared.ending.Ending.{Ending}
use Rattle.ed_run.proofs.Ends.{next_ends}
use Rattle.ed_run.proofs.Pasts.{Past, none_ends}

-- the turn of an order that was obeyed
pub obeyed_turn : (t : Turn) → (t ≡ Went) ⊎ (((x : ℕ) × (t ≡ Printed x)) ⊎ (t ≡ Stopped)) → is_obeyed t ≡ true
obeyed_turn t (inl e) = ap is_obeyed e
obeyed_turn t (inr (inl p)) = ap is_obeyed p.1
obeyed_turn t (inr (inr e)) = ap is_obeyed e

pub no_stop : (t : Turn) → (t ≡ Stopped → ⊥) → stops_of t ≡ 0
no_stop Stopped h = absurd (h refl)
no_stop t h = refl

-- below the limit such an order doesn't end the run
pub never_ends : (s m : State) {limit k : ℕ} {turn : Turn} → k < limit → turn ≡ (step m).turn → is_obeyed turn ≡ true
    → end_by (step m).turn (nat_le limit (length (progress k s).codes)) ≡ None
never_ends s m {k = k} below is obeyed =
    none_ends _ _ (ap is_obeyed (sym is) ∙ obeyed) (inl (lt-leb _ _ (omega (arith, few_codes k s))))

-- an order that can't be obeyed ends the run before it
pub past_blocks : {limit resumes room : ℕ} {s : State} {k : ℕ} {m : State} {stops : ℕ} {turn blocked : Turn}
    {ending : Ending} → Past limit resumes room s k m stops → k < limit → turn ≡ (step m).turn → turn ≡ blocked
    → end_by blocked (nat_le room (length (progress k s).codes)) ≡ Some ending
    → EndsAfter limit resumes room s k ending
past_blocks {limit} {resumes} {room} {s} {k} p below is kind ends =
    let turn = ap (λ (x : State). (step x).turn) (sym p.state) ∙ sym is ∙ kind in
    record {
      now = next_ends limit resumes room k (progress k s) (omega (arith, p.stops_are, p.within)) below
          ∙ ap (λ t. end_by t (nat_le room (length (progress k s).codes))) turn ∙ ends;
      first = p.first;
    }
