-- The check of rows for Initial Orders 1: each list of rows has one outcome, and the check's answer is that.
use Rattle.ed_tapes.proofs.Kit.{NoMemory, Tape, Err, IfOk, Ok, Result, ap, inl, inr, List, refl, sym, ℕ, ◌∙◌, ◌≡◌}
use Rattle.ed_tapes.proofs.Kit.{entry_line, IsChecked1, done, Outcome, refusal, Gives, Reply}
use Rattle.ed_initial1.specs.Checks.{Report1, Accepts1, report1}
use Rattle.ed_initial1.proofs.Unique.{one_verdict}
use Rattle.ed_report.specs.FirstNotes.{rule1_line}
use Rattle.ed_tapes.proofs.Replies.{HasOne}
use Rattle.std.proofs.Common.{rules}

-- the line of a program
abbrev told : Tape → Outcome
told t = done (entry_line 31 (report1 t).orders (report1 t).rows)

-- the rows give a program or have a fault
has_checked : (codes : List ℕ) → (o : Outcome) × IsChecked1 codes o
has_checked codes =
    elim (one_verdict codes).some [
      | inl h ↦ (told h.0, inl (record { tape = h.0; comes = h.1; outcome = refl }))
      | inr h ↦ (_, inr (record { row = h.0; cause = h.1; fault = h.2; outcome = refl }))
    ]

-- and not two of either
checked_once : (codes : List ℕ) (o other : Outcome) → IsChecked1 codes o → IsChecked1 codes other → o ≡ other
checked_once codes o other (inl a) (inl b) =
    sym a.outcome ∙ ap told ((one_verdict codes).program a.tape b.tape a.comes b.comes) ∙ b.outcome
checked_once codes o other (inl a) (inr b) = absurd ((one_verdict codes).apart a.tape a.comes b.row b.cause b.fault.is)
checked_once codes o other (inr a) (inl b) = absurd ((one_verdict codes).apart b.tape b.comes a.row a.cause a.fault.is)
checked_once codes o other (inr a) (inr b) =
    let same = (one_verdict codes).fault a.row b.row a.cause b.cause a.fault b.fault in
    sym a.outcome ∙ (λ i. refusal (rule1_line (same.0 i) (same.1 i))) ∙ b.outcome

pub checked1_one : HasOne IsChecked1
checked1_one = record { some = has_checked; once = checked_once }

-- the reply to a tape without a fault
pub program_found : {codes : List ℕ} {r : Report1} {orders count : ℕ} (given : Result Reply NoMemory) → Accepts1 codes r
    → orders ≡ r.orders → count ≡ r.rows → IfOk given (λ reply. Gives reply (done (entry_line 31 orders count)))
    → IfOk given (λ reply. (o : Outcome) × IsChecked1 codes o × Gives reply o)
program_found (Err e) a o n gives = tt
program_found {orders} {count} (Ok reply) a o n gives = search rules
