-- The check of rows from a cleared store: each list of rows has one outcome, and the check's answer is that.
use Rattle.ed_tapes.proofs.Kit.{NoMemory, Size, Settings, ◌≢◌, TapeEntry, Err, IfOk, Ok, Result, Text, ap, arith}
use Rattle.ed_tapes.proofs.Kit.{inl, inr, List, refl, subst, sym, ℕ, ◌∙◌, ◌≡◌, entry_line, done, Outcome}
use Rattle.ed_tapes.proofs.Kit.{refusal, Gives, IsChecked, Reply}
use Rattle.ed_notation.proofs.Kit.{IsDirective, ReadingIsRules}
use Rattle.ed_store.specs.Cells.{Cells, cleared_cells}
use Rattle.ed_notation.specs.Openings.{opening}
use Rattle.ed_notation.specs.Reports.{Report}
use Rattle.ed_notation.specs.declared.cause.TapeFault.{TapeFault}
use Rattle.ed_notation.specs.declared.cause.TapeFault.TheVariants.{At, Memory}
use Rattle.ed_notation.proofs.Laws.{reading_is_rules}
use Rattle.ed_notation.proofs.Verdicts.{entry_once, fault_once}
use Rattle.ed_report.specs.Notes.{rule_line, tape_fault_line}
use Rattle.ed_tapes.specs.Tapes.{opening_notation}
use Rattle.ed_tapes.proofs.Replies.{HasOne}
use Rattle.ed_notation.specs.Checks as checks
use Rattle.std.proofs.Common.{rules}

law : (s : Settings) (codes : List ℕ) → ReadingIsRules s.size cleared_cells.words opening_notation 9 codes
law s codes =
    let set : IsDirective 20568 = omega arith in
    reading_is_rules s.size cleared_cells.words opening_notation 9 codes set

-- the rows reach an entry or have a fault
has_checked : (s : Settings) (codes : List ℕ) → (o : Outcome) × IsChecked s codes o
has_checked s codes =
    elim (law s codes).either [
      | inl h ↦ (_, inl (record { well = h.0; entry = h.1.0; comes = h.1.1; outcome = refl }))
      | inr h ↦ (_, inr (record { row = h.0; cause = h.1; fault = h.2; outcome = refl }))
    ]

-- and not two of either
checked_once : (s : Settings) (codes : List ℕ) (o other : Outcome) → IsChecked s codes o → IsChecked s codes other
    → o ≡ other
checked_once s codes o other (inl a) (inl b) =
    let same : a.entry ≡ b.entry = entry_once (law s codes) a.well a.comes b.comes in
    sym a.outcome ∙ ap (λ (e : TapeEntry). done (entry_line e.at e.cost e.rows)) same ∙ b.outcome
checked_once s codes o other (inl a) (inr b) = absurd (a.well b.row b.cause b.fault.is)
checked_once s codes o other (inr a) (inl b) = absurd (b.well a.row a.cause a.fault.is)
checked_once s codes o other (inr a) (inr b) =
    let same = fault_once (law s codes) a.fault b.fault in
    sym a.outcome ∙ (λ i. refusal (rule_line (same.0 i) (same.1 i))) ∙ b.outcome

pub checked_one : (s : Settings) → HasOne (IsChecked s)
checked_one s = record { some = has_checked s; once = checked_once s }

-- the check from a store that is cleared
pub from_cleared : (z : Size) (codes : List ℕ) {store : Cells} (result : Result Report TapeFault)
    → store ≡ cleared_cells
    → checks.AnswersCheck z store.words (opening store.words) 9 codes result
    → checks.AnswersCheck z cleared_cells.words opening_notation 9 codes result
from_cleared z codes result is =
    subst (λ (c : Cells). checks.AnswersCheck z c.words (opening c.words) 9 codes result) is

-- the reply to a well-formed tape
pub entry_found : (s : Settings) {codes : List ℕ} {r : Report} {at orders count : ℕ} (given : Result Reply NoMemory)
    → checks.Accepts s.size cleared_cells.words opening_notation 9 codes r
    → at ≡ r.entry → orders ≡ r.orders → count ≡ r.rows
    → IfOk given (λ reply. Gives reply (done (entry_line at orders count)))
    → IfOk given (λ reply. (o : Outcome) × IsChecked s codes o × Gives reply o)
entry_found s (Err e) f a o n gives = tt
entry_found s {at = at} {orders} {count} (Ok reply) f a o n gives = search rules

-- the reply to a tape with a fault
pub fault_found : (s : Settings) (codes : List ℕ) (fault : TapeFault) {line : Text} (reply : Reply)
    → checks.AnswersCheck s.size cleared_cells.words opening_notation 9 codes (Err fault)
    → fault ≢ Memory → line ≡ tape_fault_line fault → Gives reply (refusal line)
    → (o : Outcome) × IsChecked s codes o × Gives reply o
fault_found s codes Memory reply answers other told gives = absurd (other refl)
fault_found s codes (At row cause) reply f other told gives = search rules
