-- Runs over devices whose calls never fail.
use Rattle.ed_top.proofs.Kit.{next_count, Answer, known, of_input, of_made, [], Bool, false, inl, inr, None, refl, Some}
use Rattle.ed_top.proofs.Kit.{subst, sym, ℕ, ◌≡◌, ◌≢◌, ◌⊎◌, Text, Outcome, Gains, ForDue, ProgramEnded, output}
use Rattle.std.proofs.Common.{if◌then◌else◌, rules}
use Rattle.std.proofs.lemmas.Bool.{cases_eq}
use Rattle.ed_io.specs.Memory.{Roll}
use Rattle.ed_tapes.specs.Answer.{IsDue}
use Rattle.ed_top.specs.Complete.{EachRunIsComplete, IsWhole, sure_sink, sure_source}
use Rattle.ed_devices.proofs.Endings.{due_told}

-- no call fails of a device that counts none
no_fault : ◌≡◌ {A = ℕ} 0 (next_count 0) → ⊥
no_fault e = cc

-- a new sink that kept all that it took holds what it gained
held_is : (out : Roll) (text : Text) → out.is_over ≡ false
    → Gains (Some []) (if out.is_over then None else Some out.held) text → out.held ≡ text
held_is out text is = subst (λ (b : Bool). Gains (Some []) (if b then None else Some out.held) text → out.held ≡ text)
    (sym is) (λ g. g)

-- the outcome that is due to the input that the source reports
due_sure : (answer : Answer) (input left : Text) (P : Outcome → Type 0) → ForDue answer (sure_source input left) P
    → (o : Outcome) × IsDue answer input o × P o
due_sure (known due) input left P p = (due, refl, p)
due_sure (of_made answers) input left P p = p
due_sure (of_input answers) input left P p = due_told answers (sure_source input left) P input refl p

module _ (answer : Answer) (input left : Text) (out_room note_room : ℕ) (out note : Roll) (status : ℕ)
    (e : ProgramEnded answer (sure_source input left) (sure_sink out_room out) (sure_sink note_room note) status)
    (out_whole : out.is_over ≡ false) (note_whole : note.is_over ≡ false) where
  whole : status ≢ 8 → status ≢ 9 → status ≢ 10 → IsWhole answer input out note status
  whole not8 not9 not10 = search (rules, due_sure, held_is)

  not_read : status ≢ 8
  not_read is = no_fault (e.read is).1

  not_written : status ≢ 9
  not_written is = elim (e.written is) [ inl b ↦ no_fault b.failed | inr b ↦ no_fault b.failed ]

  complete : (status ≡ 10) ⊎ IsWhole answer input out note status
  complete = elim (cases_eq status 10) [ inl is ↦ inl is | inr other ↦ inr (whole not_read not_written other) ]

-- the same for every run
pub each_complete : EachRunIsComplete
each_complete line input left out_room note_room out note status e out_whole note_whole =
    complete (output line) input left out_room note_room out note status e out_whole note_whole
