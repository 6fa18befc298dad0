-- Each list of rows has one outcome as a tape in parts, and what was written on the way is a part of it.
use Rattle.ed_streams.proofs.Kit.{Settings, stop_faults, WriteStop, Failed, Memory, Answer, of_input, ForInput, [], ap}
use Rattle.ed_streams.proofs.Kit.{append-nil, Err, List, Ok, refl, subst, sym, ℕ, ◌∙◌, ◌≡◌, State, Device, Wrote, WrotePart}
use Rattle.ed_streams.proofs.Kit.{IsInParts, Carried, WritesNote, none_written}
use Rattle.ed_initial.specs.Entry.{first_state}
use Rattle.ed_tapes.proofs.Replies.{HasOne}
use Rattle.ed_interlude.specs.Parts.{PartsAnswer, IsReportOfTape, PartsReport}
use Rattle.ed_interlude.specs.declared.tape.PartsEnd.{PartsEnd}
use Rattle.ed_interlude.proofs.Tales.{each_told_once}
use Rattle.ed_streams.specs.Parts.{end_note, end_status, report_outcome}

pub parts_one : (s : Settings) → HasOne (IsInParts s)
parts_one s = record {
  some = λ codes.
      let one = (each_told_once s.limit (first_state s.size codes)).some in
      (report_outcome one.0, record { told = one.0; tells = one.1; outcome = refl });
  once = λ codes o other p q.
      let same = (each_told_once s.limit (first_state s.size codes)).once p.told q.told p.tells q.tells in
      sym p.outcome ∙ ap report_outcome same ∙ q.outcome;
}

module _ (s : Settings) (codes : List ℕ) {start : State} (is : start ≡ first_state s.size codes) (out : Device) where
  due : (t : PartsReport) → IsReportOfTape s.limit start t → IsInParts s codes (report_outcome t)
  due t tells =
      record { told = t; tells = subst (λ (x : State). IsReportOfTape s.limit x t) is tells; outcome = refl }

  -- the run ended, and its lines are on `out`
  pub parts_told : {end : PartsEnd} {last : State} {note : List ℕ} {status : ℕ}
      → PartsAnswer s.limit start (Ok end) last out.before out.after
      → note ≡ end_note end last → status ≡ end_status end
      → ForInput (of_input (λ _. IsInParts s codes)) [] (WritesNote out note status)
  parts_told a note_is status_is = (
    report_outcome a.0,
    due a.0 a.1,
    record {
      wrote = a.4;
      note_is = note_is ∙ (λ i. end_note (a.2 i) (a.3 i));
      status_is = status_is ∙ ap end_status a.2;
    },
  )

  -- they are, and no memory was found for the note
  pub parts_untold : {end : PartsEnd} {last : State} → PartsAnswer s.limit start (Ok end) last out.before out.after
      → ForInput (of_input (λ _. IsInParts s codes)) [] (λ o. WrotePart out o.out)
  parts_untold a = (
    report_outcome a.0,
    due a.0 a.1,
    record {
      part = a.0.text;
      rest = [];
      whole = sym (append-nil a.0.text);
      gains = a.4;
    },
  )

  -- a prefix of them is
  pub parts_broken : (fault : WriteStop) (last : State)
      → PartsAnswer s.limit start (Err fault) last out.before out.after
      → ForInput (of_input (λ _. IsInParts s codes)) [] (λ o. WrotePart out o.out)
  parts_broken fault last a = (report_outcome a.0, due a.0 a.1, a.2)

-- nothing was written
pub parts_none : (s : Settings) (codes : List ℕ) (out : Device) → Wrote out []
    → ForInput (of_input (λ _. IsInParts s codes)) [] (λ o. WrotePart out o.out)
parts_none s codes out w = let one = (parts_one s).some codes in (one.0, one.1, none_written out one.0.out w)

-- a fault stops the command
pub parts_stopped : (answer : Answer) (fault : WriteStop) (out : Device)
    → out.faults_after ≡ stop_faults {T = Unit {0}} (Err fault) out.faults_before
    → ForInput answer [] (λ o. WrotePart out o.out) → Carried answer [] out (Err fault)
parts_stopped answer Failed out h w = (h, w)
parts_stopped answer Memory out h w = (h, w)
