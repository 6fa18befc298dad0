-- From what was written into buffers to the cause of an answer.
use Rattle.ed_page.proofs.Kit.{rules, IfSome, IsDue, of_input, Reply, arith, inl, inr, length, List, None, Option, refl}
use Rattle.ed_page.proofs.Kit.{Some, ℕ, ◌<◌, ◌≡◌, ◌≢◌, ◌≤◌, ◌⊎◌, Text, State, Outcome, Gives, Buffers, IsShown}
use Rattle.ed_page.proofs.Kit.{picture_buffers, text_buffers, Pictures, IsReplied, told_outcome, Registers}
use Rattle.ed_tapes.specs.Outcome.{too_long, too_long_outcome}
use Rattle.ed_tapes.specs.declared.input.TheConstants.{INPUT_BYTES}
use Rattle.ed_page.specs.Answers.{HasBufferRoom, HasItsCause, IsTextWritten, LacksLine, LacksRoom, ShowsNone}
use Rattle.ed_page.specs.Answers.{TextBuffers}
use Rattle.ed_page.specs.Private.Stages.{AreTextsWritten, IsPicture, IsWrittenOut, WritesBuffers}
use Rattle.ed_page.specs.declared.running.Shown.{Shown}
use Rattle.ed_page.specs.declared.writing.Lengths.{Lengths}

-- the status of a reply is not that of no memory, or of no room
pub low_status : {reply : Reply} {o : Outcome} → Gives reply o → reply.status < 12
low_status g = let low = g.low in omega (arith, low)

pub found_status : {reply : Reply} {o : Outcome} → Gives reply o → reply.status ≢ 10
found_status g e = let low = g.low in absurd (omega (arith, low, e))

-- ---- two texts

pub no_room : (o : Outcome) (out note : List ℕ) → (length out < length o.out) ⊎ ((length o.out ≤ length out)
    × (length note < length o.note)) → HasBufferRoom o out note → ⊥
no_room o out note (inl less) room = absurd (omega (arith, less, room.out_fits))
no_room o out note (inr less) room = absurd (omega (arith, less.1, room.note_fits))

-- they were written
pub told_written : (o : Outcome) {out note out_after note_after : List ℕ} {kept l : Lengths} {wrote : Option Lengths}
    → o.status < 12 → o.status ≢ 10 → wrote ≡ Some l → AreTextsWritten o out note out_after note_after wrote
    → IsWrittenOut o (text_buffers out note kept) (text_buffers out_after note_after l) o.status
told_written o {out} {note} {out_after} {note_after} {kept} {l} low found is w = search rules

-- there was no room
pub told_nowhere : (o : Outcome) {out note out_after note_after : List ℕ} {kept : Lengths} {wrote : Option Lengths}
    → wrote ≡ None → AreTextsWritten o out note out_after note_after wrote
    → IsWrittenOut o (text_buffers out note kept) (text_buffers out_after note_after kept) 12
told_nowhere o {out} {note} {out_after} {note_after} {kept} is w = search rules

-- ---- a text

-- so the answer is 12
early_long : {Kept Shown : Type 0} {out note : List ℕ} {answer : ℕ}
    → HasItsCause (HasBufferRoom too_long_outcome out note) Kept Shown answer
    → length note < length too_long → answer ≡ 12
early_long {out = out} {note} {answer} is less = search rules

-- a reply was written
pub reply_written : (answers : Text → Outcome → Type 0) (text : Text) {reply : Reply} {answer line : Text}
    {before after : TextBuffers} {status : ℕ} → length text ≤ INPUT_BYTES → IsReplied answers text reply
    → answer ≡ reply.out.items → line ≡ reply.note.items
    → IsWrittenOut (told_outcome answer line reply.status) before after status
    → IsTextWritten (of_input answers) text before after status
reply_written answers text {before = before} {after} {status} few r out note w = search rules

-- ---- a picture

-- a picture was written
pub picture_written : (o : Outcome) {machine : Option State} {wrote : Option Lengths} {l : Lengths}
    {before after : Buffers}
    → o.status < 12 → o.status ≢ 10 → length before.words ≡ 1024 → length before.digits ≡ 512
    → wrote ≡ Some l → AreTextsWritten o before.paper before.note after.paper after.note wrote
    → after.registers.printed ≡ l.out → after.registers.noted ≡ l.note
    → IfSome machine (λ m. Pictures m after.words after.digits after.registers)
    → (machine ≡ None → ShowsNone before after)
    → WritesBuffers o machine before after o.status
picture_written o {l = l} {before} {after} low found words digits is w printed noted pictures none = search rules

-- there was no room for it
pub picture_nowhere : (o : Outcome) (machine : Option State) {wrote : Option Lengths} {words digits : List ℕ}
    {paper note paper_after note_after : List ℕ} {registers : Registers} → wrote ≡ None
    → AreTextsWritten o paper note paper_after note_after wrote
    → WritesBuffers o machine (picture_buffers words digits paper note registers)
    (picture_buffers words digits paper_after note_after registers) 12
picture_nowhere o machine {words = words} {digits} {paper} {note} {paper_after} {note_after} {registers} is w =
    search rules

-- the buffers of the store have their lengths
abbrev StoreFits : Buffers → Type 0
StoreFits b = (length b.words ≡ 1024) × (length b.digits ≡ 512)

lacks_line : (text : Text) (b : Buffers) → StoreFits b → LacksRoom text b → LacksLine text b.note
lacks_line text b fits (inl words) = absurd (words fits.0)
lacks_line text b fits (inr (inl digits)) = absurd (digits fits.1)
lacks_line text b fits (inr (inr line)) = line

-- a buffer of the store has the wrong length
pub picture_early : (answers : Text → Outcome → Type 0) (Ends : Text → State → Type 0) (text : Text) (before : Buffers)
    → ((o : Outcome) × IsDue (of_input answers) text o)
    → (length before.words ≢ 1024) ⊎ ((length before.words ≡ 1024) × (length before.digits ≢ 512))
    → IsShown (of_input answers) Ends text before before 12
picture_early answers Ends text before due lacks = search rules

-- a text that is too long is shown as such
pub long_shown : (answers : Text → Outcome → Type 0) (Ends : Text → State → Type 0) (text : Text)
    {before after : Buffers} {answer : ℕ} → StoreFits before → INPUT_BYTES < length text
    → WritesBuffers too_long_outcome None before after answer → IsShown (of_input answers) Ends text before after answer
long_shown answers Ends text {before} fits long w = record {
  memory = λ e. absurd (w.0 e);
  told = λ not10. (
    too_long_outcome,
    inr (long, refl),
    record {
      no_room = w.1.no_room;
      kept = w.1.kept;
      shown = λ not12.
          let both = w.1.shown not12 in (
            both.0,
            record {
              told = both.1.told;
              state = λ few m ends. absurd (omega (arith, few, long));
              none = λ nothing. both.1.none refl;
            },
          );
    },
  );
  early = λ lacks.
      let line = lacks_line text before fits lacks in
      early_long {out = before.paper} {note = before.note}
      (record {
        no_room = λ e room. w.1.no_room e (record { words_are = fits.0; digits_are = fits.1; texts = room });
        kept = λ e. w.1.kept e;
        shown = λ not12. let both = w.1.shown not12 in (both.0.texts, both.1);
      })
      line.1;
}

-- what was drawn of a text is shown
pub picture_shown : (answers : Text → Outcome → Type 0) (Ends : Text → State → Type 0) (text : Text) {shown : Shown}
    {answer line : Text} {before after : Buffers} {status : ℕ}
    → StoreFits before → length text ≤ INPUT_BYTES → IsPicture answers Ends text shown
    → answer ≡ shown.reply.out.items → line ≡ shown.reply.note.items
    → WritesBuffers (told_outcome answer line shown.reply.status) shown.machine before after status
    → IsShown (of_input answers) Ends text before after status
picture_shown answers Ends text {shown} {before = before} {after} {status} fits few (r, m) out note w = search rules
