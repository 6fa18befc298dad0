-- What a call that writes a program's text answers.
use Rattle.std.proofs.Common.{◌≡◌, ℕ, Some, None, Ok, string_bytes, Option, ◌∙◌, inl, Err, Result, IfOk, IfSome, String}
use Rattle.std.proofs.Common.{rules}
use Rattle.std.specs.declared.alloc.AllocError.{AllocError}
use Rattle.std.specs.declared.alloc.Global.{Global}
use Rattle.ed_words.specs.Texts.{Text}
use Rattle.ed_run.specs.declared.settings.Settings.{Settings}
use Rattle.ed_programs.specs.Programs.{AnswersWritten, GivesProgram, Prints, SourceRuns}
use Rattle.ed_programs.specs.declared.refusal.Refusal.{Refusal}

-- the answer is what `format!` wrote
pub GivesProgram-written : {cause : Option Refusal} → cause ≡ None → (text : Result (String Global) AllocError)
    (r : Result (String Global) Refusal) (wrote wanted : Text) → wrote ≡ wanted → AnswersWritten text r
    → IfOk text (λ s. IfSome (Some wrote) (λ w. string_bytes s ≡ w)) → GivesProgram cause wanted r
GivesProgram-written none (Ok s) (Ok program) wrote wanted same taken made = (none, taken ∙ made ∙ same)
GivesProgram-written none (Err e) (Ok program) wrote wanted same taken made = absurd taken
GivesProgram-written none (Ok s) (Err refusal) wrote wanted same taken made = inl taken
GivesProgram-written none (Err e) (Err refusal) wrote wanted same taken made = inl taken

-- a law of a text is one of what is answered, if a program is answered that was written so
pub prints_as : {orders at : ℕ} {text printed : Text} (cause : Option Refusal) (r : Result (String Global) Refusal)
    → GivesProgram cause text r → ((s : Settings) → SourceRuns s text orders at printed) → Prints orders at printed r
prints_as cause (Ok program) is law = search rules
prints_as cause (Err refusal) is law = tt
