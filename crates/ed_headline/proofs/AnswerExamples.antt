-- The answers that the public clauses of `parse` and `link` alone allow for texts that a wrong program would answer
-- differently: for each such text there is one, apart from the answer that no memory was found.
use Rattle.ed_headline.proofs.Kit.{Size, Full, program_of, HasFormFault, SourceCause, SourceFault, At, Memory, Line}
use Rattle.ed_headline.proofs.Kit.{Number, Order, codes, Err, IfErr, IfOk, Ok, Result, Text, settings, IsProgram}
use Rattle.ed_headline.proofs.Kit.{has_one_meaning, source_answer, HasMeaningFault, IsMeaningFault, Linked, [], Bool}
use Rattle.ed_headline.proofs.Kit.{false, inl, inr, List, None, refl, Some, ℕ, ◌∷◌, ◌≡◌, ◌⊎◌, IsLinked, fault}
use Rattle.std.proofs.Common.{◌==◌}
use Rattle.ed_syntax.specs.Sources.{IsFormFault}
use Rattle.ed_lines.specs.declared.program.Program.{Program}
use Rattle.ed_lines.proofs.Causes.{one_least}
use Rattle.ed_headline.proofs.EachSource.{read_law}
use Rattle.ed_headline.proofs.FaultExamples.{source}
use Rattle.ed_lines.specs.declared.fault.SourceCause.TheVariants as causes

-- ---- what `parse` may answer

-- an answer that meets the clauses `says` and `has_fault` of `parse`
record MeetsParse (text : Text) (r : Result Program SourceFault) : Type 0 where
  pub says : IfOk r (λ p. IsProgram text (p.version == 2) p.lines.items)
  pub has_fault : IfErr r (λ e. HasFormFault text e)

-- an answer to a text with a fault can only be a refusal at this line for this cause
abbrev OnlyRefuses : Text → ℕ → SourceCause → Type 0
OnlyRefuses text k c =
    (r : Result Program SourceFault) → MeetsParse text r → (r ≡ Err Memory) ⊎ (r ≡ Err (At k c))

-- and that to another text can only be these lines
abbrev OnlyReads : Text → List Line → Type 0
OnlyReads text lines =
    (r : Result Program SourceFault) → MeetsParse text r → (r ≡ Err Memory) ⊎ IfOk r (λ p. p.lines.items ≡ lines)

refused_alone : (text : Text) (k : ℕ) (c : SourceCause) → IsFormFault text k c → OnlyRefuses text k c
refused_alone text k c f (Ok p) m = absurd
    (has_one_meaning.no_fault text (p.version == 2) p.lines.items k c m.says f.is)
refused_alone text k c f (Err Memory) m = inl refl
refused_alone text k c f (Err (At n d)) m =
    let same = has_one_meaning.one_fault text n k d c m.has_fault f in
    inr (λ i. Err (At (same.0 i) (same.1 i)))

read_alone : (text : Text) (two : Bool) (lines : List Line) → IsProgram text two lines → OnlyReads text lines
read_alone text two lines f (Ok p) m =
    inr (has_one_meaning.one_program text (p.version == 2) two p.lines.items lines m.says f)
read_alone text two lines f (Err Memory) m = inl refl
read_alone text two lines f (Err (At n d)) m = absurd (has_one_meaning.no_fault text two lines n d f m.has_fault.is)

-- a text in which a fault of form is found
only : (text : Text) (k : ℕ) (c : SourceCause) → program_of text ≡ Err (record { line = k; cause = c })
    → OnlyRefuses text k c
only text k c e = refused_alone text k c (source_answer text (Err _) e)

-- `word5` is not `word 5`
touching : OnlyRefuses (codes "word5") 1 causes.NotAStatement
touching = only _ 1 causes.NotAStatement refl

-- a `;` doesn't end a string
open_string : OnlyRefuses (codes "text \"A;") 1 causes.NotAStatement
open_string = only _ 1 causes.NotAStatement refl

-- a quote in a comment opens no string
quote_in_comment : OnlyReads (codes "ZF;\"")
    (record { number = 1; label = None; statement = Some (Order 13 (Number 0) false) } ∷ [])
quote_in_comment = read_alone _ false _ (source_answer _ (Ok _) refl)

-- no label precedes a `segment`
label_before_segment : OnlyRefuses (codes "a: segment m") 1 causes.NotAStatement
label_before_segment = only _ 1 causes.NotAStatement refl

-- `at` has no capital letters
capital_at : OnlyRefuses (codes "segment m AT 60") 1 causes.NotAStatement
capital_at = only _ 1 causes.NotAStatement refl

-- 1023 is the greatest base
base_1024 : OnlyRefuses (codes "segment m at 1024") 1 causes.NumberRange
base_1024 = only _ 1 causes.NumberRange refl

-- version 1 has no local names
local_name : OnlyRefuses (codes "_d: PF") 1 causes.NotAStatement
local_name = only _ 1 causes.NotAStatement refl

-- no blank is in a number
blank_in_number : OnlyRefuses (codes "word 5 5") 1 causes.NotAStatement
blank_in_number = only _ 1 causes.NotAStatement refl

-- there are at most six settings
seventh_setting : OnlyRefuses (codes "use a as b with H=1,H=1,H=1,H=1,H=1,H=1,H=1") 1 causes.NotAStatement
unfolding settings
seventh_setting = only _ 1 causes.NotAStatement refl

-- ---- what `link` may answer

-- an answer that meets the clauses `linked` and `fault` of `link`
record MeetsLink (z : Size) (lines : List Line) (r : Result Linked SourceFault) : Type 0 where
  pub linked : IfOk r (λ k. IsLinked z lines k)
  pub has_fault : IfErr r (λ e. HasMeaningFault z lines e)

-- an answer to lines with a fault can only be a refusal at this line for this cause
abbrev OnlyUnlinked : Size → List Line → ℕ → SourceCause → Type 0
OnlyUnlinked z lines k c =
    (r : Result Linked SourceFault) → MeetsLink z lines r → (r ≡ Err Memory) ⊎ (r ≡ Err (At k c))

unlinked_alone : (z : Size) (lines : List Line) (k : ℕ) (c : SourceCause) → IsMeaningFault z lines k c
    → OnlyUnlinked z lines k c
unlinked_alone z lines k c f (Ok l) m = absurd (m.linked.accepted k c f.is)
unlinked_alone z lines k c f (Err Memory) m = inl refl
unlinked_alone z lines k c f (Err (At n d)) m =
    let same = one_least m.has_fault f in inr (λ i. Err (At (same.0 i) (same.1 i)))

-- a text in whose lines a fault of meaning is found
only_link : (text : Text) (k : ℕ) (c : SourceCause) → program_of text ≡ Ok (source text)
    → fault Full (source text) ≡ Some (At k c) → OnlyUnlinked Full (source text) k c
only_link text k c e h =
    unlinked_alone Full (source text) k c ((read_law Full text (source text) e).refused k c h)

-- of S7 and S9 on one line the fault is S7
s7_before_s9 : OnlyUnlinked Full (source (codes "A x F")) 1 causes.LabelUnknown
s7_before_s9 = only_link (codes "A x F") 1 causes.LabelUnknown refl refl

-- S13 is found
overlap : OnlyUnlinked Full (source (codes "segment m at 60\nZF\nsegment n at 60\nZF\nenter m")) 4 causes.Overlap
overlap = only_link (codes "segment m at 60\nZF\nsegment n at 60\nZF\nenter m") 4 causes.Overlap refl refl

-- S15 is at the line of its `use`
parameters_missing : OnlyUnlinked Full (source (codes "segment m\nZF\nuse print as p\nenter m")) 3 causes.Parameters
parameters_missing =
    only_link (codes "segment m\nZF\nuse print as p\nenter m") 3 causes.Parameters refl refl

-- S16 because there is no `enter` is one line after the last
enter_missing : OnlyUnlinked Full (source (codes "segment m\nZF")) 3 causes.Enter
enter_missing = only_link (codes "segment m\nZF") 3 causes.Enter refl refl
