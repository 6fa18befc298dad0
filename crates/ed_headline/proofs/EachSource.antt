-- Each source is accepted or refused, and the tape of each one that is accepted reaches its linked program.
use Rattle.ed_headline.proofs.Kit.{Size, is_two, program_of, SourceCause, SourceFault, At, Memory, Line, program_formed}
use Rattle.ed_headline.proofs.Kit.{Ok, Text, lines_of, IsProgram, has_one_meaning, program_is_read, source_answer}
use Rattle.ed_headline.proofs.Kit.{IsMeaningFault, Bool, inl, inr, List, None, Option, refl, Some, true, ℕ, ◌≡◌}
use Rattle.ed_headline.proofs.Kit.{list_all, fault, for_form, for_meaning, IsAcceptedAs, IsAcceptedOrRefused, IsRefused}
use Rattle.ed_library.specs.Entries.{catalogue}
use Rattle.ed_library.specs.Ready.{is_ready}
use Rattle.ed_link.proofs.Accepted.{accepted_law}
use Rattle.ed_link.proofs.FaultLaw.{FaultIsFound, fault_law}
use Rattle.ed_headline.specs.EntryState.{EachSourceComes}
use Rattle.ed_headline.specs.Refusals.{EachSourceHasOneAnswer}

-- ---- accepted or refused

-- the lines of each text that is read have their numbers
pub read_law : (z : Size) (text : Text) (lines : List Line) → program_of text ≡ Ok lines → FaultIsFound z lines
read_law z text lines e =
    fault_law z lines (program_formed (is_two (lines_of text)) (lines_of text) lines e).numbered

-- a source that says some lines is accepted, or their fault is its fault
of_lines : (z : Size) (text : Text) (two : Bool) (lines : List Line) → IsProgram text two lines
    → IsAcceptedOrRefused z text
of_lines z text two lines p = by_fault (fault z lines) refl
  where
    law : FaultIsFound z lines
    law = read_law z text lines (program_is_read text two lines p)

    by_fault : (f : Option SourceFault) → fault z lines ≡ f → IsAcceptedOrRefused z text
    by_fault None e = inl (lines, record { two = two; says = p; faultless = law.accepted e })
    by_fault (Some (At k c)) e = inr (k, c, for_meaning p (law.refused k c e))
    by_fault (Some Memory) e = absurd (law.no_memory e)

every : (z : Size) (text : Text) → IsAcceptedOrRefused z text
every z text =
    elim (has_one_meaning.every text) [
      | inl p ↦ of_lines z text p.0 p.1 p.2
      | inr f ↦ inr (f.0, f.1, for_form f.2)
    ]

-- two faults of meaning of one source are equal
same_fault : (z : Size) (text : Text) (two also : Bool) (lines others : List Line) (k other : ℕ)
    (c another : SourceCause) → IsProgram text two lines → IsProgram text also others → IsMeaningFault z lines k c
    → IsMeaningFault z others other another → (k ≡ other) × (c ≡ another)
same_fault z text two also lines others k other c another p q f g =
    let same = has_one_meaning.one_program text two also lines others p q in
    let e = (read_law z text lines (program_is_read text two lines p)).refuses k c f in
    let h = (read_law z text others (program_is_read text also others q)).refuses other another g in
    ((cc), (cc))

one_fault : (z : Size) (text : Text) (k other : ℕ) (c another : SourceCause) → IsRefused z text k c
    → IsRefused z text other another → (k ≡ other) × (c ≡ another)
one_fault z text k other c another (for_form f) (for_form g) =
    has_one_meaning.one_fault text k other c another f g
one_fault z text k other c another (for_form f) (for_meaning {two} {lines} p g) =
    absurd (has_one_meaning.no_fault text two lines k c p f.is)
one_fault z text k other c another (for_meaning {two} {lines} p g) (for_form f) =
    absurd (has_one_meaning.no_fault text two lines other another p f.is)
one_fault z text k other c another (for_meaning {two} {lines} p f) (for_meaning {two = also} {lines = others} q g) =
    same_fault z text two also lines others k other c another p q f g

never_both : (z : Size) (text : Text) (lines : List Line) (k : ℕ) (c : SourceCause) → IsAcceptedAs z text lines
    → IsRefused z text k c → ⊥
never_both z text lines k c a (for_form f) = has_one_meaning.no_fault text a.two lines k c a.says f.is
never_both z text lines k c a (for_meaning {two} {lines = others} p f) =
    let same = has_one_meaning.one_program text two a.two others lines p a.says in
    let none = (read_law z text lines (program_is_read text a.two lines a.says)).accepts a.faultless in
    let some = (read_law z text others (program_is_read text two others p)).refuses k c f in
    absurd (cc)

pub one_answer : EachSourceHasOneAnswer
one_answer = record {
  every = every;
  one_program = λ z text lines others a b.
      has_one_meaning.one_program text a.two b.two lines others a.says b.says;
  one_fault = one_fault;
  never_both = never_both;
}

-- ---- what is read and what is accepted

-- a source that is read as these lines, and in which no fault is found, is accepted
pub read_is_accepted : (z : Size) (text : Text) (lines : List Line) → program_of text ≡ Ok lines → fault z lines ≡ None
    → IsAcceptedAs z text lines
read_is_accepted z text lines p none = record {
  two = is_two (lines_of text);
  says = source_answer text (Ok lines) p;
  faultless = (read_law z text lines p).accepted none;
}

-- and in a source that is accepted no fault is found
pub accepted_is_read : (z : Size) (text : Text) (lines : List Line) → IsAcceptedAs z text lines → fault z lines ≡ None
accepted_is_read z text lines a =
    (read_law z text lines (program_is_read text a.two lines a.says)).accepts a.faultless

-- ---- the tape

pub list_all-tables : list_all is_ready catalogue ≡ true
list_all-tables = refl

pub each_source : EachSourceComes
each_source z source lines a =
    let formed =
    (program_formed (is_two (lines_of source)) (lines_of source) lines
    (program_is_read source a.two lines a.says)).formed in
    λ words whole. accepted_law list_all-tables z (is_two (lines_of source)) lines
    (accepted_is_read z source lines a) formed
    words
    whole
