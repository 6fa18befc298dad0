-- The outcome of a source: there is one, and only one; and the source is run from its entry.
use Rattle.ed_headline.proofs.Kit.{Size, Line, Text, ap, inl, inr, List, refl, sym, ◌∙◌, ◌≡◌, Outcome, IsAcceptedAs}
use Rattle.ed_headline.proofs.Kit.{OfSource}
use Rattle.ed_headline.specs.FromEntry.{EachAnswerIsFromEntry}
use Rattle.ed_headline.specs.Headline.{Headline}
use Rattle.ed_headline.proofs.EachSource.{one_answer}
use Rattle.ed_headline.proofs.Entries.{each_source}
use Rattle.ed_headline.proofs.EntryWords.{each_entry_store_is}
use Rattle.ed_headline.proofs.FromEntry.{answers_from_entry, runs_from_entry}
use Rattle.std.proofs.Common.{rules}

pub accepted_is : (z : Size) (accepted : List Line → Outcome) (text : Text) (lines : List Line)
    → IsAcceptedAs z text lines → OfSource z accepted text (accepted lines)
accepted_is z accepted text lines a = inr (lines, a, refl)

-- a source has an outcome, and only one
pub some_outcome : (z : Size) (accepted : List Line → Outcome) (text : Text)
    → (o : Outcome) × OfSource z accepted text o
some_outcome z accepted text =
    elim (one_answer.every z text) [
      | inl a ↦ (accepted a.0, inr (a.0, a.1, refl))
      | inr r ↦ (_, inl (r.0, r.1, r.2, refl))
    ]

pub source_outcome : (z : Size) (accepted : List Line → Outcome) (text : Text) (o other : Outcome)
    → OfSource z accepted text o → OfSource z accepted text other → o ≡ other
source_outcome z accepted text o other (inl r) (inl q) = search (rules, one_answer)
source_outcome z accepted text o other (inl r) (inr b) =
    absurd (one_answer.never_both z text b.0 r.0 r.1 b.1 r.2)
source_outcome z accepted text o other (inr a) (inl q) =
    absurd (one_answer.never_both z text a.0 q.0 q.1 a.1 q.2)
source_outcome z accepted text o other (inr a) (inr b) =
    sym a.2 ∙ ap accepted (one_answer.one_program z text a.0 b.0 a.1 b.1) ∙ b.2

-- ---- that it is run from its entry

pub headline : Headline
headline = record {
  runs = λ s source lines a.
      runs_from_entry s lines (each_source s.size source lines a) (each_entry_store_is s.size source lines a);
  refuses = λ z source none.
      elim (one_answer.every z source) [ inl accepted ↦ absurd (none accepted.0 accepted.1) | inr refused ↦ refused ];
}

pub each_answer_is_from_entry : EachAnswerIsFromEntry
each_answer_is_from_entry s source lines a = answers_from_entry s lines (each_source s.size source lines a)
