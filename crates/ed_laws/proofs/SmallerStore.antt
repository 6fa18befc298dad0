-- A fault for 1,024 locations is one for 512.
use Rattle.ed_laws.proofs.Kit.{Full, Settings, TapeCause, is_broken, WellFormed, fold, NotationState, Begun, items}
use Rattle.ed_laws.proofs.Kit.{Line, on_line, ap, arith, inl, inr, List, Option, rules, true, ℕ, ◌≡◌, nat_tests, Text}
use Rattle.ed_laws.proofs.Kit.{Outcome, refusal, IsAcceptedAs, OfSource}
use Rattle.ed_words.specs.declared.size.Size.TheVariants.{Small}
use Rattle.ed_lines.specs.declared.fault.SourceCause.{SourceCause}
use Rattle.ed_link.specs.Faults.{LineHasCause, SourceHasFault, no_enter}
use Rattle.ed_headline.specs.BothSizes.{with_store}
use Rattle.ed_tapes.specs.Outcome.{done}
use Rattle.ed_tapes.specs.Tapes.{IsChecked}
use Rattle.ed_laws.specs.SmallerStore.{EachSmallIsFull}
use Rattle.ed_lines.specs.declared.fault.SourceCause.TheVariants as causes

-- ---- tapes

broken_both : (words : List ℕ) (n : NotationState) (part : Option Begun) (rest : List ℕ) (cause : TapeCause)
    → is_broken Full words n part rest cause ≡ true → is_broken Small words n part rest cause ≡ true
broken_both words n part rest cause h = search rules

well : (words : List ℕ) (start : NotationState) (rows : List ℕ) → WellFormed Small words start rows
    → WellFormed Full words start rows
well words start rows small row cause b =
    small row cause (record {
      stands = b.stands;
      breaks = broken_both words (fold words start (items b.stands.before)) b.stands.part b.stands.rest cause b.breaks;
    })

not_done : {report line : Text} → refusal line ≡ done report → ⊥
not_done is = let status : 3 ≡ 0 = ap (λ (o : Outcome). o.status) is in omega (arith, status)

tapes : (s : Settings) (rows : List ℕ) (report : Text) → IsChecked (with_store Small s) rows (done report)
    → IsChecked (with_store Full s) rows (done report)
tapes s rows report (inl w) =
    inl (record { well = well _ _ rows w.well; entry = w.entry; comes = w.comes; outcome = w.outcome })
tapes s rows report (inr f) = absurd (not_done f.outcome)

-- ---- sources

cause_both : (lines before : List Line) (l : Line) (cause : SourceCause) → LineHasCause Full lines before l cause
    → LineHasCause Small lines before l cause
cause_both lines before l causes.StoreEnd h = (h.0, h.1, omega (arith, h.2))
cause_both lines before l cause h = h

fault_both : (lines : List Line) (k : ℕ) (cause : SourceCause) → SourceHasFault Full lines k cause
    → SourceHasFault Small lines k cause
fault_both lines k cause (on_line {before} {l} stands has) = on_line stands (cause_both lines before l cause has)
fault_both lines k cause (no_enter none) = no_enter none

sources : (text : Text) (lines : List Line) → IsAcceptedAs Small text lines → IsAcceptedAs Full text lines
sources text lines a = grind (arith, nat_tests, fault_both)

of_lines : (give : List Line → Outcome) (text report : Text) → OfSource Small give text (done report)
    → OfSource Full give text (done report)
of_lines give text report (inl (k, c, refused, is)) = absurd (not_done is)
of_lines give text report (inr (lines, accepted, is)) = inr (lines, sources text lines accepted, is)

pub each_small_is_full : EachSmallIsFull
each_small_is_full = search (rules, well, tapes, sources, of_lines)
