-- A line has the fault with the least number that its tests answer, and no fault if they answer none.
use Rattle.ed_link.proofs.Kit.{Size, [], arith, Bool, List, ℕ, ◌∷◌, ◌≤◌, locations, SourceCause, Line, list_any}
use Rattle.ed_link.proofs.Kit.{number_of, counter_after, first_counter, Ties, any_enter, cause_of, extent}
use Rattle.ed_link.proofs.Kit.{has_no_routine, has_sandwich, is_misplaced, is_outside, overlaps, reach, sets_otherwise}
use Rattle.ed_link.proofs.Kit.{word_extent, symbols_of, rules}
use Rattle.ed_lines.proofs.Causes.{number_of-most}
use Rattle.ed_symbols.specs.NameFaults.{LineHasNameFault}
use Rattle.ed_symbols.proofs.LeastFaults.{Least, Least-picks}
use Rattle.ed_link.specs.Faults.{LineHasCause}
use Rattle.ed_link.proofs.FaultSentences.{extents_from, Ties-s9, s10_s11, Ties-s12, Ties-s13, Ties-s14, Ties-s16}
use Rattle.ed_link.proofs.FaultSentences.{Ties-s17}
use Rattle.ed_link.proofs.SettingSentences.{Ties-s15}
use Rattle.ed_lines.specs.declared.fault.SourceCause.TheVariants as causes

-- a fault of names is one of the faults of a line
pub name_has_cause : (z : Size) (lines before : List Line) (l : Line) (c : SourceCause)
    → LineHasNameFault lines before l c → LineHasCause z lines before l c
name_has_cause z lines before l c h = grind arith

pub number_of-few : (lines before : List Line) (l : Line) (c : SourceCause) → LineHasNameFault lines before l c
    → number_of c ≤ 8
number_of-few lines before l c h = grind arith

-- each fault with such a number is one of names
pub cause_is_name : (z : Size) (lines before : List Line) (l : Line) (c : SourceCause)
    → LineHasCause z lines before l c → number_of c ≤ 8 → LineHasNameFault lines before l c
cause_is_name z lines before l c h low = grind arith

ruleset sentences = (rules, Ties-s9, s10_s11, Ties-s12, Ties-s13, Ties-s14, Ties-s15, Ties-s16, Ties-s17)

module _ (z : Size) (lines before : List Line) (l : Line) where
  -- the faults of meaning that are not faults of names
  abbrev pub OfMeaning : SourceCause → Type 0
  OfMeaning c = LineHasCause z lines before l c × (9 ≤ number_of c)

  over : {t : Bool} {S : Type 0} {n : ℕ} → Ties t S → 9 ≤ n → Ties t (S × (9 ≤ n))
  over tie k = record { says = λ h. (tie.says h, k); tests = λ h. tie.tests h.0 }

  pub of_meaning : Least OfMeaning
      (cause_of z (symbols_of lines) (any_enter lines)
      (record { extents = extents_from first_counter before; entered = any_enter before }) l (counter_after before))
  of_meaning =
      let needs = reach (symbols_of lines) l.statement (counter_after before) in
      Least-picks OfMeaning 9
      ((is_outside l (counter_after before), causes.OutsideSegment)
      ∷ (overlaps needs (extent 0 44), causes.LoaderStore)
      ∷ (overlaps needs (extent 44 56), causes.ParameterStore)
      ∷ (overlaps needs (extent (locations z) needs.after), causes.StoreEnd)
      ∷ (
        list_any (λ other. overlaps (word_extent l.statement (counter_after before)) other)
            (extents_from first_counter before),
        causes.Overlap,
      )
      ∷ (has_no_routine l.statement, causes.NoSuchRoutine)
      ∷ (sets_otherwise l.statement, causes.Parameters)
      ∷ (is_misplaced (any_enter before) (any_enter lines) l, causes.Enter)
      ∷ (has_sandwich l.statement, causes.SandwichDigit) ∷ [])
      (search (sentences, over, number_of-most))
      (λ c h. h.1)
