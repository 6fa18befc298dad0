-- The fault of names that is looked for is that of the definition.
use Rattle.ed_symbols.proofs.Kit.{SourceCause, SourceFault, At, Memory, Line, [], ap, append_assoc, arith, length}
use Rattle.ed_symbols.proofs.Kit.{length-append, List, None, Option, refl, Some, sym, ℕ, ◌++◌, ◌+◌, ◌<◌, ◌∙◌, ◌∷◌, ◌≡◌}
use Rattle.ed_symbols.proofs.Kit.{◌≤◌, ◌⊎◌, append-nil, number_of, counter_after, counter_from, IsLineAfter, rules}
use Rattle.ed_symbols.proofs.Kit.{defines_again, names_unknown, naming_cause, naming_fault_from}
use Rattle.ed_symbols.proofs.Kit.{reaches_outside, line_definitions, symbols_from, after_statement, first_counter}
use Rattle.ed_symbols.proofs.Kit.{LocationCounter}
use Rattle.std.proofs.Common.{slice_index_or}
use Rattle.std.proofs.Math.Seq.{get_or-append_seam}
use Rattle.ed_lines.specs.Programs.{AreNumbered}
use Rattle.ed_lines.proofs.Causes.{one_least}
use Rattle.ed_symbols.specs.NameFaults.{LineHasNameFault, HasNameFault, NameFaultIs, EachHasOneNameFault}
use Rattle.ed_symbols.specs.NameTests.{resolution}
use Rattle.ed_symbols.proofs.AgainSentences.{Ties-s6}
use Rattle.ed_symbols.proofs.FaultPasses.{first, Finds-first, Finds, Numbered}
use Rattle.ed_symbols.proofs.LeastFaults.{Least, Least-picks}
use Rattle.ed_symbols.proofs.NamingSentences.{Ties-s7, Ties-s8}
use Rattle.ed_lines.specs.declared.fault.SourceCause.TheVariants as causes

-- ---- one line

from_six : (lines before : List Line) (l : Line) (c : SourceCause) → LineHasNameFault lines before l c
    → (6 ≤ number_of c) × (number_of c ≤ 8)
from_six lines before l c h = search rules

of_names : (lines before : List Line) (l : Line) → Least (LineHasNameFault lines before l)
    (naming_cause (symbols_from first_counter lines) (defines_again
    (symbols_from first_counter before) l (counter_after before)) l
    (counter_after before))
of_names lines before l = Least-picks (LineHasNameFault lines before l) 6
    ((defines_again (symbols_from first_counter before) l (counter_after before), causes.LabelTwice)
    ∷ (names_unknown (symbols_from first_counter lines) l (counter_after before), causes.LabelUnknown)
    ∷ (reaches_outside (symbols_from first_counter lines) l (counter_after before), causes.AddressRange) ∷ []) (
      Ties-s6 before l,
      refl,
      (
        Ties-s7 lines before l,
        refl,
        (Ties-s8 lines before l, refl, λ c h g. let n = from_six lines before l c h in omega (arith, n.1, g)),
      ),
    )
    (λ c h. (from_six lines before l c h).0)

-- ---- the pass of the code, by what comes before a line

pub spot_snoc : (s : LocationCounter) (b : List Line) (l : Line)
    → counter_from s (b ++ l ∷ []) ≡ after_statement l.statement (counter_from s b)
spot_snoc s [] l = refl
spot_snoc s (e ∷ b) l = spot_snoc (after_statement e.statement s) b l

homes_snoc : (s : LocationCounter) (b : List Line) (l : Line)
    → symbols_from s (b ++ l ∷ []) ≡ symbols_from s b ++ line_definitions l (counter_from s b)
homes_snoc s [] l = append-nil (line_definitions l s)
homes_snoc s (e ∷ b) l = search (rules, append_assoc, homes_snoc (after_statement e.statement s) b l)

module _ (lines : List Line) where
  abbrev ask_names : List Line → Line → Option SourceCause
  ask_names b l = naming_cause (symbols_from first_counter lines)
      (defines_again (symbols_from first_counter b) l (counter_after b)) l (counter_after b)

  names_pass : (b rest : List Line)
      → naming_fault_from (symbols_from first_counter lines) (symbols_from first_counter b) (counter_after b) rest
      ≡ first ask_names b rest
  names_pass b [] = refl
  names_pass b (l ∷ rest) = search (rules, homes_snoc, spot_snoc, names_pass (b ++ l ∷ []) rest)

-- ---- the least of several

-- the answer is the least of these faults
abbrev pub SaysLeast : (ℕ → SourceCause → Type 0) → Option SourceFault → Type 0
SaysLeast H None = (k : ℕ) (c : SourceCause) → H k c → ⊥
SaysLeast H (Some Memory) = ⊥
SaysLeast H (Some (At k c)) = H k c
    × ((r : ℕ) (o : SourceCause) → H r o → (k < r) ⊎ ((k ≡ r) × (number_of c ≤ number_of o)))

-- a fault of a rule's kind at a line
abbrev pub AtLine : (List Line → Line → SourceCause → Type 0) → List Line → ℕ → SourceCause → Type 0
AtLine Rule lines k c = (b : List Line) × (l : Line) × IsLineAfter lines b l × (k ≡ length b + 1) × Rule b l c

pub found_says : (Rule : List Line → Line → SourceCause → Type 0) (lines : List Line) (f : Option SourceFault)
    → Finds Rule lines f → SaysLeast (AtLine Rule lines) f
found_says Rule lines f h = search rules

-- ---- the law

pub Numbered-lines : (lines : List Line) → AreNumbered lines → Numbered lines
Numbered-lines lines are before l st =
    let n : length lines ≡ length before + length (l ∷ st.after) =
    ap (λ (x : List Line). length x) st.lines_are ∙ length-append before _ in
    let same : slice_index_or lines (length before) l ≡ l =
    ap (λ (x : List Line). slice_index_or x (length before) l) st.lines_are
    ∙ get_or-append_seam before l st.after l in
    ap (λ (x : Line). x.number) (sym same) ∙ are (length before) l (omega (arith, n))

pub say_names : (lines : List Line) → Numbered lines → SaysLeast (HasNameFault lines) (resolution lines).fault
say_names lines numbered = found_says _ lines (resolution lines).fault (rw (names_pass lines [] lines)
    (Finds-first (ask_names lines) (LineHasNameFault lines) lines numbered (λ b l. of_names lines b l) [] lines refl
    (λ b l c st h. omega arith)))

fault_of : (lines : List Line) (f : Option SourceFault) → SaysLeast (HasNameFault lines) f → NameFaultIs lines f
fault_of lines f h = search rules

-- the fault that is found is that of the source
pub found_is : (lines : List Line) → AreNumbered lines → NameFaultIs lines (resolution lines).fault
found_is lines are = search (rules, fault_of, say_names, Numbered-lines)

one_fault : (lines : List Line) (f g : Option SourceFault) → NameFaultIs lines f → NameFaultIs lines g → f ≡ g
one_fault lines None None h i = refl
one_fault lines None (Some (At k c)) h i = absurd (h k c i.is)
one_fault lines (Some Memory) g h i = absurd h
one_fault lines (Some (At k c)) None h i = absurd (i k c h.is)
one_fault lines (Some (At k c)) (Some (At m d)) h i = let same = one_least h i in λ j. Some (At (same.0 j) (same.1 j))
one_fault lines f (Some Memory) h i = absurd i

pub each_has_one : EachHasOneNameFault
each_has_one = record { every = λ lines are. ((resolution lines).fault, found_is lines are); one = one_fault }

-- so the fault of names is the one that the tests find
pub fault_found : (lines : List Line) → AreNumbered lines → (f : Option SourceFault) → NameFaultIs lines f
    → f ≡ (resolution lines).fault
fault_found lines are f is = one_fault lines f (resolution lines).fault is (found_is lines are)
