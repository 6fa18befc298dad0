-- The fault that is looked for is that of the definition, and no fault is found if the source has none.
use Rattle.ed_link.proofs.Kit.{Size, [], ap, arith, Bool, false, if◌then◌else◌, inl, inr, length}
use Rattle.ed_link.proofs.Kit.{List, nat_le, None, Option, refl, Some, subst, sym, true, ℕ, ◌++◌, ◌+◌}
use Rattle.ed_link.proofs.Kit.{◌<◌, ◌∷◌, ◌≡◌, ◌≤◌, ◌⊎◌, leb-true, SourceCause, SourceFault, At, Line, nat_tests}
use Rattle.ed_link.proofs.Kit.{AreNumbered, resolution, LocationCounter, Definition, ◌||◌, number_of, counter_after}
use Rattle.ed_link.proofs.Kit.{counter_from, IsLineAfter, after_statement, first_counter, any_enter}
use Rattle.ed_link.proofs.Kit.{cause_of, earlier_fault, fault, fault_from, is_enter, LinesBefore, missing, past_of}
use Rattle.ed_link.proofs.Kit.{word_extent, HasEnter, HasNoFault, on_line, symbols_of}
use Rattle.std.proofs.Common.{Result, Err, IfErr}
use Rattle.std.proofs.Math.Bool.{or-false, or_assoc}
use Rattle.std.proofs.lemmas.Bool.{cases_lt, leb-false}
use Rattle.ed_lines.specs.declared.fault.SourceFault.TheVariants.{Memory}
use Rattle.ed_lines.proofs.Causes.{one_least}
use Rattle.ed_symbols.specs.NameFaults.{HasNameFault}
use Rattle.ed_symbols.proofs.FaultPasses.{first, Finds-first, Numbered}
use Rattle.ed_symbols.proofs.NameLaw.{AtLine, SaysLeast, found_says, Numbered-lines, say_names, spot_snoc}
use Rattle.ed_link.specs.Answers.{HasMeaningFault}
use Rattle.ed_link.specs.FaultTests.{IsFirstFault}
use Rattle.ed_link.specs.Faults.{SourceHasFault, no_enter, IsMeaningFault}
use Rattle.ed_link.proofs.FaultSentences.{extents_from, any_says, any_tests}
use Rattle.ed_link.proofs.LineFaults.{OfMeaning, of_meaning, name_has_cause, number_of-few, cause_is_name}
use Rattle.ed_lines.specs.declared.fault.SourceCause.TheVariants as causes
use Rattle.ed_link.proofs.Kit.{rules}
use Rattle.std.proofs.lemmas.Grind.{common_steps}

-- ---- the passes of the code, by what comes before a line

extents_snoc : (s : LocationCounter) (b : List Line) (l : Line)
    → extents_from s (b ++ l ∷ []) ≡ extents_from s b ++ word_extent l.statement (counter_from s b) ∷ []
extents_snoc s [] l = refl
extents_snoc s (e ∷ b) l = ap (λ x. word_extent e.statement s ∷ x) (extents_snoc (after_statement e.statement s) b l)

any_snoc : (b : List Line) (l : Line) → any_enter (b ++ l ∷ []) ≡ (any_enter b || is_enter l.statement)
any_snoc [] l = or-false (is_enter l.statement)
any_snoc (e ∷ b) l = search (rules, or_assoc, any_snoc b l)

module _ (z : Size) (lines : List Line) where
  abbrev past_after : List Line → LinesBefore
  past_after b = record { extents = extents_from first_counter b; entered = any_enter b }

  abbrev ask_meaning : List Line → Line → Option SourceCause
  ask_meaning b l = cause_of z (symbols_of lines) (any_enter lines) (past_after b) l (counter_after b)

  past_snoc : (b : List Line) (l : Line) → past_of (past_after b) l (counter_after b) ≡ past_after (b ++ l ∷ [])
  past_snoc b l = λ i. record { extents = sym (extents_snoc first_counter b l) i; entered = sym (any_snoc b l) i }

  meaning_pass : (b rest : List Line)
      → fault_from z (symbols_of lines) (any_enter lines) (past_after b) (counter_after b) rest
      ≡ first ask_meaning b rest
  meaning_pass b [] = refl
  meaning_pass b (l ∷ rest) = search (rules, past_snoc, spot_snoc, meaning_pass (b ++ l ∷ []) rest)

-- ---- the least of several

module _ (H G : ℕ → SourceCause → Type 0)
    (order : (k : ℕ) (c d : SourceCause) → H k c → G k d → number_of c ≤ number_of d) where
  merge : (a b : Option SourceFault) → SaysLeast H a → SaysLeast G b
      → SaysLeast (λ k c. H k c ⊎ G k c) (earlier_fault a b)
  merge None None h g = λ k c. elim [ inl x ↦ h k c x | inr x ↦ g k c x ]
  merge None (Some (At k c)) h g = (inr g.0, λ r o. elim [ inl x ↦ absurd (h r o x) | inr x ↦ g.1 r o x ])
  merge (Some Memory) b h g = absurd h
  merge (Some (At k c)) None h g = (inl h.0, λ r o. elim [ inl x ↦ h.1 r o x | inr x ↦ absurd (g r o x) ])
  merge (Some (At k c)) (Some (At m d)) h g = by_test (nat_le k m) refl
    where
      later : (r : ℕ) (o : SourceCause) → k ≤ m → G r o → (m < r) ⊎ ((m ≡ r) × (number_of d ≤ number_of o))
          → (k < r) ⊎ ((k ≡ r) × (number_of c ≤ number_of o))
      later r o e x (inl y) = inl (omega (arith, e, y))
      later r o e x (inr y) = elim (cases_lt k m) [
        | inl w ↦ inl (omega (arith, w, y.0))
        | inr w ↦ inr (omega (arith, e, w, y.0), order k c o h.0 (subst (λ n. G n o) (omega (arith, e, w, y.0)) x))
      ]

      by_test : (t : Bool) → nat_le k m ≡ t
          → SaysLeast (λ n x. H n x ⊎ G n x) (if t then Some (At k c) else Some (At m d))
      by_test true e = (inl h.0, λ r o. elim [ inl x ↦ h.1 r o x | inr x ↦ later r o (leb-true k m e) x (g.1 r o x) ])
      by_test false e =
          let less = leb-false k m e in
          (inr g.0, λ r o. elim [ inl x ↦ let y = h.1 r o x in inl (omega (arith, less, y)) | inr x ↦ g.1 r o x ])
  merge a (Some Memory) h g = absurd g

-- ---- the law

module _ (z : Size) (lines : List Line) (numbered : Numbered lines) where
  abbrev Names : ℕ → SourceCause → Type 0
  Names = HasNameFault lines

  abbrev Meanings : ℕ → SourceCause → Type 0
  Meanings = AtLine (λ b l c. OfMeaning z lines b l c) lines

  abbrev Lacking : ℕ → SourceCause → Type 0
  Lacking k c = (HasEnter lines → ⊥) × (k ≡ length lines + 1) × (c ≡ causes.Enter)

  abbrev second : Option SourceFault
  second = fault_from z (symbols_of lines) (any_enter lines)
      (record { extents = []; entered = false }) first_counter lines

  say_meaning : SaysLeast Meanings second
  say_meaning = found_says (λ b l c. OfMeaning z lines b l c) lines second (rw (meaning_pass z lines [] lines)
      (Finds-first (ask_meaning z lines) (λ b l c. OfMeaning z lines b l c) lines numbered
      (λ b l. of_meaning z lines b l) [] lines refl (λ b l c st h. omega arith)))

  say_lacking : SaysLeast Lacking (missing (any_enter lines) (length lines))
  say_lacking = search (rules, any_says, any_tests)

  abbrev All : ℕ → SourceCause → Type 0
  All k c = Names k c ⊎ (Meanings k c ⊎ Lacking k c)

  not_both : (k : ℕ) (c d : SourceCause) → Meanings k c → Lacking k d → number_of c ≤ number_of d
  not_both k c d m h = grind (arith, common_steps)

  names_first : (k : ℕ) (c d : SourceCause) → Names k c → Meanings k d ⊎ Lacking k d → number_of c ≤ number_of d
  names_first k c d n other = search (rules, number_of-few)

  say_all : SaysLeast All (fault z lines)
  say_all = search (rules, merge, names_first, say_names, not_both, say_meaning, say_lacking)

  to_has : (k : ℕ) (c : SourceCause) → All k c → SourceHasFault z lines k c
  to_has k c (inl n) = rw n.3 (on_line n.2 (name_has_cause z lines n.0 n.1 c n.4))
  to_has k c (inr (inl n)) = rw n.3 (on_line n.2 n.4.0)
  to_has k c (inr (inr n)) = rw (n.1, n.2) (no_enter n.0)

  of_has : {k : ℕ} {c : SourceCause} → SourceHasFault z lines k c → All k c
  of_has (on_line {before} {l} {cause} st h) = search (rules, cases_lt, cause_is_name)
  of_has (no_enter h) = search rules

  -- what the answer says of the source
  abbrev pub Tells : Option SourceFault → Type 0
  Tells None = HasNoFault z lines
  Tells (Some Memory) = ⊥
  Tells (Some (At k c)) = IsMeaningFault z lines k c

  tells_of : (f : Option SourceFault) → SaysLeast All f → Tells f
  tells_of None h = λ k c x. h k c (of_has x)
  tells_of (Some Memory) h = h
  tells_of (Some (At k c)) h = record { is = to_has k c h.0; least = λ r o x. h.1 r o (of_has x) }

  pub tells : Tells (fault z lines)
  tells = tells_of (fault z lines) say_all

  -- both ways
  pub fault_is : {k : ℕ} {c : SourceCause} → fault z lines ≡ Some (At k c) → IsMeaningFault z lines k c
  fault_is e = subst Tells e tells

  pub none_is : fault z lines ≡ None → HasNoFault z lines
  none_is e = subst Tells e tells

  pub is_none_fault : HasNoFault z lines → fault z lines ≡ None
  is_none_fault h = let t = tells in search rules

  pub is_fault : (k : ℕ) (c : SourceCause) → IsMeaningFault z lines k c → fault z lines ≡ Some (At k c)
  is_fault k c h = (elim (fault z lines) as (λ (f : Option SourceFault). Tells f → f ≡ Some (At k c)) [
    | None ↦ λ t. absurd (t k c h.is)
    | Some Memory ↦ λ t. absurd t
    | Some (At m d) ↦ λ t. let same = one_least t h in λ i. Some (At (same.0 i) (same.1 i))
  ]) tells

-- ---- what the code answers

-- a fault that the code answers is the one wanted
is_first : (wanted : Option SourceFault) (f : SourceFault) → wanted ≡ Some f → IsFirstFault wanted f
is_first wanted f h = search rules

-- the fault of a source without an `enter` is later than one of its lines
before_missing : (k n : ℕ) (c : SourceCause) (has_enter : Bool) → k ≤ n
    → earlier_fault (Some (At k c)) (missing has_enter n) ≡ Some (At k c)
before_missing k n c has_enter h = grind (arith, nat_tests)

-- what the code looks for, from definitions and from whether there is an `enter`
abbrev looked_for : Size → List Line → List Definition → Bool → Option SourceFault
looked_for z lines symbols has_enter = fault_from z symbols has_enter (record { extents = []; entered = false })
    first_counter lines

module _ (z : Size) (lines : List Line) (numbered : Numbered lines) where
  -- the number of a line
  within : (k : ℕ) (before : List Line) (l : Line) → IsLineAfter lines before l → k ≡ length before + 1
      → (nat_le k 0 ≡ false) × (k ≤ length lines)
  within k before l stands is = grind (arith, common_steps)

  -- the fault of a line, or one of names that is sooner
  pub line_first : (e f : SourceFault) → IsFirstFault (looked_for z lines (symbols_of lines) (any_enter lines)) e
      → Some f ≡ earlier_fault (resolution lines).fault (Some e)
      → IsFirstFault (fault z lines) f
  line_first (At m d) f h is = grind (arith, common_steps, say_meaning, before_missing)
  line_first Memory f h is = grind (arith, common_steps)

  -- a fault of names, if no line has another
  pub names_alone : (f : SourceFault) → (resolution lines).fault ≡ Some f
      → (looked_for z lines (symbols_of lines) (any_enter lines)) ≡ None
      → IsFirstFault (fault z lines) f
  names_alone (At k c) h e = grind (arith, common_steps, say_names, before_missing)
  names_alone Memory h e = tt

-- the fault that is looked for is that of the definition, both ways
pub record FaultIsFound (z : Size) (lines : List Line) : Type 0 where
  pub refused : (k : ℕ) (c : SourceCause) → fault z lines ≡ Some (At k c) → IsMeaningFault z lines k c
  pub refuses : (k : ℕ) (c : SourceCause) → IsMeaningFault z lines k c → fault z lines ≡ Some (At k c)
  pub accepted : fault z lines ≡ None → HasNoFault z lines
  pub accepts : HasNoFault z lines → fault z lines ≡ None
  pub no_memory : fault z lines ≡ Some Memory → ⊥

pub fault_law : (z : Size) (lines : List Line) → AreNumbered lines → FaultIsFound z lines
fault_law z lines e =
    let n = Numbered-lines lines e in record {
      refused = λ k c h. fault_is z lines n h;
      refuses = λ k c h. is_fault z lines n k c h;
      accepted = λ h. none_is z lines n h;
      accepts = λ h. is_none_fault z lines n h;
      no_memory = λ h. subst (Tells z lines n) h (tells z lines n);
    }

-- an answer that is the fault that is looked for is that of the definition
pub answer_has_fault : {A : Type 0} (z : Size) (lines : List Line) → AreNumbered lines → (r : Result A SourceFault)
    → IfErr r (λ e. IsFirstFault (fault z lines) e) → IfErr r (λ e. HasMeaningFault z lines e)
answer_has_fault z lines n (Err (At k c)) h = (fault_law z lines n).refused k c h
answer_has_fault z lines n r h = tt

-- the answers about a source whose lines are numbered; what the code has are its definitions, and whether it has an
-- `enter`
module _ (z : Size) (lines : List Line) {symbols : List Definition} {has_enter : Bool} (n : AreNumbered lines)
    (known : symbols ≡ symbols_of lines) (there : has_enter ≡ any_enter lines) where
  pub line_fault : {names : Option SourceFault} (e f : SourceFault) → names ≡ (resolution lines).fault
      → IsFirstFault (looked_for z lines symbols has_enter) e → Some f ≡ earlier_fault names (Some e)
      → IsFirstFault (fault z lines) f
  line_fault e f are h is =
      line_first z lines (Numbered-lines lines n) e f (rw (known, there) at h) (rw are at is)

  pub name_fault : (f : SourceFault) → (resolution lines).fault ≡ Some f → looked_for z lines symbols has_enter ≡ None
      → IsFirstFault (fault z lines) f
  name_fault f h e = names_alone z lines (Numbered-lines lines n) f h (rw (known, there) at e)
