-- What `examples/mirror.tape` prints, for any word.
use Rattle.ed_programs.proofs.Kit.{rules, length-reverse, none, spacing, spells_append, has_one_reading, Letters}
use Rattle.ed_programs.proofs.Kit.{Settings, AreCodes, reverse-append, rows, Spells, INPUT_BYTES, [], and_from, ap}
use Rattle.ed_programs.proofs.Kit.{append-nil, append_assoc, arith, decimal, length, length-append, List, refl, reverse}
use Rattle.ed_programs.proofs.Kit.{subst, sym, true, ℕ, ◌++◌, ◌∙◌, ◌∷◌, ◌≡◌, ◌≤◌, list_all, and_parts, leb-true}
use Rattle.ed_programs.proofs.Kit.{length-map, Text, row_of, reading, paper_from, is_capital, mirror_text, TapeRuns}
use Rattle.ed_notation.proofs.Texts.{are_codes}
use Rattle.ed_syntax.specs.Reading.Grammar.{row as code_of}
use Rattle.ed_programs.specs.Mirror.{mirror_cost, mirror_orders}
use Rattle.ed_programs.proofs.Capitals.{AreLetters, are_rows, capitals_shown}
use Rattle.ed_programs.proofs.MirrorEnds.{front, mirror_arrives, mirror_ends, mirror_entry, mirror_rows}
use Rattle.ed_programs.proofs.RowTexts.{few_figures, figure_spells, text_rows, text_spells}
use Rattle.ed_programs.proofs.TapeRuns.{reads_spell, rows_in, tape_runs}
use Rattle.ed_programs.proofs.TextLines.{all_plain}

-- ---- the rows of the text

-- the last line: the number of letters, and the letters
abbrev mirror_line : Text → Text
mirror_line letters = decimal (length letters) ++ letters

pub text_is : (letters : Text) → front ++ (decimal (length letters) ++ (letters ++ 10 ∷ [])) ≡ mirror_text letters
text_is letters = ap (λ (t : Text). front ++ t) (sym (append_assoc (decimal (length letters)) letters (10 ∷ [])))

module _ (letters : Text) (o : AreLetters 9 letters) where
  abbrev codes : List ℕ
  codes = text_rows letters

  line_spells : Spells (mirror_line letters ++ 10 ∷ []) (length letters ∷ codes)
  line_spells =
      let all = spells_append (mirror_line letters) (length letters ∷ codes) (10 ∷ []) []
      (spells_append (decimal (length letters)) (length letters ∷ []) letters codes
      (figure_spells (length letters) (omega (arith, o.few)))
      (text_spells letters (all_plain letters (are_rows letters o.capital)).spelled))
      (spacing 10 [] [] refl none) in
      subst (Spells (mirror_line letters ++ 10 ∷ [])) (append-nil (length letters ∷ codes)) all

  pub text_reads : reading (mirror_text letters) ≡ rows (mirror_rows (length letters ∷ codes))
  text_reads =
      has_one_reading.only (mirror_text letters) (rows (mirror_rows (length letters ∷ codes)))
      (spells_append front (rows_in front) (mirror_line letters ++ 10 ∷ []) (length letters ∷ codes)
      (reads_spell front (rows_in front) refl) line_spells)

-- ---- what is printed

-- letters are printed as they are, in whatever order
printed_back : (q : Text) (more : List ℕ) → list_all is_capital q ≡ true
    → paper_from Letters (reverse (text_rows q) ++ more) ≡ reverse q ++ paper_from Letters more
printed_back [] more h = refl
printed_back (b ∷ q) more h =
    let p = and_parts (is_capital b) (list_all is_capital q) h in
    let first = capitals_shown (b ∷ []) more (and_from _ _ p.0 refl) in
    let code : ℕ = code_of (row_of b) in
    rw (
      reverse-append (code ∷ []) (text_rows q),
      append_assoc (reverse (text_rows q)) (code ∷ []) more,
      printed_back q (code ∷ more) p.1,
      first,
      reverse-append (b ∷ []) q,
      append_assoc (reverse q) (b ∷ []),
    )

pub each_word : (s : Settings) (letters : Text) → AreLetters 9 letters
    → TapeRuns s (mirror_text letters) mirror_cost (mirror_orders letters) 91 (reverse letters)
each_word s [] o = absurd (omega (arith, o.some))
each_word s (b ∷ q) o =
    let letters : Text = b ∷ q in
    let codes : List ℕ = text_rows letters in
    let long : length codes ≡ length letters = length-map letters (λ b. code_of (row_of b)) in
    let back = length-reverse codes in
    let are : AreCodes codes = are_codes codes (all_plain letters (are_rows letters o.capital)).codes in
    let few = o.few in
    let reads : reading (mirror_text letters) ≡ rows (mirror_rows (length codes ∷ codes)) =
    text_reads letters o ∙ ap (λ n. rows (mirror_rows (n ∷ codes))) (sym long) in
    let figures = few_figures (length letters) (omega arith) in
    let short : length (mirror_text letters) ≤ INPUT_BYTES = search (rules, figures, few, leb-true, length-append) in
    tape_runs s (mirror_text letters) (mirror_rows (length codes ∷ codes)) (mirror_entry (length codes ∷ codes)) reads
    short (mirror_arrives s.size (length codes ∷ codes))
    (mirror_ends s (code_of (row_of b)) (text_rows q) are (omega arith)) (omega arith) (omega arith)
    (ap (paper_from Letters) (sym (append-nil (reverse codes)))
    ∙ printed_back letters [] o.capital ∙ append-nil (reverse letters))
