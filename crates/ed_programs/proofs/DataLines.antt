-- A line `data` with numbers, each ended by F: what it says, and what its rows are.
use Rattle.ed_sources.proofs.Kit.{[], list_all, and_from, and_parts, ltb-true, list_all-append, is_line_byte, nat_tests}
use Rattle.ed_sources.proofs.Kit.{decimal, get_or, length, nat_lt, ℕ, le-leb, lt-ltb, ne_eqb, row_of, line_of, arith}
use Rattle.ed_sources.proofs.Kit.{Bool, codes, false, List, None, refl, Some, subst, true, ◌++◌, spells, digits, ap}
use Rattle.ed_sources.proofs.Kit.{map, not, Ok, suc, ◌*◌, ◌<◌, ◌==◌, ◌∙◌, ◌∷◌, ◌≡◌, ◌≤◌, Text, run, row}
use Rattle.std.proofs.lemmas.List.Folds.{list_all_at}
use Rattle.ed_syntax.proofs.Kit.{map-append, array, has_quote, quoted}
use Rattle.std.proofs.Common.{Fits, slice_index_or, w16, rules}
use Rattle.std.proofs.lemmas.List.{append_assoc, length-append}
use Rattle.ed_syntax.proofs.PartLemmas.{quote_parts}
use Rattle.ed_sources.proofs.Decimals.{are_digits-digits, decimal_is, few_bytes, line_bytes, no_quotes, row_bytes}
use Rattle.ed_sources.proofs.Decimals.{rows_are, written}
use Rattle.ed_programs.specs.Lists.{numbers_text}
use Rattle.ed_programs.proofs.SourceLines.{Marked, by_parts, mark}
use Rattle.ed_lines.specs.declared.program.Statement.TheVariants as statements

-- the line `data` with numbers, between quotes (34)
abbrev pub numbers_line : List ℕ → Text
numbers_line ns = codes "data " ++ 34 ∷ (numbers_text ns ++ 34 ∷ [])

-- the rows of numbers on a tape, each ended by F
abbrev pub number_rows : List ℕ → List ℕ
number_rows [] = []
number_rows (n ∷ ns) = digits n ++ 17 ∷ number_rows ns

-- each of them is below 65536
abbrev pub are_small : List ℕ → Bool
are_small ns = list_all (λ n. nat_lt n 65536) ns

pub small_too : (n : ℕ) (ns : List ℕ) → n < 65536 → are_small ns ≡ true → are_small (n ∷ ns) ≡ true
small_too n ns l h = and_from (nat_lt n 65536) (are_small ns) (lt-ltb n 65536 l) h

-- so are those of a slice
pub all_fit : (ns : List ℕ) → ((i : ℕ) → Fits w16 (slice_index_or ns i 0)) → are_small ns ≡ true
all_fit [] fit = refl
all_fit (n ∷ ns) fit = small_too n ns (fit 0).fits (all_fit ns (λ i. fit (suc i)))

pub small_at : (ns : List ℕ) → are_small ns ≡ true → (i : ℕ) → i < length ns → get_or ns i 0 < 65536
small_at ns h i l = grind (arith, nat_tests, list_all_at (λ n. nat_lt n 65536) ns i 0 l)

-- what the bytes of such numbers are
pub record AreNumbers (ns : List ℕ) (bytes : Text) : Type 0 where
  pub line : list_all is_line_byte bytes ≡ true
  pub quote : list_all (λ b. not (b == 34)) bytes ≡ true
  pub spelled : list_all (λ b. spells (row_of b)) bytes ≡ true
  pub rows : map (λ b. row (row_of b)) bytes ≡ number_rows ns
  pub few : length bytes ≤ 6 * length ns

pub all_numbers : (ns : List ℕ) → are_small ns ≡ true → AreNumbers ns (numbers_text ns)
all_numbers [] h = record { line = refl; quote = refl; spelled = refl; rows = refl; few = omega arith }
all_numbers (n ∷ ns) h =
    let p = and_parts (nat_lt n 65536) (are_small ns) h in
    let small = ltb-true n 65536 p.0 in
    let ds : List ℕ = digits n in
    let is = are_digits-digits n small in
    let rest = all_numbers ns p.1 in
    let tail : Text = numbers_text ns in
    let each : (test : ℕ → Bool) → test 70 ≡ true → list_all test (written ds) ≡ true → list_all test tail ≡ true
    → list_all test (written ds ++ 70 ∷ tail) ≡ true
    = λ test f d t. list_all-append test (written ds) (70 ∷ tail) ∙ rw (d, f, t) refl in
    let long = length-append (written ds) (70 ∷ tail) in
    let here = few_bytes n small in
    let more = rest.few in
    subst (λ (bytes : Text). AreNumbers (n ∷ ns) (bytes ++ 70 ∷ tail)) (decimal_is n small) (record {
      line = each is_line_byte refl (line_bytes ds is) rest.line;
      quote = each (λ b. not (b == 34)) refl (no_quotes ds is) rest.quote;
      spelled = each (λ b. spells (row_of b)) refl (row_bytes ds is) rest.spelled;
      rows = map-append (λ b. row (row_of b)) (written ds) (70 ∷ tail)
          ∙ (let first = rows_are ds is in let next = rest.rows in λ i. first i ++ 17 ∷ next i);
      few = omega (arith, long, here, more);
    })

without_quote : (bytes : Text) → list_all (λ b. not (b == 34)) bytes ≡ true → has_quote bytes ≡ false
without_quote [] h = refl
without_quote (b ∷ bytes) h = grind (arith, nat_tests, without_quote bytes)

some_byte : (ns : List ℕ) → 1 ≤ length ns → 1 ≤ length (numbers_text ns)
some_byte [] l = absurd (omega arith)
some_byte (n ∷ ns) l = omega (arith, length-append (decimal n) (70 ∷ numbers_text ns))

module _ (two : Bool) (k : ℕ) (ns : List ℕ) (later : 2 ≤ k) (some : 1 ≤ length ns)
    (fits : length (numbers_text ns) ≤ 113) (small : are_small ns ≡ true) where
  abbrev bytes : Text
  bytes = numbers_text ns

  pub data_says : line_of two k (numbers_line ns) ≡ Ok (record {
    label = None;
    statement = Some (statements.Rows (array (number_rows ns)));
  })
  data_says =
      let all = all_numbers ns small in
      let plain = all.line in
      let spelled = all.spelled in
      let rows = all.rows in
      let long = length-append bytes (34 ∷ []) in
      let there = le-leb 1 (length bytes) (some_byte ns some) in
      let short = le-leb (length bytes) 120 (omega arith) in
      let no_version : (k == 1) ≡ false = ne_eqb k 1 (omega (arith, later)) in
      by_parts two k (numbers_line ns) (run (codes "data") ∷ quoted bytes ∷ [])
      (list_all-append is_line_byte bytes (34 ∷ []) ∙ rw plain refl) (omega (arith, long))
      (let e = quote_parts [] bytes [] (without_quote bytes all.quote) in rw e refl)
      (rw (no_version, there, short, spelled, rows) refl)

-- the numbers, each ended by F, before the rest of their line
abbrev pub numbers_and : List ℕ → Text → Text
numbers_and [] rest = rest
numbers_and (n ∷ ns) rest = decimal n ++ 70 ∷ numbers_and ns rest

pub numbers_and_is : (ns : List ℕ) (rest : Text) → numbers_and ns rest ≡ numbers_text ns ++ rest
numbers_and_is [] rest = refl
numbers_and_is (n ∷ ns) rest = search (rules, append_assoc, numbers_and_is ns rest)

-- a line `data` with numbers, as a mark: with each number as data of its own, and with all of them as one text
module _ {two : Bool} (k : ℕ) (ns : List ℕ) (later : 2 ≤ k) (some : 1 ≤ length ns) where
  abbrev pub data_mark : length ns ≤ 18 → are_small ns ≡ true → Marked two
  data_mark few small =
      mark k (codes "data " ++ 34 ∷ numbers_and ns (34 ∷ [])) None (statements.Rows (array (number_rows ns)))
      (ap (λ (t : Text). line_of two k (codes "data " ++ 34 ∷ t)) (numbers_and_is ns (34 ∷ []))
      ∙ data_says two k ns later some (let most = (all_numbers ns small).few in omega arith) small)

  abbrev pub list_mark : length (numbers_text ns) ≤ 113 → are_small ns ≡ true → Marked two
  list_mark fits small =
      mark k (numbers_line ns) None (statements.Rows (array (number_rows ns)))
      (data_says two k ns later some fits small)
