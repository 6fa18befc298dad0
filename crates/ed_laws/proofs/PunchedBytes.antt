-- The text that `punch` writes is short enough to be read.
use Rattle.ed_laws.proofs.Kit.{Size, Item, length-append, ◌&&◌, ◌*◌, and_parts, rows_of, Line, on_line, [], ap}
use Rattle.ed_laws.proofs.Kit.{append_assoc, arith, Bool, false, inl, inr, length, List, nat_le, nat_lt, None, Option}
use Rattle.ed_laws.proofs.Kit.{refl, rules, Some, suc, sym, true, true≢false, ℕ, ◌++◌, ◌+◌, ◌-◌, ◌<◌, ◌∙◌, ◌∷◌, ◌≡◌}
use Rattle.ed_laws.proofs.Kit.{◌≤◌, ◌⊎◌, nat_tests, Text, IsAcceptedAs, punch_outcome, zero, cases_lt, ◌||◌}
use Rattle.ed_laws.proofs.Kit.{common_steps, if◌then◌else◌, map}
use Rattle.std.proofs.Common.{min}
use Rattle.ed_syntax.proofs.Kit.{leb-true, ltb-true, AreRowsOf, empty, enter, fetch, fetch_with, label, labelled}
use Rattle.ed_syntax.proofs.Kit.{placed, segment, segment_at, SpellsForm, SpellsPlaced, SpellsStatement, statement}
use Rattle.ed_syntax.proofs.Kit.{version, LinePart, and_more, LinesSay, no_more}
use Rattle.ed_link.proofs.Kit.{lit≤, list_all, length-map, locations, locations_most, canonical, canonicals, line_from}
use Rattle.ed_link.proofs.Kit.{entry, table_item, counter_after, IsLineAfter, after_statement, first_counter}
use Rattle.ed_link.proofs.Kit.{routine_places, HasNoFault, data_after, end_place, first_place, symbols_of, items_of}
use Rattle.ed_link.proofs.Kit.{punched_from, punched_items, routine_items, use_items, word_item, after_text}
use Rattle.ed_words.specs.Words.{digit as one_if}
use Rattle.ed_notation.specs.Spellings.{text_of}
use Rattle.ed_syntax.specs.Forms.{data_rows as data_statement}
use Rattle.ed_lines.specs.declared.fault.SourceCause.TheVariants.{Overlap, StoreEnd}
use Rattle.ed_lines.specs.declared.program.Setting.{Setting}
use Rattle.ed_lines.specs.declared.program.Statement.{Statement}
use Rattle.ed_lines.specs.declared.program.Statement.TheVariants.{Segment, Order, Number, Text as Letters, Long, Fetch}
use Rattle.ed_lines.specs.declared.program.Statement.TheVariants.{Enter, Rows}
use Rattle.ed_syntax.proofs.LineLaws.{few_bytes}
use Rattle.ed_syntax.proofs.PlacedLaws.{is_short}
use Rattle.ed_symbols.specs.declared.location_counter.LocationCounter.{LocationCounter}
use Rattle.ed_symbols.specs.declared.symbols.Definition.{Definition}
use Rattle.ed_symbols.proofs.NameLaw.{spot_snoc}
use Rattle.ed_link.specs.Faults.{LineHasWord}
use Rattle.ed_link.specs.Linked.{data_rows}
use Rattle.ed_link.proofs.Bounds.{headed_few, use_few}

-- ---- the rows of a line

abbrev ShortRows : Option Statement → Type 0
ShortRows (Some (Rows codes)) = length codes.items ≤ 120
ShortRows st = Unit {0}

placed_short : {two : Bool} {ps : List LinePart} {s : Statement} {fits : Bool} → SpellsPlaced two ps s fits
    → ShortRows (Some s)
placed_short h = search rules

rows_short : (q : Text) (rows : List ℕ) → AreRowsOf q rows → nat_le (length q) 120 ≡ true → length rows ≤ 120
rows_short q rows are h = grind (arith, common_steps)

statement_short : {two : Bool} {ps : List LinePart} {s : Statement} {fits : Bool} → SpellsStatement two ps s fits
    → list_all is_short ps ≡ true → ShortRows (Some s)
statement_short (placed ps s fits x) h = placed_short x
statement_short (segment a x) h = tt
statement_short (segment_at a n x y) h = tt
statement_short (fetch a b x y) h = tt
statement_short (fetch_with a b ps ss fits x y z w) h = tt
statement_short (enter a x) h = tt
statement_short (data_statement q rows are) h = rows_short q rows are (and_parts (nat_le (length q) 120) true h).0

form_short : {two : Bool} {k : ℕ} {ps : List LinePart} {f : _} {fits : Bool}
    → SpellsForm two k ps f fits → list_all is_short ps ≡ true → ShortRows f.statement
form_short (empty k) h = tt
form_short (label k a x) h = tt
form_short (statement k ps s fits x) h = statement_short x h
form_short (labelled k a ps s fits x y) h = placed_short y
form_short (version n x y) h = tt

AllShort : List Line → Type 0
AllShort [] = Unit {0}
AllShort (l ∷ lines) = ShortRows l.statement × AllShort lines

lines_short : {two : Bool} {k : ℕ} {texts : List Text} {lines : List Line} → LinesSay two k texts lines
    → AllShort lines × (length lines ≡ length texts)
unfolding AllShort
lines_short (no_more k) = (tt, refl)
lines_short (and_more k line texts f said says rest) = search (rules, form_short, few_bytes, lines_short rest)

-- ---- counting locations

count : (ℕ → Bool) → ℕ → ℕ
count f zero = 0
count f (suc n) = count f n + one_if (f n)

one_most : (b : Bool) → one_if b ≤ 1
one_most true = lit≤ tt
one_most false = lit≤ tt

count_most : (f : ℕ → Bool) (n : ℕ) → count f n ≤ n
unfolding count
count_most f zero = omega arith
count_most f (suc n) = omega (arith, count_most f n, one_most (f n))

one_or : (a b : Bool) → (a ≡ true → b ≡ true → ⊥) → one_if (a || b) ≡ one_if a + one_if b
one_or a b apart = search rules

count_or : (f g : ℕ → Bool) (n : ℕ) → ((p : ℕ) → f p ≡ true → g p ≡ true → ⊥)
    → count (λ p. f p || g p) n ≡ count f n + count g n
unfolding count
count_or f g zero apart = refl
count_or f g (suc n) apart = search (rules, one_or, count_or f g n apart)

abbrev range : ℕ → ℕ → ℕ → Bool
range a b p = nat_le a p && nat_lt p b

count_range : (a b n : ℕ) → count (range a b) n ≡ min n b - a
unfolding count
count_range a b zero = omega arith
count_range a b (suc n) = let before = count_range a b n in grind (arith, common_steps, nat_tests)

-- ---- the words of all lines

words_total : LocationCounter → List Line → ℕ
words_total s [] = 0
words_total s (l ∷ lines) =
    end_place l.statement s - first_place l.statement s + words_total (after_statement l.statement s) lines

-- a line of the beginning has a word there
HasWord : List Line → ℕ → Type 0
HasWord done p = (earlier : List Line) × (e : Line) × IsLineAfter done earlier e × LineHasWord earlier e p

has_more : (done : List Line) (l : Line) (p : ℕ) → HasWord done p → HasWord (done ++ l ∷ []) p
unfolding HasWord
has_more done l p (earlier, e, stands, has) = search (rules, stands, append_assoc)

module _ (z : Size) (lines : List Line) (none : HasNoFault z lines) where
  total : (rest done : List Line) (f : ℕ → Bool) → lines ≡ done ++ rest
      → ((p : ℕ) → f p ≡ true → HasWord done p)
      → count f 1024 + words_total (counter_after done) rest ≤ 1024
  unfolding words_total HasWord
  total [] done f is covers = omega (arith, count_most f 1024)
  total (l ∷ rest) done f is covers = by_words (total rest (done ++ l ∷ [])) (cases_lt a b)
    where
      s : LocationCounter
      s = counter_after done

      a : ℕ
      a = first_place l.statement (counter_after done)

      b : ℕ
      b = end_place l.statement (counter_after done)

      stands : IsLineAfter lines done l
      stands = record { after = rest; lines_are = is }

      next : lines ≡ (done ++ l ∷ []) ++ rest
      next = is ∙ sym (append_assoc done (l ∷ []) rest)

      same : words_total (counter_after (done ++ l ∷ [])) rest
          ≡ words_total (after_statement l.statement (counter_after done)) rest
      same = ap (λ (t : LocationCounter). words_total t rest) (spot_snoc first_counter done l)

      old : (p : ℕ) → f p ≡ true → HasWord (done ++ l ∷ []) p
      old p h = has_more done l p (covers p h)

      new : (p : ℕ) → range a b p ≡ true → LineHasWord done l p
      new p h =
          let parts = and_parts (nat_le a p) (nat_lt p b) h in (leb-true a p parts.0, ltb-true p b parts.1)

      either : (p : ℕ) → (t u : Bool) → f p ≡ t → range a b p ≡ u → (t || u) ≡ true → HasWord (done ++ l ∷ []) p
      either p true u e g h = old p e
      either p false true e g h = (done, l, record { after = []; lines_are = refl }, new p g)
      either p false false e g h = absurd (true≢false (sym h))

      apart : (p : ℕ) → f p ≡ true → range a b p ≡ true → ⊥
      apart p h g =
          let earlier = covers p h in
          none (length done + 1) Overlap (on_line stands (p, new p g, earlier.0, earlier.1, earlier.2, earlier.3))

      end_low : a < b → b ≤ 1024
      end_low less = elim (cases_lt (b - 1) (locations z)) [
        | inl low ↦ omega (arith, low, locations_most z)
        | inr high ↦
            absurd (none (length done + 1) StoreEnd
            (on_line stands (b - 1, inl (omega (arith, less), omega (arith, less)), high)))
      ]

      by_words : ((g : ℕ → Bool) → lines ≡ (done ++ l ∷ []) ++ rest
          → ((p : ℕ) → g p ≡ true → HasWord (done ++ l ∷ []) p)
          → count g 1024 + words_total (counter_after (done ++ l ∷ [])) rest ≤ 1024)
          → (a < b) ⊎ (b ≤ a)
          → count f 1024 + (b - a + words_total (after_statement l.statement (counter_after done)) rest) ≤ 1024
      by_words on (inr none_of_it) =
          let few = on f next old in
          omega (arith, few, same, none_of_it)
      by_words on (inl less) =
          let few = on (λ p. f p || range a b p) next (λ p h. either p (f p) (range a b p) refl refl h) in
          omega (arith, few, same, count_or f (range a b) 1024 apart, count_range a b 1024, end_low less)

  words_few : words_total first_counter lines ≤ 1024
  words_few =
      let all = total lines [] (λ p. false) refl (λ p h. absurd (true≢false (sym h))) in omega (arith, all)

-- ---- the items of a line

routine_is : (found : Option ℕ) → length (routine_items found) ≡ routine_places found
routine_is None = refl
routine_is (Some r) = length-map (entry r).items table_item

fetch_few : (symbols : List Definition) (ts : List Setting) (base : ℕ) (found : Option ℕ)
    → length (use_items symbols ts base found) ≤ routine_places found + 14
fetch_few symbols ts base found =
    let few = use_few symbols ts base found in let is = routine_is found in omega (arith, few, is)

-- a long word is at most 3 words
long_few : (b : Bool) (v w : ℕ) → length (map word_item ((if b then 0 ∷ [] else []) ++ (v ∷ (w ∷ [])))) ≤ 3
long_few true v w = lit≤ tt
long_few false v w = lit≤ tt

-- 9 bytes for each item, and one for each row of data: at most 126, and 9 for each word of the line
line_few : (symbols : List Definition) (s : LocationCounter) (st : Option Statement) → ShortRows st
    → 9 * length (items_of symbols s st) + length (data_rows st) ≤ 126 + 9 * (end_place st s - first_place st s)
line_few symbols s None h = omega arith
line_few symbols s (Some (Segment name base)) h = omega arith
line_few symbols s (Some (Order f o is_long)) h = search (rules, headed_few)
line_few symbols s (Some (Number w)) h = search (rules, headed_few)
line_few symbols s (Some (Letters codes)) h = grind (arith, common_steps, headed_few)
line_few symbols s (Some (Long v)) h = search (rules, headed_few, long_few)
line_few symbols s (Some (Fetch routine name ts)) h = search (rules, fetch_few)
line_few symbols s (Some (Enter name)) h = omega arith
line_few symbols s (Some (Rows codes)) h = omega (arith, h)

lines_few : (symbols : List Definition) (s : LocationCounter) (lines : List Line) → AllShort lines
    → 9 * length (punched_from symbols s lines) + length (data_after lines)
    ≤ 126 * length lines + 9 * words_total s lines
unfolding AllShort words_total
lines_few symbols s [] h = omega arith
lines_few symbols s (l ∷ lines) h =
    let t = after_statement l.statement s in
    omega (
      arith,
      line_few symbols s l.statement h.0,
      lines_few symbols t lines h.1,
      length-append (items_of symbols s l.statement) (punched_from symbols t lines),
      length-append (data_rows l.statement) (data_after lines),
    )

-- ---- the text

line_bytes : (as_digit : Bool) (rows : List ℕ) → length (line_from as_digit rows) ≡ length rows + 1
line_bytes as_digit [] = refl
line_bytes as_digit (c ∷ rows) = let more = line_bytes true rows in omega (arith, more)

item_bytes : (i : Item) → length (rows_of (canonical i)) ≤ 8
item_bytes i = search rules

items_bytes : (is : List Item) → length (text_of (canonicals is)) ≤ 9 * length is
items_bytes [] = omega arith
items_bytes (i ∷ is) = search (rules, item_bytes, line_bytes, length-append, items_bytes is)

after_bytes : (rows : List ℕ) → length (after_text rows) ≤ length rows + 1
after_bytes [] = omega arith
after_bytes (c ∷ rows) = omega (arith, line_bytes true (c ∷ rows))

pub punched_short : (z : Size) (source : Text) (lines : List Line) → IsAcceptedAs z source lines
    → length (punch_outcome lines).out ≤ 262144
punched_short z source lines accepted =
    let short = lines_short accepted.says.says in
    let count = short.1 in
    omega (
      arith,
      count,
      accepted.says.few,
      lines_few (symbols_of lines) first_counter lines short.0,
      words_few z lines accepted.faultless,
      items_bytes (punched_items lines),
      after_bytes (data_after lines),
      length-append (text_of (canonicals (punched_items lines))) (after_text (data_after lines)),
    )
