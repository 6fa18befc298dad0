-- The words of the linked program are those of its lines, and the parameters that its `use` lines set.
use Rattle.ed_link.proofs.Kit.{reverse, Contains, cases_eq, eq-eqb, ne_eqb, reverse-append, same_Some, Size}
use Rattle.ed_link.proofs.Kit.{locations_least, placed_at, [], ap, append_assoc, arith, get_or, inl, inr, length, List}
use Rattle.ed_link.proofs.Kit.{None, Option, refl, Some, subst, suc, sym, ℕ, ◌*◌, ◌++◌, ◌+◌, ◌<◌, ◌∙◌, ◌∷◌, ◌≡◌, ◌≤◌}
use Rattle.ed_link.proofs.Kit.{◌⊎◌, flat_map, locations, Line, Operand, Setting, Statement, Fetch, zero}
use Rattle.ed_link.proofs.Kit.{LocationCounter, Definition, counter_after, counter_from, IsLineAfter, after_statement}
use Rattle.ed_link.proofs.Kit.{first_counter, HasNoFault, on_line, first_place, image, linked_words, operand_number}
use Rattle.ed_link.proofs.Kit.{parameter_letters, placed_by_line, placed_from, placed_words, preset, presets, set_to}
use Rattle.ed_link.proofs.Kit.{symbols_of, append-nil, rules, length-map, entry, routine_word, table_item, parameters}
use Rattle.ed_link.proofs.Kit.{end_place, even_from, find, routine_places, Text, Long}
use Rattle.std.proofs.lemmas.Bool.{cases_lt}
use Rattle.ed_link.specs.Faults.{LineHasWord}
use Rattle.ed_link.specs.Words.{EachWordStands, IsLastSet, LinePlaces, LineSets, linked_word, words_of_line}
use Rattle.ed_link.specs.Words.{routine_words}
use Rattle.ed_link.proofs.Orders.{placed_more}
use Rattle.ed_lines.specs.declared.fault.SourceCause.TheVariants as causes
use Rattle.std.proofs.lemmas.Grind.{common_steps}

-- ---- words with their locations

-- the word is among them, at the location
abbrev Among : List (ℕ × ℕ) → ℕ → ℕ → Type 0
Among [] a w = ⊥
Among (p ∷ ps) a w = ((p.0 ≡ a) × (p.1 ≡ w)) ⊎ Among ps a w

-- no word is at the location
abbrev Nowhere : List (ℕ × ℕ) → ℕ → Type 0
Nowhere ps a = (w : ℕ) → Among ps a w → ⊥

-- the word at a location after the last ones were placed over those before: one of them, or the one that was there
abbrev Found : List (ℕ × ℕ) → List (ℕ × ℕ) → ℕ → Type 0
Found ps m a = ((w : ℕ) × Among ps a w × (placed_at (reverse ps ++ m) a ≡ Some w))
    ⊎ (Nowhere ps a × (placed_at (reverse ps ++ m) a ≡ placed_at m a))

found : (ps m : List (ℕ × ℕ)) (a : ℕ) → Found ps m a
found [] m a = inr (λ w h. h, refl)
found (p ∷ ps) m a = search (rules, placed_more, cases_eq, eq-eqb, ne_eqb, found ps (p ∷ m) a)

-- a location that some of them have, all with one word
settled : (ps m : List (ℕ × ℕ)) (a w : ℕ) → Among ps a w → ((v : ℕ) → Among ps a v → v ≡ w)
    → placed_at (reverse ps ++ m) a ≡ Some w
settled ps m a w h one = elim (found ps m a) [ inl f ↦ f.2 ∙ ap Some (one f.0 f.1) | inr f ↦ absurd (f.0 w h) ]

-- a location that none of them has
passed_over : (ps m : List (ℕ × ℕ)) (a : ℕ) → Nowhere ps a → placed_at (reverse ps ++ m) a ≡ placed_at m a
passed_over ps m a none = elim (found ps m a) [ inl f ↦ absurd (none f.0 f.1) | inr f ↦ f.1 ]

-- in three parts: the last has nothing at the location, and the second one word
between : (xs ys zs : List (ℕ × ℕ)) (a w : ℕ) → Nowhere zs a → Among ys a w → ((v : ℕ) → Among ys a v → v ≡ w)
    → placed_at (reverse (xs ++ (ys ++ zs))) a ≡ Some w
between xs ys zs a w none h one =
    ap (λ m. placed_at m a) (reverse-append xs (ys ++ zs) ∙ ap (λ m. m ++ reverse xs) (reverse-append ys zs)
    ∙ append_assoc (reverse zs) (reverse ys) (reverse xs))
    ∙ passed_over zs _ a none ∙ settled ys (reverse xs) a w h one

among_split : (xs ys : List (ℕ × ℕ)) (a w : ℕ) → Among (xs ++ ys) a w → Among xs a w ⊎ Among ys a w
among_split [] ys a w h = inr h
among_split (x ∷ xs) ys a w (inl h) = inl (inl h)
among_split (x ∷ xs) ys a w (inr h) = elim (among_split xs ys a w h) [ inl g ↦ inl (inr g) | inr g ↦ inr g ]

among_left : (xs ys : List (ℕ × ℕ)) (a w : ℕ) → Among xs a w → Among (xs ++ ys) a w
among_left [] ys a w h = absurd h
among_left (x ∷ xs) ys a w (inl h) = inl h
among_left (x ∷ xs) ys a w (inr h) = inr (among_left xs ys a w h)

among_right : (xs ys : List (ℕ × ℕ)) (a w : ℕ) → Among ys a w → Among (xs ++ ys) a w
among_right [] ys a w h = h
among_right (x ∷ xs) ys a w h = inr (among_right xs ys a w h)

-- ---- words one after the other

-- the word with an index
abbrev IsAt : ℕ → List ℕ → ℕ → ℕ → Type 0
IsAt place ws a w = (k : ℕ) × (k < length ws) × (a ≡ place + k) × (w ≡ get_or ws k 0)

laid_is : (place : ℕ) (ws : List ℕ) (a w : ℕ) → Among (placed_words place ws) a w → IsAt place ws a w
laid_is place [] a w h = absurd h
laid_is place (v ∷ ws) a w (inl h) = (0, omega arith, omega (arith, h.0), sym h.1)
laid_is place (v ∷ ws) a w (inr h) =
    let r = laid_is (place + 1) ws a w h in (suc r.0, omega (arith, r.1), omega (arith, r.2), r.3)

laid_has : (place : ℕ) (ws : List ℕ) (k : ℕ) → k < length ws → Among (placed_words place ws) (place + k) (get_or ws k 0)
laid_has place [] k low = absurd (omega (arith, low))
laid_has place (v ∷ ws) zero low = inl (omega arith, refl)
laid_has place (v ∷ ws) (suc k) low = search (rules, laid_has (place + 1) ws k (omega (arith, low)))

-- ---- the words of a line

abbrev settings_of : Option Statement → List Setting
settings_of (Some (Fetch r n ts)) = ts.items
settings_of st = []

module _ (symbols : List Definition) where
  -- a letter that is set
  abbrev IsPreset : List Setting → List ℕ → ℕ → ℕ → Type 0
  IsPreset ts cs a w = (c : ℕ) × (o : Operand) × Contains cs c × (set_to ts c ≡ Some o) × (a ≡ 24 + c)
      × (w ≡ 2 * operand_number symbols None o)

  abbrev presets_of : List Setting → List ℕ → List (ℕ × ℕ)
  presets_of ts cs = flat_map (λ c. preset symbols (set_to ts c) c) cs

  further : (c d : ℕ) (cs : List ℕ) → Contains cs d → Contains (c ∷ cs) d
  further c d cs (k, low, is) = (suc k, omega (arith, low), is)

  preset_is : (ts : List Setting) (cs : List ℕ) (a w : ℕ) → Among (presets_of ts cs) a w → IsPreset ts cs a w
  preset_is ts [] a w h = absurd h
  preset_is ts (c ∷ cs) a w h =
      by_parts _ refl (among_split _ _ a w h) (λ g. preset_is ts cs a w g)
    where
      by_parts : (o : Option Operand) → set_to ts c ≡ o
          → Among (preset symbols o c) a w ⊎ Among (presets_of ts cs) a w
          → (Among (presets_of ts cs) a w → IsPreset ts cs a w) → IsPreset ts (c ∷ cs) a w
      by_parts None e (inl g) more = absurd g
      by_parts (Some o) e (inl (inl g)) more = (c, o, (0, omega arith, refl), e, sym g.0, sym g.1)
      by_parts (Some o) e (inl (inr g)) more = absurd g
      by_parts o e (inr g) more =
          let r = more g in (r.0, r.1, further c r.0 cs r.2, r.3, r.4, r.5)

  preset_has : (ts : List Setting) (cs : List ℕ) (c : ℕ) (o : Operand) → Contains cs c → set_to ts c ≡ Some o
      → Among (presets_of ts cs) (24 + c) (2 * operand_number symbols None o)
  preset_has ts [] c o (k, low, is) e = absurd (omega (arith, low))
  preset_has ts (d ∷ cs) c o (zero, low, is) e = search (rules, among_left)
  preset_has ts (d ∷ cs) c o (suc k, low, is) e =
      among_right _ _ _ _ (preset_has ts cs c o (k, omega (arith, low), is) e)

module _ (symbols : List Definition) (s : LocationCounter) where
  routine_is : (ts : List Setting) (base : ℕ) (r : Option ℕ)
      → image symbols ts base r ≡ placed_words base (routine_words symbols ts base r)
  routine_is ts base r = grind arith

  routine_fits : (ts : List Setting) (base : ℕ) (r : Option ℕ)
      → base + length (routine_words symbols ts base r) ≡ base + routine_places r
  routine_fits ts base None = refl
  routine_fits ts base (Some r) =
      ap (λ n. base + n)
      (length-map (entry r).items (λ row. routine_word (parameters symbols ts) base (table_item row)))

  -- its words fill the locations of a line
  fills : (st : Option Statement) → first_place st s + length (words_of_line symbols s st) ≡ end_place st s
  fills (Some (Text codes)) = ap (λ n. s.place + n) (length-map codes.items (λ c. 4096 * c))
  fills (Some (Long v)) = grind arith
  fills (Some (Fetch r n ts)) = routine_fits ts.items (even_from s.place) (find r)
  fills st = omega arith

  -- a line places the parameters that it sets, and then its own words
  placed_is : (st : Option Statement) → placed_by_line symbols s st
      ≡ presets symbols (settings_of st) ++ placed_words (first_place st s) (words_of_line symbols s st)
  placed_is st = grind (arith, routine_is)

-- ---- the words of all lines

spot_append : (s : LocationCounter) (xs ys : List Line)
    → counter_from s (xs ++ ys) ≡ counter_from (counter_from s xs) ys
spot_append s [] ys = refl
spot_append s (x ∷ xs) ys = spot_append (after_statement x.statement s) xs ys

placed_append : (symbols : List Definition) (s : LocationCounter) (xs ys : List Line)
    → placed_from symbols s (xs ++ ys) ≡ placed_from symbols s xs ++ placed_from symbols (counter_from s xs) ys
placed_append symbols s [] ys = refl
placed_append symbols s (x ∷ xs) ys =
    rw (placed_append symbols (after_statement x.statement s) xs ys, append_assoc) refl

-- a word among those of some lines is one of a line
abbrev OfALine : List Definition → LocationCounter → List Line → ℕ → ℕ → Type 0
OfALine symbols s lines a w = (before : List Line) × (l : Line) × IsLineAfter lines before l
    × Among (placed_by_line symbols (counter_from s before) l.statement) a w

of_a_line : (symbols : List Definition) (s : LocationCounter) (lines : List Line) (a w : ℕ)
    → Among (placed_from symbols s lines) a w
    → OfALine symbols s lines a w
of_a_line symbols s [] a w h = absurd h
of_a_line symbols s (l ∷ lines) a w h = elim (among_split _ _ a w h) [
  | inl g ↦ ([], l, record { after = lines; lines_are = refl }, g)
  | inr g ↦
      let r = (of_a_line symbols (after_statement l.statement s) lines a w g) in
      (l ∷ r.0, r.1, record { after = r.2.after; lines_are = ap (λ x. l ∷ x) r.2.lines_are }, r.3)
]

-- the letters of parameters
in_range : (c : ℕ) → Contains parameter_letters c → (21 ≤ c) × (c ≤ 26)
in_range c h = grind (arith, common_steps)

-- ---- the law

module _ (z : Size) (lines : List Line) (faultless : HasNoFault z lines) where
  abbrev symbols : List Definition
  symbols = symbols_of lines

  has_word : (before : List Line) (l : Line) (a w : ℕ) → LinePlaces lines before l a w → LineHasWord before l a
  has_word before l a w p =
      let e = fills symbols (counter_after before) l.statement in
      (omega (arith, p.place_is), omega (arith, p.place_is, p.below, e))

  high : (before : List Line) (l : Line) (a w : ℕ) → IsLineAfter lines before l → LinePlaces lines before l a w → 56 ≤ a
  high before l a w st p =
      let has = has_word before l a w p in
      elim (cases_lt a 44) [
        | inl g ↦ absurd (faultless _ causes.LoaderStore (on_line st (a, inl has, omega arith, g)))
        | inr g ↦ elim (cases_lt a 56) [
          | inl h ↦ absurd (faultless _ causes.ParameterStore (on_line st (a, inl has, g, h)))
          | inr h ↦ h
        ]
      ]

  low : (l : Line) (a w : ℕ) → LineSets lines l a w → a < 56
  low l a w p = omega (arith, p.place_is, in_range p.letter p.is_letter)

  -- a word of a line and a parameter are at two locations
  apart : {before : List Line} {l m : Line} {a v w : ℕ} → IsLineAfter lines before l → LinePlaces lines before l a v
      → LineSets lines m a w → ⊥
  apart {before} {l} {m} {a} {v} {w} st p q = omega (arith, high before l a v st p, low m a w q)

  set_by : (l : Line) (st : Option Statement) (a w : ℕ) → l.statement ≡ st
      → IsPreset symbols (settings_of st) parameter_letters a w → LineSets lines l a w
  set_by l (Some (Fetch r n ts)) a w e h = search rules
  set_by l st a w e h = absurd (let none = h.3 in cc)

  -- what a line places is its own or a parameter
  kinds : (before : List Line) (l : Line) (a w : ℕ)
      → Among (placed_by_line symbols (counter_after before) l.statement) a w
      → LinePlaces lines before l a w ⊎ LineSets lines l a w
  kinds before l a w h =
      let s = counter_after before in
      elim (among_split (presets symbols (settings_of l.statement)) _ a w (rw (placed_is symbols s l.statement) at h)) [
        | inl g ↦ inr (set_by l l.statement a w refl (preset_is symbols _ parameter_letters a w g))
        | inr g ↦
            let r = laid_is _ _ a w g in inl (record { index = r.0; below = r.1; place_is = r.2; word_is = r.3 })
      ]

  own_among : (before : List Line) (l : Line) (a w : ℕ) → LinePlaces lines before l a w
      → Among (placed_by_line symbols (counter_after before) l.statement) a w
  own_among before l a w p =
      rw (placed_is symbols (counter_after before) l.statement, p.place_is, p.word_is)
      (among_right (presets symbols (settings_of l.statement)) _ _ _ (laid_has _ _ p.index p.below))

  set_among : (s : LocationCounter) (l : Line) (a w : ℕ) → LineSets lines l a w
      → Among (placed_by_line symbols s l.statement) a w
  set_among s l a w p =
      let at = preset_has symbols p.settings parameter_letters p.letter p.operand p.is_letter p.set in
      let moved : Among (presets symbols p.settings) a w =
      rw p.place_is (subst (λ x. Among (presets symbols p.settings) (24 + p.letter) x) (sym p.word_is) at) in
      rw p.statement_is (among_left _ _ a w moved)

  whole : (before : List Line) (l : Line) (st : IsLineAfter lines before l) → linked_words lines
      ≡ placed_from symbols first_counter before ++ (placed_by_line symbols (counter_after before) l.statement
      ++ placed_from symbols (after_statement l.statement (counter_after before)) st.after)
  whole before l st = search (rules, placed_append)

  -- a line after another one
  after_line : (before b after : List Line) (l m : Line) (st : IsLineAfter lines before l) → st.after ≡ b ++ m ∷ after
      → IsLineAfter lines (before ++ l ∷ b) m
  after_line before b after l m st e = record {
    after = after;
    lines_are = st.lines_are ∙ ap (λ x. before ++ l ∷ x) e
        ∙ sym (append_assoc before (l ∷ b) (m ∷ after));
  }

  -- what a later line places
  record Later (before : List Line) (l : Line) (st : IsLineAfter lines before l) (a w : ℕ) : Type 0 where
    pub b : List Line
    pub m : Line
    pub among : IsLineAfter st.after b m
    pub stands : IsLineAfter lines (before ++ l ∷ b) m
    pub kind : LinePlaces lines (before ++ l ∷ b) m a w ⊎ LineSets lines m a w

  later : (before : List Line) (l : Line) (st : IsLineAfter lines before l) (a w : ℕ)
      → Among (placed_from symbols (after_statement l.statement (counter_after before)) st.after) a w
      → Later before l st a w
  later before l st a w h =
      let r = of_a_line symbols _ st.after a w h in
      let counter = spot_append first_counter before (l ∷ r.0) in
      record {
        b = r.0;
        m = r.1;
        among = r.2;
        stands = after_line before r.0 r.2.after l r.1 st r.2.lines_are;
        kind = kinds _ r.1 a w (rw counter r.3);
      }

  -- a line's one word at a location is linked if no later line has a word there
  linked_once : {before : List Line} {l : Line} {a w : ℕ} (st : IsLineAfter lines before l)
      → Among (placed_by_line symbols (counter_after before) l.statement) a w
      → ((v : ℕ) → Later before l st a v → ⊥)
      → ((v : ℕ) → LinePlaces lines before l a v ⊎ LineSets lines l a v → v ≡ w) → linked_word lines a ≡ Some w
  linked_once {before} {l} {a} {w} st among none one =
      ap (λ x. placed_at (reverse x) a) (whole before l st)
      ∙ between (placed_from symbols first_counter before) _ _ a w (λ v h. none v (later before l st a v h)) among
      (λ v h. one v (kinds before l a v h))

  line_stands : (before : List Line) (l : Line) (a w : ℕ) → IsLineAfter lines before l
      → LinePlaces lines before l a w → linked_word lines a ≡ Some w
  line_stands before l a w st p = linked_once st (own_among before l a w p)
      (λ v r. elim r.kind [
        | inl q ↦
            let earlier : IsLineAfter (before ++ l ∷ r.b) before l = record { after = r.b; lines_are = refl } in
            faultless _ causes.Overlap (on_line r.stands
            (a, has_word _ r.m a v q, before, l, earlier, has_word before l a w p))
        | inr q ↦ apart st p q
      ])
      (λ v k. elim k [
        | inl q ↦
            let same : q.index ≡ p.index = omega (arith, q.place_is, p.place_is) in
            q.word_is ∙ ap (λ k. get_or (words_of_line symbols (counter_after before) l.statement) k 0) same
            ∙ sym p.word_is
        | inr q ↦ absurd (apart st p q)
      ])

  parameter_stands : (before : List Line) (l : Line) (a w : ℕ) (st : IsLineAfter lines before l)
      → LineSets lines l a w → IsLastSet lines st.after a → linked_word lines a ≡ Some w
  parameter_stands before l a w st p last = linked_once st (set_among (counter_after before) l a w p)
      (λ v r. elim r.kind [ inl q ↦ apart r.stands q p | inr q ↦ last r.b r.m v r.among q ])
      (λ v k. elim k [
        | inl q ↦ absurd (apart st q p)
        | inr q ↦
            let settings : q.settings ≡ p.settings = ap settings_of (sym q.statement_is ∙ p.statement_is) in
            let letter : q.letter ≡ p.letter = omega (arith, q.place_is, p.place_is) in
            let operand = same_Some _ _ (sym q.set ∙ (λ i. set_to (settings i) (letter i)) ∙ p.set) in
            q.word_is ∙ ap (λ o. 2 * operand_number symbols None o) operand ∙ sym p.word_is
      ])

  no_other : (a w : ℕ) → linked_word lines a ≡ Some w
      → (before : List Line) × (l : Line) × IsLineAfter lines before l
      × (LinePlaces lines before l a w ⊎ LineSets lines l a w)
  no_other a w e =
      let is = ap (λ x. placed_at x a) (append-nil (reverse (linked_words lines))) ∙ e in
      elim (found (linked_words lines) [] a) [
        | inl f ↦
            let same : f.0 ≡ w = same_Some _ _ (sym f.2 ∙ is) in
            let r = of_a_line symbols first_counter lines a w (rw (← same) f.1) in
            (r.0, r.1, r.2, kinds r.0 r.1 a w r.3)
        | inr f ↦ absurd (cc)
      ]

  in_store : (a w : ℕ) → linked_word lines a ≡ Some w → (44 ≤ a) × (a < locations z)
  in_store a w e =
      let r = no_other a w e in
      elim r.3 [
        | inl p ↦
            let h = high r.0 r.1 a w r.2 p in
            elim (cases_lt a (locations z)) [
              | inl g ↦ (omega (arith, h), g)
              | inr g ↦ absurd (faultless _ causes.StoreEnd (on_line r.2 (a, inl (has_word r.0 r.1 a w p), g)))
            ]
        | inr p ↦
            let place = p.place_is in
            (omega (arith, place, in_range p.letter p.is_letter), omega (arith, low r.1 a w p, locations_least z))
      ]

pub each_word_stands : EachWordStands
each_word_stands z lines faultless = record {
  stands = line_stands z lines faultless;
  sets = parameter_stands z lines faultless;
  only = no_other z lines faultless;
  within = in_store z lines faultless;
}
