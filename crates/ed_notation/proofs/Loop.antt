-- The loop of the check, one lemma a turn.
use Rattle.ed_notation.proofs.Kit.{[], Bool, drop, false, length, List, lit≤, None, Option, refl, replicate, Some, suc}
use Rattle.ed_notation.proofs.Kit.{true, ℕ, ◌+◌, ◌<◌, ◌∷◌, ◌≡◌, ◌≤◌, drop_all, Size, ap, arith, get_or, sym, ◌*◌, ◌∙◌}
use Rattle.ed_notation.proofs.Kit.{ArePlaces, Arrives, marks_of, IsFault, NotationState, over, row_kind, IsDirective}
use Rattle.ed_notation.proofs.Kit.{opening_with, entry_by, IsPartial, part_of, placed_by, reading_on, row_effect}
use Rattle.ed_notation.proofs.Kit.{set_by, setting_of, TapeCause, EndOfTape, DirectiveState, PartialItem, RowEffect}
use Rattle.ed_notation.proofs.Kit.{Ended, Entered, Longer, Placed, Refused}
use Rattle.std.proofs.Common.{drop-cons, slice_index, slice_set}
use Rattle.ed_notation.proofs.Directives.{IsEffectInRange, in_range}
use Rattle.ed_notation.proofs.Follow.{Reader, reads, follow, function_begins}
use Rattle.ed_notation.proofs.Laws.{faulty_is, arrived_well, arrived_comes}

-- what a check is given: the size and the words of a store, the state and the orders before the first row, and the rows
pub record Check : Type 0 where
  pub size : Size
  pub words : List ℕ
  pub start : NotationState
  pub base : ℕ
  pub rows : List ℕ

-- the reader of a check at a row
abbrev pub reader : Check → ℕ → ℕ → NotationState → Reader
reader k row cost notation = record { size = k.size; words = k.words; row = row; cost = cost; notation = notation }

-- the state of the notation that the loop holds as a setting, contents and marks
pub record Holds (words : List ℕ) (notation : NotationState) (setting : DirectiveState) (contents : List ℕ)
    (marks : List Bool) :
    Type 0 where
  pub setting_is : setting_of notation ≡ setting
  pub contents_are : over notation.placed words ≡ contents
  pub marks_are : marks_of notation.placed ≡ marks
  pub places : ArePlaces notation.placed

-- the loop at a row: the state of the notation there, from which the reader goes on
pub record StandsAt (k : Check) (row cost : ℕ) (setting : DirectiveState) (part : Option PartialItem)
    (contents : List ℕ)
    (marks : List Bool) : Type 0 where
  pub notation : NotationState
  pub same : reads (reader k 0 k.base k.start) None k.rows ≡ reads (reader k row cost notation) part (drop row k.rows)
  pub state : Holds k.words notation setting contents marks
  pub locations_are : length k.words ≡ 1024
  pub opened : IsDirective k.start.directive
  pub partial : IsPartial part
  pub cheap : cost ≤ k.base + 17 * row

pub StandsAt-began : {z : Size} {words : List ℕ} {directive theta base : ℕ} {rows : List ℕ} {marks : List Bool}
    → theta ≡ slice_index words 42 → length words ≡ 1024 → marks ≡ replicate 1024 false → IsDirective directive
    → StandsAt (record { size = z; words = words; start = opening_with directive words; base = base; rows = rows })
    0 base (record { directive = directive; theta = theta }) None words marks
StandsAt-began {words = words} {directive} t l m o = record {
  notation = opening_with directive words;
  same = refl;
  state = record {
    setting_is = λ i. record { directive = directive; theta = sym t i };
    contents_are = refl;
    marks_are = sym m;
    places = tt;
  };
  locations_are = l;
  opened = o;
  partial = tt;
  cheap = omega arith;
}

-- the rows that are left, by the first of them
pub next_row : (rows : List ℕ) (row c : ℕ) → row < length rows → c ≡ get_or rows row c
    → drop row rows ≡ c ∷ drop (row + 1) rows
next_row rows row c l e =
    let n : row + 1 ≡ suc row = omega arith in
    rw n (drop-cons rows row c l ∙ ap (λ x. x ∷ drop (suc row) rows) (sym e))

-- the loop after a row from which the reader goes on
after : {k : Check} {row cost : ℕ} {setting : DirectiveState} {part : Option PartialItem} {contents : List ℕ}
    {marks : List Bool} (a : StandsAt k row cost setting part contents marks) {n : ℕ} (notation : NotationState)
    {next : DirectiveState} {more : Option PartialItem} {words : List ℕ} {placed : List Bool}
    → reads (reader k row cost a.notation) part (drop row k.rows)
    ≡ reads (reader k (row + 1) (cost + n) notation) more (drop (row + 1) k.rows)
    → Holds k.words notation next words placed → IsPartial more → n ≤ 17
    → StandsAt k (row + 1) (cost + n) next more words placed
after a notation goes state partial few = record {
  notation = notation;
  same = a.same ∙ goes;
  state = state;
  locations_are = a.locations_are;
  opened = a.opened;
  partial = partial;
  cheap = omega (arith, a.cheap, few);
}

module _ {k : Check} {row cost : ℕ} {setting : DirectiveState} {contents : List ℕ} {marks : List Bool} {c : ℕ} where
  pub function_row : StandsAt k row cost setting None contents marks → row < length k.rows
      → c ≡ get_or k.rows row c → c < 32
      → StandsAt k (row + 1) (cost + 6) setting (Some (part_of c)) contents marks
  function_row a l e small = after a a.notation
      (ap (λ x. reads (reader k row cost a.notation) None x) (next_row k.rows row c l e) ∙ function_begins _ c _ small)
      a.state (lit≤ tt) (lit≤ tt)

  module _ (i : PartialItem) (a : StandsAt k row cost setting (Some i) contents marks) (l : row < length k.rows)
      (e : c ≡ get_or k.rows row c) where
    abbrev Row : RowEffect → Type 0
    Row t = t ≡ row_effect k.size (row_kind c) contents setting i c

    -- the numbers of what the row does are in range
    pub IsEffectInRange-taken : (t : RowEffect) → Row t → IsEffectInRange setting t
    IsEffectInRange-taken t h = rw h (in_range k.size setting i (row_kind c) contents c a.partial)

    abbrev here : Reader
    here = reader k row cost a.notation

    taken : (t : RowEffect) → Row t
        → reads here (Some i) (drop row k.rows) ≡ follow here i c (drop (row + 1) k.rows) t
    unfolding reading_on
    taken t h =
        let seen : row_effect k.size (row_kind c) (over a.notation.placed k.words) (setting_of a.notation) i c ≡ t =
        rw (a.state.contents_are, a.state.setting_is) (sym h) in
        ap (λ x. reads here (Some i) x) (next_row k.rows row c l e)
        ∙ ap (λ t. follow here i c (drop (row + 1) k.rows) t) seen

    pub StandsAt-longer : {j : PartialItem} {n : ℕ} → Row (Longer j n)
        → StandsAt k (row + 1) (cost + n) setting (Some j) contents marks
    StandsAt-longer h =
        let f = IsEffectInRange-taken _ h in after a a.notation (taken _ h) a.state f.0 f.1

    pub StandsAt-ended : {s : DirectiveState} {n : ℕ} → Row (Ended s n)
        → StandsAt k (row + 1) (cost + n) s None contents marks
    StandsAt-ended {s} h = after a (set_by s a.notation) (taken _ h) (record {
      setting_is = refl;
      contents_are = a.state.contents_are;
      marks_are = a.state.marks_are;
      places = a.state.places;
    }) tt (IsEffectInRange-taken _ h).1

    pub StandsAt-placed : {at word : ℕ} → Row (Placed at word)
        → StandsAt k (row + 1) (cost + 17) (record { directive = setting.directive + 2; theta = setting.theta }) None
        (slice_set contents at word) (slice_set marks at true)
    StandsAt-placed {at} {word} h = after a (placed_by at word a.notation) (taken _ h) (record {
      setting_is =
          ap (λ (s : DirectiveState). let x : DirectiveState =
          record { directive = s.directive + 2; theta = s.theta } in x)
          a.state.setting_is;
      contents_are = ap (λ x. slice_set x at word) a.state.contents_are;
      marks_are = ap (λ x. slice_set x at true) a.state.marks_are;
      places = ((IsEffectInRange-taken _ h).1, a.state.places);
    }) tt (lit≤ tt)

    pub IsFault-refused : {cause : TapeCause} → Row (Refused cause) → IsFault k.size k.words k.start k.rows row cause
    IsFault-refused {cause} h =
        faulty_is k.size k.words k.start k.base k.rows a.opened (a.same ∙ taken (Refused cause) h)

    pub Arrives-entered : {at : ℕ} → Row (Entered at)
        → Arrives k.size k.words k.start k.base k.rows (record {
          entry = at;
          orders = cost + 13;
          rows = row + 1;
          theta = setting.theta;
        })
        contents marks
    Arrives-entered {at} h =
        let q = a.same ∙ taken (Entered at) h in
        record {
          well = arrived_well k.size k.words k.start k.base k.rows a.opened q;
          entry = entry_by k.words row cost a.notation i c (drop (row + 1) k.rows) at;
          comes = arrived_comes k.size k.words k.start k.base k.rows a.opened q;
          entry_is = refl;
          orders_are = refl;
          rows_are = refl;
          theta_is = ap (λ (s : DirectiveState). s.theta) (sym a.state.setting_is);
          contents_are = sym a.state.contents_are;
          marks_are = sym a.state.marks_are;
          places = a.state.places;
          locations_are = a.locations_are;
        }

-- the loop at a row, with what it holds written in another way
pub StandsAt-written : {k : Check} {row cost cost' : ℕ} {setting setting' : DirectiveState}
    {part part' : Option PartialItem}
    {contents contents' : List ℕ} {marks marks' : List Bool}
    → cost ≡ cost' → setting ≡ setting' → part ≡ part' → contents ≡ contents' → marks ≡ marks'
    → StandsAt k row cost' setting' part' contents' marks' → StandsAt k row cost setting part contents marks
StandsAt-written a b c d e stands = rw (a, b, c, d, e) stands

-- at the end of the rows
pub at_end : {k : Check} {row cost : ℕ} {setting : DirectiveState} {part : Option PartialItem} {contents : List ℕ}
    {marks : List Bool}
    → StandsAt k row cost setting part contents marks → row ≡ length k.rows
    → IsFault k.size k.words k.start k.rows (length k.rows) EndOfTape
unfolding reading_on
at_end {k} {row} {cost} {part = part} a l =
    let d : drop row k.rows ≡ [] = drop_all row k.rows (omega (arith, l)) in
    let q = a.same ∙ ap (λ x. reads (reader k row cost a.notation) part x) d in
    rw (← l) (faulty_is k.size k.words k.start k.base k.rows a.opened q)
