-- The items of a line without a fault can be spelled.
use Rattle.ed_link.proofs.Kit.{Size, AreSpellable, Item, [], arith, Bool, false, if◌then◌else◌, List, nat_le, nat_lt}
use Rattle.ed_link.proofs.Kit.{None, Option, refl, Some, true, ℕ, ◌%◌, ◌*◌, ◌++◌, ◌/◌, ◌<◌, ◌∷◌, ◌≡◌, ◌≤◌, flat_map}
use Rattle.ed_link.proofs.Kit.{list_all, and_parts, leb-true, ltb-true, locations_most, row_kind, canonical}
use Rattle.ed_link.proofs.Kit.{is_spellable, Operand, Setting, Statement, Enter, Fetch, Long, Number, Order, Text}
use Rattle.ed_link.proofs.Kit.{map, ◌^◌, nat_tests, catalogue, entry, is_ready, is_ready_row, find, table_item}
use Rattle.ed_link.proofs.Kit.{TableRow, LocationCounter, Definition, parameter_letters, set_to, item_with, items_of}
use Rattle.ed_link.proofs.Kit.{order_item, preset_items, routine_items, use_items, with_heading, word_item}
use Rattle.ed_lines.proofs.Kit.{ℤ}
use Rattle.ed_notation.specs.Items.{ends}
use Rattle.ed_lines.proofs.Meaning.{IsStatement}
use Rattle.ed_link.specs.Linked.{order_number}
use Rattle.ed_link.proofs.Closed.{rows_are_ready}
use Rattle.ed_link.proofs.Lines.{IsSound, IsUse}
use Rattle.ed_link.proofs.Kit.{nat_eq, segment_at, operand_number, goes_by_theta, rules}
use Rattle.ed_symbols.specs.Operands.{operand_value}

spelled : (f n e : ℕ) (mark : Bool) → f < 32 → n ≤ 32767
    → ends (row_kind e) (canonical (item_with f n mark e)).begun ≡ true
    → is_spellable (item_with f n mark e) ≡ true
spelled f n e mark low few ended = rw ended (grind (arith, nat_tests))

pub AreSpellable-joined : (is js : List Item) → AreSpellable is → AreSpellable js → AreSpellable (is ++ js)
AreSpellable-joined [] js p q = q
AreSpellable-joined (i ∷ is) js p q = (p.0, AreSpellable-joined is js p.1 q)

headed_spelled : (is : List Item) (first : Bool) (base : ℕ) → base ≤ 32767 → AreSpellable is
    → AreSpellable (with_heading is first base)
headed_spelled is first base few are = grind arith

-- ---- words

word_spelled : (w : ℕ) → w < 2 ^ 17 → is_spellable (word_item w) ≡ true
word_spelled w fits = grind (arith, nat_tests)

text_spelled : (codes : List ℕ) → list_all (λ c. nat_lt c 32) codes ≡ true
    → AreSpellable (map word_item (map (λ c. 4096 * c) codes))
text_spelled [] h = tt
text_spelled (c ∷ codes) h = search (rules, ltb-true, word_spelled, text_spelled codes)

long_spelled : (odd : Bool) (v : ℕ) → v < 2 ^ 35
    → AreSpellable (map word_item ((if odd then 0 ∷ [] else []) ++ v % 2 ^ 17 ∷ v / 2 ^ 18 ∷ []))
long_spelled odd v fits = search rules

-- ---- orders and parameters

-- the number of a value is one that an order holds
number_few : (o : Option ℤ) → order_number o ≤ 32767
number_few o = grind arith

order_spelled : (theta : Bool) (base f n : ℕ) (long : Bool) → f < 32 → n ≤ 32767
    → is_spellable (order_item theta base f n long) ≡ true
order_spelled theta base f n long low few = search rules

preset_spelled : (symbols : List Definition) (o : Option Operand) (c : ℕ) → c ≤ 26
    → AreSpellable (preset_items symbols o c)
preset_spelled symbols o c h = grind arith

presets_spelled : (symbols : List Definition) (ts : List Setting) (cs : List ℕ) → list_all (λ c. nat_le c 26) cs ≡ true
    → AreSpellable (flat_map (λ c. preset_items symbols (set_to ts c) c) cs)
presets_spelled symbols ts [] h = tt
presets_spelled symbols ts (c ∷ cs) h =
    search (rules, AreSpellable-joined, preset_spelled, leb-true, presets_spelled symbols ts cs)

-- ---- routines

rows_spelled : (own : List ℕ) (rows : List TableRow) → list_all (is_ready_row own) rows ≡ true
    → AreSpellable (map table_item rows)
rows_spelled own [] h = tt
rows_spelled own (row ∷ rows) h = search (rules, and_parts, rows_spelled own rows)

routine_spelled : list_all is_ready catalogue ≡ true
    → (z : Size) (ts : List Setting) (base : ℕ) (text : List ℕ) (found : Option ℕ) → find text ≡ found
    → IsUse z ts base found → (base ≤ 32767) × AreSpellable (routine_items found)
routine_spelled tables z ts base text None e held = absurd held
routine_spelled tables z ts base text (Some r) e held =
    let m = locations_most z in
    let few = held.2 in
    (omega (arith, m, few), rows_spelled (entry r).parameters (entry r).items (rows_are_ready tables text r e))

use_spelled : (symbols : List Definition) (ts : List Setting) (base : ℕ) (found : Option ℕ)
    → (base ≤ 32767) × AreSpellable (routine_items found) → AreSpellable (use_items symbols ts base found)
use_spelled symbols ts base found r =
    AreSpellable-joined _ _ (presets_spelled symbols ts parameter_letters refl) (headed_spelled _ true base r.0 r.1)

-- ---- lines

-- a line other than an `enter` line, in a segment that begins at its location or below
pub line_spelled : list_all is_ready catalogue ≡ true
    → (z : Size) (symbols : List Definition) (s : LocationCounter) (st : Option Statement)
    → ((x : Statement) → st ≡ Some x → (two : Bool) × IsStatement two x) → IsSound z s st → s.base ≤ s.place
    → AreSpellable (items_of symbols s st)
line_spelled tables z symbols s (Some (Enter name)) formed sound base = absurd sound
line_spelled tables z symbols s (Some (Fetch routine name ts)) formed sound base =
    use_spelled symbols ts.items _ _ (routine_spelled tables z ts.items _ routine _ refl sound)
line_spelled tables z symbols s (Some (Order f o long)) formed sound base =
    let fact = (formed (Order f o long) refl).1 in
    let m = locations_most z in
    let theta = goes_by_theta symbols s o in
    let n = operand_number symbols (segment_at s) o in
    headed_spelled (order_item theta s.base f n long ∷ []) (nat_eq s.place s.base) s.base
    (omega (arith, m, base, sound.1))
    (order_spelled theta s.base f n long fact.0 (number_few (operand_value symbols (segment_at s) o)), tt)
line_spelled tables z symbols s (Some (Number w)) formed sound base =
    let fact = (formed (Number w) refl).1 in
    let m = locations_most z in
    headed_spelled (word_item w ∷ []) (nat_eq s.place s.base) s.base (omega (arith, m, base, sound.1))
    (word_spelled w fact, tt)
line_spelled tables z symbols s (Some (Text codes)) formed sound base =
    let fact = (formed (Text codes) refl).1 in
    let m = locations_most z in
    headed_spelled _ _ s.base (omega (arith, m, base, sound.2)) (text_spelled codes.items fact.1)
line_spelled tables z symbols s (Some (Long v)) formed sound base =
    let fact = (formed (Long v) refl).1 in
    let m = locations_most z in
    headed_spelled _ _ s.base (omega (arith, m, base, sound.1)) (long_spelled _ v fact.1)
line_spelled tables z symbols s st formed sound base = tt

-- the item that aims an `enter`
pub aiming_spelled : (place : ℕ) → place ≤ 32767 → AreSpellable (item_with 3 place false 14 ∷ [])
aiming_spelled place few = (spelled 3 place 14 false (omega arith) few refl, tt)
