-- What a loop has made of a list when it is through, which names are reported, and the items of `enter` and of `use`.
use Rattle.ed_link.proofs.Kit.{append-nil, Item, [], ap, append_assoc, arith, drop}
use Rattle.ed_link.proofs.Kit.{length, List, lit≤, nat_lt, None, Option, refl, Some}
use Rattle.ed_link.proofs.Kit.{false, sym, true, unwrap_or, ℕ, ◌++◌, ◌+◌, ◌<◌, ◌∙◌, ◌∷◌, ◌≡◌, ◌≤◌}
use Rattle.ed_link.proofs.Kit.{flat_map, Setting, Statement, Enter, Fetch}
use Rattle.ed_link.proofs.Kit.{map, nat_tests, entry, find, table_item, TableRow, place_on, even_from}
use Rattle.ed_link.proofs.Kit.{routine_places, LocationCounter, Definition, extent_at, reach, label_of}
use Rattle.ed_link.proofs.Kit.{entered_place, parameter_letters, set_to, head}
use Rattle.ed_link.proofs.Kit.{item_with, preset_items, use_items, with_heading}
use Rattle.std.proofs.lemmas.List.{at_drop_all}
use Rattle.ed_symbols.specs.Names.{is_local}

-- all is given after the last element
pub all_given : {A B : Type 0} {whole : List B} (give : List A → List B) (xs : List A) (i : ℕ) (done : List B)
    → length xs ≤ i → give [] ≡ [] → done ++ give (drop i xs) ≡ whole → done ≡ whole
all_given {A} {B} give xs i done past none before =
    sym (append-nil done) ∙ ap (λ (ys : List B). done ++ ys) (sym (at_drop_all give xs i past ∙ none)) ∙ before

-- a name that is reported
pub label_of-shown : (h : Definition) → is_local h.name ≡ false → h.place ≤ 1023
    → label_of h ≡ record { name = h.name; place = h.place } ∷ []
label_of-shown h own near = rw (own, under h.place near) refl
  where
    under : (x : ℕ) → x ≤ 1023 → nat_lt 1023 x ≡ false
    under x near = grind (arith, nat_tests)

-- a name that isn't, since it is local
pub label_of-hidden : (h : Definition) → is_local h.name ≡ true → label_of h ≡ []
label_of-hidden h own = rw own refl

-- a name that isn't, since it is too far
pub hidden_far : (h : Definition) → is_local h.name ≡ false → 1023 < h.place → label_of h ≡ []
hidden_far h own far = rw (own, over h.place far) refl
  where
    over : (x : ℕ) → 1023 < x → nat_lt 1023 x ≡ true
    over x far = grind (arith, nat_tests)

-- the base of a `use` of a routine with a word is within the store
pub use_base : {base : ℕ} (symbols : List Definition) (s : LocationCounter) {st : Option Statement}
    {routine : _} {name : _} {ts : _} → st ≡ Some (Fetch routine name ts)
    → ((reach symbols st s).from < (reach symbols st s).after → (reach symbols st s).after ≤ 1024)
    → base ≡ even_from s.place → 0 < routine_places (find routine) → base ≤ 32767
use_base symbols s {routine = routine} is fits at holds = of (even_from s.place) _ (rw is at fits) at holds
  where
    of : {base : ℕ} (even n : ℕ) → (even < even + n → even + n ≤ 1024) → base ≡ even → 0 < n → base ≤ 32767
    of even n fits at holds = omega arith

-- the items of an `enter`
pub entered : {first second : List Item} {a b : Item} {n p : ℕ} (done : List Item)
    → first ≡ done ++ a ∷ [] → second ≡ first ++ b ∷ [] → a ≡ item_with 3 n false 14 → n ≡ p
    → b ≡ item_with 0 0 false 17 → second ≡ done ++ (item_with 3 p false 14 ∷ item_with 0 0 false 17 ∷ [])
entered {b = b} done p q x k y =
    q ∙ ap (λ (is : List Item). is ++ b ∷ []) p ∙ append_assoc done (_ ∷ []) (b ∷ [])
    ∙ (λ i. done ++ (x ∙ ap (λ (e : ℕ). item_with 3 e false 14) k) i ∷ y i ∷ [])

-- the location that an `enter` names is within the store
pub entry_fits : (symbols : List Definition) (s : LocationCounter) (st : Option Statement)
    → ((reach symbols st s).from < (reach symbols st s).after → (reach symbols st s).after ≤ 1024)
    → entered_place symbols st 0 ≤ 32767
entry_fits symbols s (Some (Enter name)) fits = of (place_on symbols None name) fits
  where
    of : (found : Option ℕ) → ((extent_at found).from < (extent_at found).after → (extent_at found).after ≤ 1024)
        → unwrap_or found 0 ≤ 32767
    of None fits = lit≤ tt
    of (Some p) fits = omega arith
entry_fits symbols s st fits = lit≤ tt

-- the items of a `use`
pub used : {presets headed given : List Item} (symbols : List Definition) (ts : List Setting) (base : ℕ)
    (found : Option ℕ) (r : ℕ) (done : List Item)
    → found ≡ Some r → 0 < length (entry r).items
    → presets ≡ done ++ flat_map (λ c. preset_items symbols (set_to ts c) c) parameter_letters
    → headed ≡ presets ++ head base → given ≡ headed ++ map table_item (entry r).items
    → given ≡ done ++ use_items symbols ts base found
used symbols ts base found r done is some first second third =
    let p = flat_map (λ c. preset_items symbols (set_to ts c) c) parameter_letters in
    let m = map table_item (entry r).items in
    third ∙ ap (λ (xs : List Item). xs ++ m) (second ∙ ap (λ (xs : List Item). xs ++ head base) first)
    ∙ append_assoc (done ++ p) (head base) m ∙ append_assoc done p _
    ∙ ap (λ (xs : List Item). done ++ (p ++ xs)) (of (entry r).items some)
    ∙ ap (λ (x : Option ℕ). done ++ use_items symbols ts base x) (sym is)
  where
    of : (rows : List TableRow) → 0 < length rows
        → head base ++ map table_item rows ≡ with_heading (map table_item rows) true base
    of [] some = absurd (omega arith)
    of (row ∷ rows) some = refl

-- the items of a `use` of a name that isn't in the catalogue
pub unused : {presets : List Item} (symbols : List Definition) (ts : List Setting) (base : ℕ) (found : Option ℕ)
    (done : List Item)
    → found ≡ None → presets ≡ done ++ flat_map (λ c. preset_items symbols (set_to ts c) c) parameter_letters
    → presets ≡ done ++ use_items symbols ts base found
unused symbols ts base found done is first =
    let p = flat_map (λ c. preset_items symbols (set_to ts c) c) parameter_letters in
    first ∙ ap (λ (xs : List Item). done ++ xs) (sym (append-nil p))
    ∙ ap (λ (x : Option ℕ). done ++ use_items symbols ts base x) (sym is)
