-- The canonical spelling is a spelling.
use Rattle.ed_notation.proofs.Kit.{[], Bool, drop, false, length, List, nat_le, refl, true, ℕ, ◌++◌, ◌<◌, ◌∷◌, ◌≡◌, ◌≤◌}
use Rattle.ed_notation.proofs.Kit.{and_parts, le-leb, leb-false, leb-true, lt-ltb, ltb-true, append-nil, drop_all, ap}
use Rattle.ed_notation.proofs.Kit.{arith, sym, ◌∙◌, AreDigits, digits_number, ends, IsWritten, item, items, row_kind}
use Rattle.ed_notation.proofs.Kit.{rows_of, spelled_rows, Written, AreWritten, canonical, canonicals, digits_of}
use Rattle.ed_notation.proofs.Kit.{is_spellable, SpellsAll, Item, RowKind, Blank, Digit, Mark, Other}
use Rattle.std.proofs.lemmas.Bool.{and_from}
use Rattle.ed_notation.specs.Spellings.{NoLeadingZero, AreCanonical, AreSpellable, IsSpelling, SpellableIsSpelled}
use Rattle.ed_notation.proofs.Unique.{no_other}

-- the digits of a number, without a leading zero
pub record AreDigitsOf (n : ℕ) (ds : List ℕ) : Type 0 where
  pub digits : AreDigits ds
  pub number_is : digits_number 0 ds ≡ n
  pub no_zero : NoLeadingZero ds

by_tests : {n : ℕ} {a b c d e : Bool} → n ≤ 32767 → nat_le 10000 n ≡ a → nat_le 1000 n ≡ b → nat_le 100 n ≡ c
    → nat_le 10 n ≡ d → nat_le 1 n ≡ e → AreDigitsOf n (digits_of n)
by_tests {n} {a = true} h p q r s t =
    let p' = leb-true _ _ p in
    rw (p, le-leb 1000 n (omega arith), le-leb 100 n (omega arith), le-leb 10 n (omega arith), le-leb 1 n (omega arith))
    (omega (arith, p', h))
by_tests {n} {a = false} {b = true} h p q r s t =
    let q' = leb-true _ _ q in
    rw (p, q, le-leb 100 n (omega arith), le-leb 10 n (omega arith), le-leb 1 n (omega arith))
    (omega (arith, leb-false _ _ p, q'))
by_tests {n} {a = false} {b = false} {c = true} h p q r s t =
    let r' = leb-true _ _ r in
    rw (p, q, r, le-leb 10 n (omega arith), le-leb 1 n (omega arith)) (omega (arith, leb-false _ _ q, r'))
by_tests {n} {a = false} {b = false} {c = false} {d = true} h p q r s t =
    let s' = leb-true _ _ s in
    rw (p, q, r, s, le-leb 1 n (omega arith)) (omega (arith, leb-false _ _ r, s'))
by_tests {a = false} {b = false} {c = false} {d = false} {e = true} h p q r s t =
    rw (p, q, r, s, t) (omega (arith, leb-false _ _ s, leb-true _ _ t))
by_tests {a = false} {b = false} {c = false} {d = false} {e = false} h p q r s t =
    rw (p, q, r, s, t) (omega (arith, leb-false _ _ t))

-- the digits of a number are its digits
digits_are : (n : ℕ) → n ≤ 32767 → AreDigitsOf n (digits_of n)
digits_are n h = by_tests h refl refl refl refl refl

can_be : (i : Item) → is_spellable i ≡ true
    → (i.function < 32) × (i.number ≤ 32767) × (ends (row_kind i.end) (canonical i).begun ≡ true)
can_be i h =
    let all = and_parts _ _ h in
    let rest = and_parts _ _ all.1 in
    (ltb-true _ _ all.0, leb-true _ _ rest.0, rest.1)

-- the canonical spelling spells
pub is_written : (i : Item) → is_spellable i ≡ true → IsWritten (canonical i)
is_written i h =
    let c = can_be i h in
    let g = digits_are i.number c.1 in
    record {
      begun = record { function = c.0; digits = g.digits; fits = rw g.number_is c.1 };
      ended = c.2;
    }

-- and it spells its item
pub same_item : (i : Item) → is_spellable i ≡ true → item (canonical i) ≡ i
same_item i h =
    let g = (digits_are i.number (can_be i h).1).number_is in
    λ k. record { function = i.function; number = g k; mark = i.mark; end = i.end }

all_spelled : (is : List Item) → AreSpellable is
    → AreWritten (canonicals is) × (items (canonicals is) ≡ is) × AreCanonical (canonicals is)
all_spelled [] h = (tt, refl, tt)
all_spelled (i ∷ is) h =
    let r = all_spelled is h.1 in
    let x = same_item i h.0 in
    let y = r.1 in
    ((is_written i h.0, r.0), λ k. x k ∷ y k, ((digits_are i.number (can_be i h.0).1).no_zero, r.2))

pub are_written : (is : List Item) → AreSpellable is → AreWritten (canonicals is)
are_written is h = (all_spelled is h).0

-- the rows that the items' canonical spellings make
pub IsSpelling-canonicals : (is : List Item) → AreSpellable is → IsSpelling is (spelled_rows (canonicals is))
IsSpelling-canonicals is h =
    let r = all_spelled is h in
    let s : SpellsAll is (spelled_rows (canonicals is)) =
    record { written = canonicals is; good = r.0; items_are = r.1; rows_are = refl } in
    record { spells = s; canonical = r.2; only = λ js p. no_other js is (spelled_rows (canonicals is)) p s }

ends_canonical : (r : RowKind) (f : ℕ) (ds : List ℕ) (m : Bool)
    → ends r (record { function = f; digits = ds; mark = m }) ≡ true
    → ends r (record { function = f; digits = digits_of (digits_number 0 ds); mark = m }) ≡ true
ends_canonical Blank f [] m h = h
ends_canonical Blank f (d ∷ ds) m h = cc
ends_canonical Digit f ds m h = cc
ends_canonical Mark f ds m h = cc
ends_canonical Other f ds m h = cc
ends_canonical r f ds m h = refl

spelled_can_be : (w : Written) → IsWritten w → is_spellable (item w) ≡ true
spelled_can_be w good =
    let b = w.begun in
    let ended = ends_canonical _ _ b.digits b.mark good.ended in
    and_from _ _ (lt-ltb _ _ good.begun.function) (and_from _ _ (le-leb _ _ good.begun.fits) ended)

-- what can be spelled is what is spelled
pub spellable_law : (i : Item) → SpellableIsSpelled i
spellable_law i = record {
  spelled = λ h. (
    rows_of (canonical i),
    record { written = canonical i; good = is_written i h; item_is = same_item i h; rows_are = refl },
  );
  spellable = λ rows s. rw (← s.item_is) (spelled_can_be _ s.good);
}

-- after the last item
pub rest_none : (is : List Item) (rows : List ℕ) (k : ℕ) → length is ≤ k
    → rows ++ spelled_rows (canonicals (drop k is)) ≡ spelled_rows (canonicals is) → rows ≡ spelled_rows (canonicals is)
rest_none is rows k l h =
    sym (append-nil rows) ∙ ap (λ x. rows ++ spelled_rows (canonicals x)) (sym (drop_all k is l)) ∙ h
