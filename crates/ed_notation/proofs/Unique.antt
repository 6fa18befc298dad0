-- No spelling of an item is the beginning of a spelling of another item.
use Rattle.ed_notation.proofs.Kit.{[], append_assoc, Bool, false, List, refl, true, ℕ, ◌++◌, ◌∷◌, ◌≡◌, ◌≤◌, append-nil}
use Rattle.ed_notation.proofs.Kit.{ap, arith, sym, ◌∙◌, AreDigits, begun_rows, IsWritten, item, mark_rows, rows_of}
use Rattle.ed_notation.proofs.Kit.{spelled_rows, Written, AreWritten, SpellsAll, Item, rules}
use Rattle.ed_notation.specs.Spellings.{NoSpellingBeginsAnother}
use Rattle.ed_notation.proofs.Tests.{end_range}

head_same : {a b : ℕ} {xs ys : List ℕ} → a ∷ xs ≡ b ∷ ys → a ≡ b
head_same e = cc

tail_same : {a b : ℕ} {xs ys : List ℕ} → a ∷ xs ≡ b ∷ ys → xs ≡ ys
tail_same e = cc

-- the rows after a function row
tails : {ds ds' : List ℕ} {m m' : Bool} {e e' : ℕ} {a a' : List ℕ} → AreDigits ds → AreDigits ds' → 13 ≤ e → 13 ≤ e'
    → ds ++ (mark_rows m ++ (e ∷ a)) ≡ ds' ++ (mark_rows m' ++ (e' ∷ a')) → (ds ≡ ds') × (m ≡ m') × (e ≡ e') × (a ≡ a')
tails {ds = []} {ds' = []} {m = true} {m' = true} p q h k x = search (rules, tail_same, head_same)
tails {ds = []} {ds' = []} {m = true} {m' = false} p q h k x = absurd (omega (arith, k, head_same x))
tails {ds = []} {ds' = []} {m = false} {m' = true} p q h k x = absurd (omega (arith, h, head_same x))
tails {ds = []} {ds' = []} {m = false} {m' = false} p q h k x = search (rules, head_same, tail_same)
tails {ds = []} {ds' = (d ∷ ds')} {m = true} p q h k x = absurd (omega (arith, q.0, head_same x))
tails {ds = []} {ds' = (d ∷ ds')} {m = false} p q h k x = absurd (omega (arith, q.0, h, head_same x))
tails {ds = (d ∷ ds)} {ds' = []} {m' = true} p q h k x = absurd (omega (arith, p.0, head_same x))
tails {ds = (d ∷ ds)} {ds' = []} {m' = false} p q h k x = absurd (omega (arith, p.0, k, head_same x))
tails {ds = (d ∷ ds)} {ds' = (d' ∷ ds')} p q h k x =
    let r = tails p.1 q.1 h k (tail_same x) in
    let y = head_same x in
    (λ i. y i ∷ r.0 i, r.1, r.2, r.3)

apart : (w : Written) (a : List ℕ)
    → rows_of w ++ a ≡ w.begun.function ∷ (w.begun.digits ++ (mark_rows w.begun.mark ++ (w.end ∷ a)))
apart w a =
    append_assoc (begun_rows w.begun) (w.end ∷ []) a ∙ ap (λ x. w.begun.function ∷ x) (append_assoc _ _ (w.end ∷ a))

-- the item that the first rows spell is one item
one_item : (v w : Written) (a b : List ℕ) → IsWritten v → IsWritten w → rows_of v ++ a ≡ rows_of w ++ b
    → (v ≡ w) × (a ≡ b)
one_item v w a b p q e =
    let x = sym (apart v a) ∙ e ∙ apart w b in
    let f = head_same x in
    let h = (end_range v.begun v.end p.ended).0 in
    let k = (end_range w.begun w.end q.ended).0 in
    let r = tails p.begun.digits q.begun.digits h k (tail_same x) in
    (λ i. record { begun = record { function = f i; digits = r.0 i; mark = r.1 i }; end = r.2 i }, r.3)

-- the law
pub none_begins : NoSpellingBeginsAnother
none_begins i j rows more p q =
    let e = ap (λ x. x ++ more) p.rows_are ∙ sym q.rows_are ∙ sym (append-nil _) in
    let r = one_item _ _ more [] p.good q.good e in
    (sym p.item_is ∙ ap item r.0 ∙ q.item_is, r.1)

one_list : (vs ws : List Written) → AreWritten vs → AreWritten ws → spelled_rows vs ≡ spelled_rows ws → vs ≡ ws
one_list [] [] p q e = refl
one_list [] (w ∷ ws) p q e = cc
one_list (v ∷ vs) [] p q e = cc
one_list (v ∷ vs) (w ∷ ws) p q e =
    let r = one_item v w _ _ p.0 q.0 e in
    let x = r.0 in
    let y = one_list vs ws p.1 q.1 r.1 in
    cc

-- the rows spell no other list of items
pub no_other : (is js : List Item) (rows : List ℕ) → SpellsAll is rows → SpellsAll js rows → is ≡ js
no_other is js rows p q = search (rules, one_list)
