-- The test of the extents before a line, and the cause that two tests give, or leave to the tests after them.
use Rattle.ed_link.proofs.Kit.{Bool, if◌then◌else◌, List, None, Option, Some, ◌∙◌, ◌≡◌, list_any, overlaps, Extent}
use Rattle.ed_link.proofs.Kit.{arith, extent, SourceCause, ℕ}
use Rattle.ed_lines.specs.declared.fault.SourceCause.TheVariants as causes

-- the test of the extents before a line, by the extent and the list that the code has
pub list_any-overlaps : {t : Bool} {a b : Extent} {xs ys : List Extent} → t ≡ list_any (λ o. overlaps a o) xs → a ≡ b
    → xs ≡ ys
    → t ≡ list_any (λ o. overlaps b o) ys
list_any-overlaps h e f = h ∙ (λ i. list_any (λ o. overlaps (e i) o) (f i))

-- the cause that one of two tests gives
pub if_else-some : {A : Type 0} (t u : Bool) (a b x : A) (y : Option A)
    → ◌≡◌ {A = Option A} (Some x) (if t then Some a else if u then Some b else None)
    → ◌≡◌ {A = Option A} (Some x) (if t then Some a else if u then Some b else y)
if_else-some t u a b x y e = grind arith

-- no test gives a cause
pub if_else-none : {A : Type 0} (t u : Bool) (a b : A) (y : Option A) {z : Option A}
    → ◌≡◌ {A = Option A} None (if t then Some a else if u then Some b else None) → z ≡ y
    → z ≡ (if t then Some a else if u then Some b else y)
if_else-none t u a b y e f = grind arith

-- the cause that the first five tests of a line give, or leave to those after them
abbrev pub first_cause : (outside loader low end overlap : Bool) → Option SourceCause → Option SourceCause
first_cause outside loader low end overlap rest =
    if outside then Some causes.OutsideSegment else if loader then Some causes.LoaderStore
    else if low then Some causes.ParameterStore else if end then Some causes.StoreEnd
    else if overlap then Some causes.Overlap else rest

-- the same by what the code has
pub first_cause-same : {o o' l p e v v' : Bool} {a b : Extent} {m n : ℕ} {rest rest' : Option SourceCause} → o ≡ o'
    → a ≡ b → l ≡ overlaps a (extent 0 44) → p ≡ overlaps a (extent 44 56) → m ≡ n
    → e ≡ overlaps a (extent m a.after) → v ≡ v' → rest ≡ rest'
    → first_cause o l p e v rest
    ≡ first_cause o' (overlaps b (extent 0 44)) (overlaps b (extent 44 56)) (overlaps b (extent n b.after)) v' rest'
first_cause-same o r l p m e v rest =
    let loader = l ∙ (λ i. overlaps (r i) (extent 0 44)) in
    let low = p ∙ (λ i. overlaps (r i) (extent 44 56)) in
    let end = e ∙ (λ i. overlaps (r i) (extent (m i) (r i).after)) in
    λ i. first_cause (o i) (loader i) (low i) (end i) (v i) (rest i)
