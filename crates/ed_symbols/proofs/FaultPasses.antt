-- A pass over the lines finds the first line that has a fault of its kind.
use Rattle.ed_symbols.proofs.Kit.{SourceCause, SourceFault, At, Memory, Line, [], append_assoc, arith, inl, inr}
use Rattle.ed_symbols.proofs.Kit.{length, length-append, List, None, Option, Some, subst, sym, ℕ, ◌++◌, ◌+◌, ◌<◌, ◌∙◌}
use Rattle.ed_symbols.proofs.Kit.{◌∷◌, ◌≡◌, ◌≤◌, ◌⊎◌, append-nil, number_of, IsLineAfter, or_later, rules}
use Rattle.ed_symbols.proofs.LeastFaults.{Least}

-- what a pass finds that tests each line by the lines before it
abbrev pub first : (List Line → Line → Option SourceCause) → List Line → List Line → Option SourceFault
first ask before [] = None
first ask before (l ∷ rest) = or_later l.number (ask before l) (first ask (before ++ l ∷ []) rest)

-- the lines have their numbers, counted from 1
abbrev pub Numbered : List Line → Type 0
Numbered lines = (before : List Line) (l : Line) → IsLineAfter lines before l → l.number ≡ length before + 1

-- the first line with a fault of the rule's kind
abbrev pub Finds : (List Line → Line → SourceCause → Type 0) → List Line → Option SourceFault → Type 0
Finds Rule lines None = (b : List Line) (l : Line) (c : SourceCause) → IsLineAfter lines b l → Rule b l c → ⊥
Finds Rule lines (Some Memory) = ⊥
Finds Rule lines (Some (At k cause)) =
    ((b : List Line) × (l : Line) × IsLineAfter lines b l × (k ≡ length b + 1) × Rule b l cause)
    × ((b : List Line) (l : Line) (c : SourceCause) → IsLineAfter lines b l → Rule b l c
    → (k < length b + 1) ⊎ ((k ≡ length b + 1) × (number_of cause ≤ number_of c)))

head_same : (l m : Line) (r q : List Line) → (l ∷ r) ≡ (m ∷ q) → l ≡ m
head_same l m r q e = cc

tail_same : (l m : Line) (r q : List Line) → (l ∷ r) ≡ (m ∷ q) → r ≡ q
tail_same l m r q e = cc

-- there is one line at one position of a source
one_place : (P : List Line → Line → Type 0) (a b : List Line) (l m : Line) (r q : List Line)
    → (a ++ l ∷ r) ≡ (b ++ m ∷ q) → length a ≡ length b → P a l → P b m
one_place P [] [] l m r q e n p = subst (P []) (head_same l m r q e) p
one_place P (x ∷ a) (y ∷ b) l m r q e n p =
    one_place (λ c k. P (y ∷ c) k) a b l m r q (tail_same x y _ _ e) (omega (arith, n))
    (rw (← (head_same x y _ _ e)) p)
one_place P a b l m r q e n p = absurd (omega (arith, n))

module _ (ask : List Line → Line → Option SourceCause) (Rule : List Line → Line → SourceCause → Type 0)
    (lines : List Line) (numbered : Numbered lines) (asks : (b : List Line) (l : Line) → Least (Rule b l) (ask b l))
  where
    -- none of the first lines has a fault
    abbrev Clear : ℕ → Type 0
    Clear n = (b : List Line) (l : Line) (c : SourceCause) → IsLineAfter lines b l → Rule b l c → n ≤ length b

    at_end : (before : List Line) → lines ≡ before ++ [] → Clear (length before) → Finds Rule lines None
    at_end before e clear = search (rules, length-append, append-nil)

    pub Finds-first : (before rest : List Line) → lines ≡ before ++ rest → Clear (length before)
        → Finds Rule lines (first ask before rest)
    Finds-first before [] e clear = at_end before e clear
    Finds-first before (x ∷ rest) e clear =
        by_answer (ask before x) (asks before x)
        (λ none. Finds-first _ rest (e ∙ sym (append_assoc before (x ∷ []) rest)) none)
      where
        stands : IsLineAfter lines before x
        stands = record { after = rest; lines_are = e }

        number : x.number ≡ length before + 1
        number = numbered before x stands

        here : (b : List Line) (l : Line) (c : SourceCause) → IsLineAfter lines b l → length b ≡ length before
            → Rule b l c → Rule before x c
        here b l c st n h = one_place (λ d k. Rule d k c) b before l x st.after rest (sym st.lines_are ∙ e) n h

        longer : length (before ++ x ∷ []) ≡ length before + 1
        longer = length-append before (x ∷ [])

        by_answer : (o : Option SourceCause) → Least (Rule before x) o
            → (Clear (length (before ++ x ∷ [])) → Finds Rule lines (first ask (before ++ x ∷ []) rest))
            → Finds Rule lines (or_later x.number o (first ask (before ++ x ∷ []) rest))
        by_answer None least more = more above
          where
            above : Clear (length (before ++ x ∷ []))
            above b l c st h =
                let g = clear b l c st h in
                let k : length b ≡ length before → ⊥ = λ n. least c (here b l c st n h) in
                omega (arith, g, k, longer)
        by_answer (Some cause) least more = (
          (before, x, stands, number, least.0),
          λ b l c st h. compare b l c st h (clear b l c st h),
        )
          where
            same : (b : List Line) (l : Line) (c : SourceCause) → IsLineAfter lines b l → Rule b l c
                → length b ≡ length before → number_of cause ≤ number_of c
            same b l c st h n = least.1 c (here b l c st n h)

            split : (n m : ℕ) → n ≤ m → (n < m) ⊎ (n ≡ m)
            split n m h = grind arith

            compare : (b : List Line) (l : Line) (c : SourceCause) → IsLineAfter lines b l → Rule b l c
                → length before ≤ length b
                → (x.number < length b + 1) ⊎ ((x.number ≡ length b + 1) × (number_of cause ≤ number_of c))
            compare b l c st h g = elim (split (length before) (length b) g) [
              | inl k ↦ inl (omega (arith, k, number))
              | inr k ↦ inr (omega (arith, k, number), same b l c st h (sym k))
            ]
