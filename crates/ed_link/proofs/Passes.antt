-- Items one after the other, as the fold takes them from one state of the notation to the next.
use Rattle.ed_link.proofs.Kit.{sum_by, T_F, Size, AreSpellable, Item, [], ap, inl, List, refl, sym, ℕ, ◌*◌, ◌++◌, ◌+◌}
use Rattle.ed_link.proofs.Kit.{◌∙◌, ◌∷◌, ◌≤◌, NotationState, Does-aiming, head, item_cost}
use Rattle.std.proofs.lemmas.List.Sums.{sum_by-cons}
use Rattle.ed_notation.proofs.Steps.{Does, Reads, reads_none, reads_one, setting_theta}
use Rattle.ed_link.proofs.Costs.{EndsPlainly, item_cost_is}

-- items that go on, one after the other, each of which ends with K or a code letter
pub data Passes (z : Size) (words : List ℕ) : NotationState → List Item → NotationState → Type 0 where
  stays : {notation : NotationState} → Passes z words notation [] notation
  goes : {notation next last : NotationState} {i : Item} {is : List Item} → Does z words notation i next
      → EndsPlainly i.end
      → Passes z words next is last → Passes z words notation (i ∷ is) last

-- items, and then more items
pub Passes-join : {z : Size} {words : List ℕ} {notation mid last : NotationState} {is js : List Item}
    → Passes z words notation is mid
    → Passes z words mid js last → Passes z words notation (is ++ js) last
Passes-join stays q = q
Passes-join (goes d e p) q = goes d e (Passes-join p q)

-- the reader goes over them as the fold does, at their cost
pub Reads-taken : {z : Size} {words : List ℕ} {notation last : NotationState} {is : List Item}
    → Passes z words notation is last
    → AreSpellable is → Reads z words notation is last (sum_by item_cost is)
Reads-taken {z} {words} {notation} stays are = reads_none z words notation
Reads-taken {z} {words} {notation} {last} (goes {i = i} {is = is} d e p) are =
    rw (← (ap (λ k. k + sum_by item_cost is) (item_cost_is notation i e d.goes_on) ∙ sym (sum_by-cons item_cost i is)))
    (reads_one z words i are.0 d (Reads-taken p are.1))

-- the state between the words of a segment
abbrev pub at : ℕ → ℕ → List (ℕ × ℕ) → NotationState
at place base placed = record { directive = T_F + 2 * place; theta = 2 * base; placed = placed }

-- the head of a segment
pub Passes-heading : {z : Size} {words : List ℕ} {notation : NotationState} (p : ℕ) → p ≤ 1023
    → Passes z words notation (head p) (at p p notation.placed)
Passes-heading {z} {words} {notation} p h =
    let aimed : NotationState = record notation { directive = T_F + 2 * p } in
    goes (Does-aiming z words notation p h) (inl refl) (goes (setting_theta z words aimed p h refl) (inl refl) stays)
