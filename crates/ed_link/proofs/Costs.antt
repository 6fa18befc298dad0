-- What the items of a punched tape cost in the notation is what they are said to cost.
use Rattle.ed_link.proofs.Kit.{rules, Item, Letter, false, true, ℕ, ◌≡◌, ◌⊎◌}
use Rattle.ed_link.proofs.Kit.{cost_of, is_entry, NotationState, row_kind, canonical, item_with, item_cost}

-- an item ends with K or with a code letter
abbrev pub EndsPlainly : ℕ → Type 0
EndsPlainly end = (end ≡ 14) ⊎ (row_kind end ≡ Letter)

-- an item that doesn't enter
pub item_cost_is : (notation : NotationState) (i : Item) → EndsPlainly i.end → is_entry notation i ≡ false
    → cost_of notation (canonical i) ≡ item_cost i
item_cost_is notation i end on = search rules

-- the item that enters, P F
pub entry_cost_is : (notation : NotationState) → is_entry notation (item_with 0 0 false 17) ≡ true
    → cost_of notation (canonical (item_with 0 0 false 17)) ≡ 19
entry_cost_is notation enters = search rules
