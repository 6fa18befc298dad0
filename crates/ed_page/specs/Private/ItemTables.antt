-- The plain program that reads rows into the table of items, from a state of the notation over one store.
use Rattle.std.specs.Prelude.{◌≡◌, ℕ, ◌+◌, ◌*◌, ◌^◌, ◌%◌, ◌≤◌, Bool, true, false, Option, Some, None, List, [], ◌∷◌}
use Rattle.std.specs.Prelude.{◌++◌, if◌then◌else◌, nat_eq, nat_lt}
use Rattle.ed_words.specs.Words.{digit}
use Rattle.ed_store.specs.Cells.{Cells, cleared_cells, with_short}
use Rattle.ed_notation.specs.declared.item.Item.{Item}
use Rattle.ed_notation.specs.declared.kind.RowKind.{RowKind}
use Rattle.ed_notation.specs.declared.kind.RowKind.TheVariants.{Digit, Zed, Kay, Blank, Letter}
use Rattle.ed_notation.specs.Fold.{NotationState, act}
use Rattle.ed_notation.specs.Items.{row_kind}
use Rattle.ed_page.specs.TapeItems.{item_line, placing}
use Rattle.ed_page.specs.declared.items.Notation.{Notation}
use Rattle.ed_page.specs.declared.items.OpenItem.{OpenItem}

-- an item whose function row alone has been read
abbrev pub item_at : (row function : ℕ) → OpenItem
item_at row f = record { first = row; function = f; number = 0; mark = false }

-- an item with one more row that does not end it; a number that is too large stays
abbrev pub opened_with : RowKind → OpenItem → ℕ → OpenItem
opened_with Digit p c = record p { number = if nat_lt 32767 p.number then p.number else 10 * p.number + c }
opened_with kind p c = record p { mark = true }

-- whether a row of this kind ends an item
abbrev pub is_last_row : RowKind → Bool
is_last_row Zed = true
is_last_row Kay = true
is_last_row Blank = true
is_last_row Letter = true
is_last_row kind = false

-- the item that a row ends
abbrev pub whole_item : OpenItem → ℕ → Item
whole_item p c = record { function = p.function; number = p.number; mark = p.mark; end = c }

-- the state of the notation on a cleared store
abbrev pub first_notation : Notation
first_notation = record { directive = 20568; theta = 0; contents = cleared_cells }

-- the state of the notation in which nothing was placed: the store has what was
abbrev pub notation_state : Notation → NotationState
notation_state n = record { directive = n.directive; theta = n.theta; placed = [] }

-- the location and the word that an item places
abbrev pub placing_over : Notation → Item → Option (ℕ × ℕ)
placing_over n i = placing n.contents.words (notation_state n) i

-- a store with a word placed in it, if there is one
abbrev pub cells_with : Option (ℕ × ℕ) → Cells → Cells
cells_with None cells = cells
cells_with (Some p) cells = with_short cells p.0 p.1

-- the state after an item
abbrev pub notation_after : Notation → Item → Notation
notation_after n i = record {
  directive = (act n.contents.words (notation_state n) i).directive;
  theta = (act n.contents.words (notation_state n) i).theta;
  contents = cells_with (placing_over n i) n.contents;
}

-- a state is as a note has it, with the store of another
pub record IsSetAs (note : NotationState) (before after : Notation) : Type 0 where
  pub directive : after.directive ≡ note.directive
  pub theta : after.theta ≡ note.theta
  pub contents : after.contents ≡ before.contents

-- an item adds less than 2^21 to the larger of directive and θ
abbrev pub IsSetBelow : (before after : Notation) → Type 0
IsSetBelow before after = (b : ℕ) → before.directive ≤ b → before.theta ≤ b
    → (after.directive ≤ b + 2 ^ 21) × (after.theta ≤ b + 2 ^ 21)

-- the table of the items that rows spell from a row on, between two items or inside one
unfoldable pub table_on : ℕ → Notation → Option OpenItem → List ℕ → List ℕ
table_on row n part [] = []
table_on row n None (f ∷ rows) = table_on (row + 1) n (Some (item_at row f)) rows
table_on row n (Some p) (c ∷ rows) =
    elim (is_last_row (row_kind c)) [
      | true ↦ item_line p.first (row + 1) (placing_over n (whole_item p c))
          ++ table_on (row + 1) (notation_after n (whole_item p c)) None rows
      | false ↦ table_on (row + 1) n (Some (opened_with (row_kind c) p c)) rows
    ]

-- the word of an item of May 1949 that a row ends, L a long one
abbrev pub first_word : OpenItem → ℕ → ℕ
first_word p c = (4096 * p.function + 2 * p.number + digit (nat_eq c 25)) % 2 ^ 17

-- the table of the items of May 1949 that rows spell from a row onwards; the next goes to a location
unfoldable pub table_on1 : (row location : ℕ) → Option OpenItem → List ℕ → List ℕ
table_on1 row location part [] = []
table_on1 row location None (f ∷ rows) = table_on1 (row + 1) location (Some (item_at row f)) rows
table_on1 row location (Some p) (c ∷ rows) =
    elim (nat_lt c 10) [
      | true ↦ table_on1 (row + 1) location (Some (opened_with Digit p c)) rows
      | false ↦ item_line p.first (row + 1) (Some (location, first_word p c))
          ++ table_on1 (row + 1) (location + 1) None rows
    ]
