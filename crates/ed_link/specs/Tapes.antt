-- What reading the punched tape gives: the linked program, from every store.
use Rattle.std.specs.Prelude.{◌≡◌, ℕ, ◌+◌, ◌-◌, ◌*◌, true, false, nat_eq, if◌then◌else◌, List, [], ◌∷◌, ◌++◌, length}
use Rattle.std.specs.Prelude.{reverse, slice_index}
use Rattle.std.specs.List.{flat_map, sum_by}
use Rattle.ed_words.specs.Words.{digit}
use Rattle.ed_words.specs.declared.size.Size.{Size}
use Rattle.ed_words.specs.declared.order_words.TheConstants.{E_F}
use Rattle.ed_codes.specs.declared.letters.TheConstants.{K}
use Rattle.ed_notation.specs.declared.item.Item.{Item}
use Rattle.ed_lines.specs.declared.program.Line.{Line}
use Rattle.ed_symbols.specs.Places.{first_counter}
use Rattle.ed_notation.specs.Openings.{opening}
use Rattle.ed_notation.specs.Faults.{TapeEntry, WellFormed, RowsReachEntry}
use Rattle.ed_notation.specs.Spellings.{digits_of, item_rows, line_from}
use Rattle.ed_link.specs.Linked.{linked_words, entry_of, theta_from, data_after}
use Rattle.ed_link.specs.Punch.{item_with, punched_items}

-- the rows of the punched items
abbrev pub punched_rows : List Line → List ℕ
punched_rows lines = flat_map item_rows (punched_items lines)

-- the rows of the whole tape
abbrev pub tape : List Line → List ℕ
tape lines = punched_rows lines ++ data_after lines

-- the number of orders that read an item which ends with K or places a word: 6 for its function, 9 for each digit, 15
-- for π, and for its ending 16 if that is K and 17 if it is a code letter
abbrev pub item_cost : Item → ℕ
item_cost i = 6 + 9 * length (digits_of i.number) + 15 * digit i.mark + (if nat_eq i.end K then 16 else 17)

-- the number of orders that read the tape up to the entry: 9 at the start, and those of each item; the last item, which
-- enters, takes 4 fewer
abbrev pub cost : List Line → ℕ
cost lines = 9 + sum_by item_cost (punched_items lines) - 4

-- the entry that the tape reaches from a store
abbrev pub arrival : List ℕ → List Line → TapeEntry
arrival words lines = record {
  at = entry_of lines;
  word = 0;
  cost = cost lines;
  rows = length (punched_rows lines);
  notation = record {
    directive = E_F + 2 * entry_of lines;
    theta = theta_from (slice_index words 42) first_counter lines;
    placed = reverse (linked_words lines);
  };
  last = item_with 0 0 false 17;
  rest = data_after lines;
}

-- from every store, the tape is well formed and reaches that entry
abbrev pub ReachesLinkedEntry : Size → List Line → Type 0
ReachesLinkedEntry z lines =
    (words : List ℕ) → length words ≡ 1024
    → WellFormed z words (opening words) (tape lines)
    × RowsReachEntry words (opening words) 9 (tape lines) (arrival words lines)

-- the text of the rows after the items: one line if there are any, digits as digits and other rows as letters or signs
abbrev pub after_text : List ℕ → List ℕ
after_text [] = []
after_text (c ∷ rows) = line_from true (c ∷ rows)
