-- What items do one after the other, and what reading them costs (Wilkes, Wheeler and Gill 1951, and what the Initial
-- Orders do). No machine is involved: the state of the notation is a directive, θ and a finite map over a store.
use Rattle.std.specs.Prelude.{ℕ, ◌+◌, ◌*◌, ◌/◌, ◌%◌, ◌^◌, Bool, true, false, ◌||◌, nat_eq, if◌then◌else◌, Option}
use Rattle.std.specs.Prelude.{Some, None, List, [], ◌∷◌, length, slice_index, slice_set}
use Rattle.ed_words.specs.Words.{digit}
use Rattle.ed_notation.specs.declared.item.Item.{Item}
use Rattle.ed_notation.specs.declared.kind.RowKind.{RowKind}
use Rattle.ed_notation.specs.declared.kind.RowKind.TheVariants.{Zed, Kay, Blank, Letter}
use Rattle.ed_notation.specs.declared.kind.Control.{Control}
use Rattle.ed_notation.specs.declared.kind.Control.TheVariants.{Directive, ThetaByBlank, ThetaByG, Neither}
use Rattle.ed_notation.specs.declared.kind.LetterAction.{LetterAction}
use Rattle.ed_notation.specs.declared.kind.LetterAction.TheVariants.{Places, Enters, Nowhere, Unset}
use Rattle.ed_notation.specs.Items.{row_kind, Begun, Written, item}

-- the state of the notation: the directive, θ, and the words placed so far with their locations, the latest first
pub record NotationState : Type 0 where
  pub directive : ℕ
  pub theta : ℕ
  pub placed : List (ℕ × ℕ)

-- the finite map: the last word placed at a location, if any was
abbrev pub placed_at : List (ℕ × ℕ) → ℕ → Option ℕ
placed_at [] a = None
placed_at (p ∷ placed) a = if nat_eq p.0 a then Some p.1 else placed_at placed a

-- the contents of all locations: the word placed there last, or the store's if none was
abbrev pub over : List (ℕ × ℕ) → List ℕ → List ℕ
over [] words = words
over (p ∷ placed) words = slice_set (over placed words) p.0 p.1

-- the value of a code letter over the contents: 0 for F, θ for θ, 1 for D, else the content of location 24 + code
abbrev pub value_of : List ℕ → ℕ → ℕ → ℕ
value_of contents theta c =
    if nat_eq c 17 then 0
    else if nat_eq c 18 then theta
    else if nat_eq c 19 then 1
    else slice_index contents (24 + c)

-- the word with this function, number and mark, and the value of a code letter added
abbrev pub word_with : ℕ → ℕ → Bool → ℕ → ℕ
word_with function number mark value = (4096 * function + 2 * number + digit mark + value) % 2 ^ 17

-- the word of an item that ends with a code letter
abbrev pub item_word : List ℕ → NotationState → Item → ℕ
item_word words notation i = word_with i.function i.number i.mark
    (value_of (over notation.placed words) notation.theta i.end)

-- the address of a directive
abbrev pub address : ℕ → ℕ
address directive = directive % 4096 / 2

-- what an item of this function sets when it ends with K or Z: P, E and T the directive, blank and G the value of θ
abbrev pub control_of : ℕ → Control
control_of f =
    if nat_eq f 0 || (nat_eq f 3 || nat_eq f 5) then Directive
    else if nat_eq f 16 then ThetaByBlank
    else if nat_eq f 27 then ThetaByG
    else Neither

-- what a code letter does under a directive: T places, E enters, P does neither
abbrev pub letter_action_of : ℕ → LetterAction
letter_action_of directive =
    if nat_eq (directive / 4096) 5 then Places
    else if nat_eq (directive / 4096) 3 then Enters
    else if nat_eq (directive / 4096) 0 then Nowhere
    else Unset

-- K: θ is set by blank and by G, and the directive by every other function
abbrev pub with_kay : Control → NotationState → Item → NotationState
with_kay ThetaByBlank notation i = record notation {
  theta =
      (4096 * i.function + 2 * i.number + notation.directive) % 2 ^ 17;
}
with_kay ThetaByG notation i = record notation {
  theta =
      (4096 * i.function + 2 * i.number + notation.directive) % 2 ^ 17;
}
with_kay control notation i = record notation { directive = 4096 * i.function + 2 * i.number }

-- Z: θ is set by blank, and the directive by every other function
abbrev pub with_zed : Control → NotationState → Item → NotationState
with_zed ThetaByBlank notation i = record notation {
  theta =
      (65536 + 2 * i.number + notation.theta + notation.directive) % 2 ^ 17;
}
with_zed control notation i = record notation { directive = 4096 * i.function + 2 * i.number + notation.theta }

-- a code letter: at an entry it sets nothing; otherwise the word is placed, and the directive advances by one location
abbrev pub with_letter : LetterAction → NotationState → ℕ → NotationState
with_letter Enters notation word = notation
with_letter action notation word = record {
  directive = notation.directive + 2;
  theta = notation.theta;
  placed = (address notation.directive, word) ∷ notation.placed;
}

-- what an item sets, by the kind of its ending row; the second blank of a blank pair sets θ to the directive
abbrev pub ending_effect : RowKind → List ℕ → NotationState → Item → NotationState
ending_effect Blank words notation i = record notation { theta = notation.directive }
ending_effect Kay words notation i = with_kay (control_of i.function) notation i
ending_effect Zed words notation i = with_zed (control_of i.function) notation i
ending_effect Letter words notation i = with_letter (letter_action_of notation.directive) notation
    (item_word words notation i)
ending_effect kind words notation i = notation

-- the state after an item
abbrev pub act : List ℕ → NotationState → Item → NotationState
act words notation i = ending_effect (row_kind i.end) words notation i

-- the state after items one after the other
abbrev pub fold : List ℕ → NotationState → List Item → NotationState
fold words notation [] = notation
fold words notation (i ∷ is) = fold words (act words notation i) is

-- whether a code letter enters
abbrev pub enters_at : LetterAction → Bool
enters_at Enters = true
enters_at action = false

-- whether an item whose ending row is of this kind is the entry item
abbrev pub entering : RowKind → NotationState → Bool
entering Letter notation = enters_at (letter_action_of notation.directive)
entering kind notation = false

-- whether an item is the entry item: a code letter under an E directive
abbrev pub is_entry : NotationState → Item → Bool
is_entry notation i = entering (row_kind i.end) notation

-- the number of orders that read the rows before an ending row: 6 for the function row, 9 for each digit row, 15 for π
abbrev pub begun_cost : Begun → ℕ
begun_cost b = 6 + 9 * length b.digits + 15 * digit b.mark

-- the number of orders that read an ending row: 16 for K, 17 for Z, 14 for the second blank of a pair, and for a code
-- letter 13 at the entry item and 17 elsewhere
abbrev pub end_cost : RowKind → NotationState → ℕ
end_cost Kay notation = 16
end_cost Zed notation = 17
end_cost Blank notation = 14
end_cost Letter notation = if enters_at (letter_action_of notation.directive) then 13 else 17
end_cost kind notation = 0

-- the number of orders that read an item
abbrev pub cost_of : NotationState → Written → ℕ
cost_of notation w = begun_cost w.begun + end_cost (row_kind w.end) notation

-- the number of orders that read items one after the other
abbrev pub costs : List ℕ → NotationState → List Written → ℕ
costs words notation [] = 0
costs words notation (w ∷ ws) = cost_of notation w + costs words (act words notation (item w)) ws
