-- The order table: what one order does (Wilkes, Wheeler and Gill 1951; that O prints at once, all of what F does, that
-- X does nothing, and that a long order with an odd address uses the pair of that location, are this project's own
-- rules).
use Rattle.std.specs.Prelude.{ℕ, List, [], ◌∷◌, Option, Some, None, unwrap_or, Bool}
use Rattle.std.specs.Prelude.{true, false, ◌+◌, ◌*◌, ◌/◌, ◌^◌, nat_lt, nat_le}
use Rattle.ed_words.specs.Words.{function_of, address_of, is_long}
use Rattle.ed_words.specs.Sizes.{within}
use Rattle.ed_acc.specs.Arithmetic.{plus71, minus71, plus_product, minus_product, plus_common, left71, right71}
use Rattle.ed_store.specs.Cells.{Cells, short_at, long_at, with_short, with_long}
use Rattle.ed_orders.specs.Kinds.{kind_of_function}
use Rattle.ed_orders.specs.Places.{places}
use Rattle.ed_orders.specs.declared.kind.Kind.{Kind}
use Rattle.ed_orders.specs.declared.kind.Kind.TheVariants.{A, S, H, V, N, T, U, C, R, L, E, G, I, O, F, X, Y, Z}
use Rattle.ed_machine.specs.State.{State}
use Rattle.ed_machine.specs.declared.turn.Turn.{Turn}
use Rattle.ed_machine.specs.declared.turn.Turn.TheVariants.{Went, Printed, Stopped, NoOrder, NoTape}

-- the state after an order, and what the order did
pub record Obeyed : Type 0 where
  pub state : State
  pub turn : Turn

-- the location that an order word names: its address modulo the size
abbrev pub place_of : State → ℕ → ℕ
place_of s w = within s.size (address_of w)

-- the 35 digits at a location: the long word of its pair, or its short word at the upper end
abbrev pub read_at : Bool → Cells → ℕ → ℕ
read_at true c n = long_at c n
read_at false c n = short_at c n * 2 ^ 18

-- the 35 digits that an order reads
abbrev pub operand35 : ℕ → State → ℕ
operand35 w s = read_at (is_long w) s.store (place_of s w)

-- the same at the upper end of the accumulator's 71 digits
abbrev pub operand71 : ℕ → State → ℕ
operand71 w s = operand35 w s * 2 ^ 36

-- the store with a number written at a location: `short` if the order is short, `long` if it is long
abbrev pub written_cells : Bool → Cells → ℕ → ℕ → ℕ → Cells
written_cells true c n short long = with_long c n long
written_cells false c n short long = with_short c n short

-- the store after an order that writes
abbrev pub written_store : ℕ → State → ℕ → ℕ → Cells
written_store w s short long = written_cells (is_long w) s.store (place_of s w) short long

-- the location after the counter's
abbrev pub after : State → ℕ
after s = within s.size (s.counter + 1)

-- a state with one more order obeyed and the counter at a location
abbrev pub done_at : ℕ → State → State
done_at n s = record s { counter = n; orders = s.orders + 1 }

-- an order after which the machine goes on at the next location
abbrev pub plain_order : State → Obeyed
plain_order s = record { state = done_at (after s) s; turn = Went }

-- an order that jumps to a location if a test holds, and goes on otherwise
abbrev pub jump_order : Bool → ℕ → State → Obeyed
jump_order true n s = record { state = done_at n s; turn = Went }
jump_order false n s = plain_order s

-- an order that prints a code
abbrev pub print_order : ℕ → State → Obeyed
print_order code s = record { state = record (done_at (after s) s) { last = Some code }; turn = Printed code }

-- an order that stops the machine, with the counter after it
abbrev pub stop_order : State → Obeyed
stop_order s = record { state = done_at (after s) s; turn = Stopped }

-- a state in which no order can be obeyed
abbrev pub blocked_order : Turn → State → Obeyed
blocked_order turn s = record { state = s; turn = turn }

-- an order that reads a row of the tape, if there is one
abbrev pub row_order : List ℕ → ℕ → State → Obeyed
row_order [] w s = blocked_order NoTape s
row_order (row ∷ rows) w s = plain_order (record s { store = written_store w s row (row * 2 ^ 18); tape = rows })

-- the last printed code, or 0 if nothing was printed
abbrev pub last_code : State → ℕ
last_code s = unwrap_or s.last 0

-- the order table
abbrev pub obey : Kind → ℕ → State → Obeyed
obey A w s = plain_order (record s { acc = plus71 s.acc (operand71 w s) })
obey S w s = plain_order (record s { acc = minus71 s.acc (operand71 w s) })
obey H w s = plain_order (record s { multiplier = operand35 w s })
obey V w s = plain_order (record s { acc = plus_product s.acc s.multiplier (operand35 w s) })
obey N w s = plain_order (record s { acc = minus_product s.acc s.multiplier (operand35 w s) })
obey T w s = plain_order (record s { store = written_store w s (s.acc / 2 ^ 54) (s.acc / 2 ^ 36); acc = 0 })
obey U w s = plain_order (record s { store = written_store w s (s.acc / 2 ^ 54) (s.acc / 2 ^ 36) })
obey C w s = plain_order (record s { acc = plus_common s.acc s.multiplier (operand35 w s) })
obey R w s = plain_order (record s { acc = right71 s.acc (places w) })
obey L w s = plain_order (record s { acc = left71 s.acc (places w) })
obey E w s = jump_order (nat_lt s.acc (2 ^ 70)) (place_of s w) s
obey G w s = jump_order (nat_le (2 ^ 70) s.acc) (place_of s w) s
obey I w s = row_order s.tape w s
obey O w s = print_order (operand35 w s / 2 ^ 30) s
obey F w s = plain_order (record s { store = written_store w s (last_code s * 4096) (last_code s * 2 ^ 30) })
obey X w s = plain_order s
obey Y w s = plain_order (record s { acc = plus71 s.acc (2 ^ 35) })
obey Z w s = stop_order s

-- a word obeyed as an order, if its function is one
abbrev pub obey_word : Option Kind → ℕ → State → Obeyed
obey_word None w s = blocked_order (NoOrder (function_of w)) s
obey_word (Some kind) w s = obey kind w s

-- the word at the counter
abbrev pub next_word : State → ℕ
next_word s = short_at s.store s.counter

-- one step: the word at the counter is obeyed
unfoldable pub step : State → Obeyed
step s = obey_word (kind_of_function (function_of (next_word s))) (next_word s) s
