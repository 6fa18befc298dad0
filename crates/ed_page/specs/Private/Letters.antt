-- The letter of an order, as a byte.
use Rattle.std.specs.Prelude.{ℕ, Option, Some, None, slice_index}
use Rattle.ed_orders.specs.Kinds.{letter_of}
use Rattle.ed_orders.specs.declared.kind.Kind.{Kind}

-- the letter of an order, and 0 for no order
abbrev pub letter_byte : Option Kind → ℕ
letter_byte None = 0
letter_byte (Some kind) = slice_index (letter_of kind) 0
