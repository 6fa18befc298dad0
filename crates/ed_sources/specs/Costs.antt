-- What the tapes of the calls and of `demo` cost, as functions of their numbers (this project's own rule). The numbers
-- in these functions are the costs of the items that are the same for every call of a routine.
use Rattle.std.specs.Prelude.{ℕ, zero, suc, ◌+◌, ◌*◌, ◌/◌, ◌%◌, false}
use Rattle.std.specs.List.{sum_by}
use Rattle.ed_library.specs.declared.call.Call.{Call}
use Rattle.ed_library.specs.declared.call.Call.TheVariants.{Print, Read, NewLine, Divide, Root, Check}
use Rattle.ed_link.specs.Punch.{head, item_with, word_item}
use Rattle.ed_link.specs.Tapes.{item_cost}
use Rattle.ed_sources.specs.DemoSources.{demo_words}

-- the number of orders that read the item of a word
abbrev pub word_cost : ℕ → ℕ
word_cost w = item_cost (word_item w)

-- the number of orders that read the tape of a call up to the entry. The number of a call is one word of its tape, the
-- dividend of a division is two, and its divisor is one; that of `read` comes after the entry
abbrev pub call_cost : Call → ℕ
call_cost (Print n) = 2289 + word_cost n
call_cost (Read n) = 3368
call_cost NewLine = 476
call_cost (Divide n by) = 6564 + word_cost (n / 65536) + word_cost (n % 65536) + word_cost by
call_cost (Root n) = 3399 + word_cost n
call_cost (Check n) = 4793 + word_cost n

-- the number of orders that read the heads of n segments of 8 words each, the first of them at a base
abbrev pub heads_cost : ℕ → ℕ → ℕ
heads_cost zero base = 0
heads_cost (suc n) base = sum_by item_cost (head base) + heads_cost n (base + 8)

-- the number of orders that read the tape of `demo N` up to the entry: those of its program, where only the order
-- `A 123+8N F` at `stop` depends on N, and those of the heads of its segments and of its words
abbrev pub demo_cost : ℕ → ℕ
demo_cost n =
    2727 + item_cost (item_with 28 (123 + 8 * n) false 17) + heads_cost n 123 + sum_by word_cost (demo_words n)
