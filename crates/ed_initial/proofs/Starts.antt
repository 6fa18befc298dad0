-- A cleared machine that is started on the rows of a text is within the bounds of a machine, and at the first of the
-- Initial Orders.
use Rattle.ed_initial.proofs.Kit.{rules, Size, locations_least, zero, ◌^◌, IsStore, [], drop, length, List, lit<, lit≤}
use Rattle.ed_initial.proofs.Kit.{nat_lt, Some, subst, suc, true, ℕ, ◌++◌, ◌<◌, ◌∷◌, ◌≡◌, and_parts, ltb-true}
use Rattle.ed_initial.proofs.Kit.{IsStarted, initial_orders}
use Rattle.ed_notation.proofs.Kit.{replicate, list_all, row_of}
use Rattle.std.proofs.Common.{slice_index}
use Rattle.ed_codes.specs.Reading.{IsReadingOf, reading, rows}
use Rattle.ed_codes.specs.Text.{Spells, none, row, spacing, comment}
use Rattle.ed_codes.proofs.Every.{every_text}
use Rattle.ed_machine.specs.Sound.{IsSound}
use Rattle.ed_machine.specs.State.{cleared_state}
use Rattle.ed_initial.specs.Entry.{first_state}
use Rattle.ed_initial.proofs.Started.{is_started}

-- its words: those of the Initial Orders, and 0
abbrev pub first_words : List ℕ
first_words = initial_orders ++ drop 41 (replicate 1024 0)

pub first_length : length first_words ≡ 1024
first_length = search rules

-- words that pass the test are below 2^17, and so is 0, for any index past the last
pub all_fit : (ws : List ℕ) → list_all (λ w. nat_lt w (2 ^ 17)) ws ≡ true → (i : ℕ) → slice_index ws i < 2 ^ 17
all_fit [] h i = lit≤ tt
all_fit (w ∷ ws) h zero = ltb-true w (2 ^ 17) (and_parts _ _ h).0
all_fit (w ∷ ws) h (suc i) = all_fit ws (and_parts (nat_lt w (2 ^ 17)) _ h).1 i

pub first_store : (z : Size) (tape : List ℕ) → IsStore (first_state z tape).store
unfolding first_state
first_store z tape = search (rules, all_fit)

pub IsStarted-first_state : (z : Size) (tape : List ℕ) → IsStarted (first_state z tape)
unfolding first_state
IsStarted-first_state z tape = is_started tape (cleared_state z)

-- a byte spells one of the 32 codes
spelled_code : (byte code : ℕ) → row_of byte ≡ Some code → code < 32
spelled_code byte code = search rules

-- so each row of a text is one of them
rows_fit : {text codes : List ℕ} → Spells text codes → (i : ℕ) → slice_index codes i < 32
rows_fit none i = lit< tt
rows_fit (row byte code text codes is rest) zero = spelled_code byte code is
rows_fit (row byte code text codes is rest) (suc i) = rows_fit rest i
rows_fit (spacing byte text codes is rest) i = rows_fit rest i
rows_fit (comment inside text codes is rest) i = rows_fit rest i

pub read_fit : (text codes : List ℕ) → reading text ≡ rows codes → (i : ℕ) → slice_index codes i < 32
read_fit text codes read = rows_fit {text = text} (subst (IsReadingOf text) read (every_text text))

pub first_sound : (z : Size) (codes : List ℕ) → ((i : ℕ) → slice_index codes i < 32) → IsSound (first_state z codes)
unfolding first_state
first_sound z codes fit = search (rules, first_store, locations_least)

pub sound_start : (z : Size) (text codes : List ℕ) → reading text ≡ rows codes → IsSound (first_state z codes)
sound_start z text codes read = first_sound z codes (read_fit text codes read)
