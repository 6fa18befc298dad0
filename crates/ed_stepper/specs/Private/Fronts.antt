-- What the code takes from the front of a text.
use Rattle.std.specs.Prelude.{◌≡◌, ℕ, ◌-◌, ◌==◌, ◌&&◌, [], ◌∷◌, Option}
use Rattle.std.specs.Prelude.{Some, None, nat_lt, slice_index, if◌then◌else◌}
use Rattle.std.specs.Borrow.{Bor}
use Rattle.std.specs.List.{position_or_len}
use Rattle.ed_words.specs.Texts.{Text}
use Rattle.ed_stepper.specs.Commands.{is_space}
use Rattle.ed_stepper.specs.Private.CommandReading.{parts_between_spaces}

-- the number of bytes before its first space
abbrev pub first_space : Text → ℕ
first_space = position_or_len is_space

-- the number of bytes before its first line feed
abbrev pub line_feed_place : Text → ℕ
line_feed_place = position_or_len (λ b. b == 10)

-- where the first line stops, if its line feed is at `end`: a carriage return just before it belongs to the end
abbrev pub stop_of : Text → ℕ → ℕ
stop_of text end = if nat_lt 0 end && slice_index text (end - 1) == 13 then end - 1 else end

-- the first part, and what follows it; or no part
abbrev pub TakesPart : Text → Option (Bor Text × Bor Text) → Type 0
TakesPart line (Some p) = parts_between_spaces line ≡ p.0.now ∷ parts_between_spaces p.1.now
TakesPart line None = parts_between_spaces line ≡ []
