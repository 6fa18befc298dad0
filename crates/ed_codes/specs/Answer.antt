-- What an answer of `tape_of_text` states about the text. The answer that no memory was found states nothing.
use Rattle.std.specs.Prelude.{◌≡◌, ℕ, List, Result, Ok, Err, Vec}
use Rattle.std.specs.declared.alloc.Global.{Global}
use Rattle.ed_codes.specs.Text.{Spells, HasNoRow, HasOpenComment}
use Rattle.ed_codes.specs.Reading.{Reading, rows, no_row, open_comment}
use Rattle.ed_codes.specs.declared.code.Code.{Code}
use Rattle.ed_codes.specs.declared.tape.TextFault.{TextFault}
use Rattle.ed_codes.specs.declared.tape.TextFault.TheVariants.{NoRow, OpenComment, Memory}

-- the rows are those that the text spells, and a fault is the text's only one
abbrev pub ReadsText : List ℕ → Result (Vec Code Global) TextFault → Type 0
ReadsText text (Ok v) = Spells text v.items
ReadsText text (Err (NoRow place byte)) = HasNoRow text place byte
ReadsText text (Err (OpenComment place)) = HasOpenComment text place
ReadsText text (Err Memory) = Unit {0}

-- the answer is the reading
abbrev pub AnswersText : Reading → Result (Vec Code Global) TextFault → Type 0
AnswersText r (Ok v) = r ≡ rows v.items
AnswersText r (Err (NoRow place byte)) = r ≡ no_row place byte
AnswersText r (Err (OpenComment place)) = r ≡ open_comment place
AnswersText r (Err Memory) = Unit {0}
