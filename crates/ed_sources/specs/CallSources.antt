-- The sources that `call` runs (this project's own): their texts are constants of the code, with gaps for numbers.
use Rattle.std.specs.Prelude.{◌/◌, ◌%◌, List, [], ◌∷◌, ◌++◌, flat_map, map}
use Rattle.std.specs.Fmt.{decimal}
use Rattle.ed_library.specs.declared.call.Call.{Call}
use Rattle.ed_library.specs.declared.call.Call.TheVariants.{Print, Read, NewLine, Divide, Root, Check}
use Rattle.ed_words.specs.Texts.{Text}
use Rattle.ed_sources.specs.declared.calls.TheConstants.{CHECK, DIVIDE, NEW_LINE, PRINT, READ, ROOT}

-- a text of lines, each with its line feed (10)
abbrev pub text_of_lines : List Text → Text
text_of_lines lines = flat_map (λ line. line ++ 10 ∷ []) lines

-- the pieces of a text, with the data between them
abbrev pub filled_text : List Text → List Text → Text
filled_text [] ds = []
filled_text (piece ∷ pieces) [] = piece ++ filled_text pieces []
filled_text (piece ∷ pieces) (d ∷ ds) = piece ++ (d ++ filled_text pieces ds)

-- the pieces of a call's source
abbrev pub call_pieces : Call → List Text
call_pieces (Print n) = map (λ piece. piece.now) PRINT
call_pieces (Read n) = map (λ piece. piece.now) READ
call_pieces NewLine = map (λ piece. piece.now) NEW_LINE
call_pieces (Divide n by) = map (λ piece. piece.now) DIVIDE
call_pieces (Root n) = map (λ piece. piece.now) ROOT
call_pieces (Check n) = map (λ piece. piece.now) CHECK

-- the numbers between them; the dividend of a division is given by its halves
abbrev pub call_data : Call → List Text
call_data (Print n) = decimal n ∷ []
call_data (Read n) = decimal n ∷ []
call_data NewLine = []
call_data (Divide n by) = decimal (n / 65536) ∷ decimal (n % 65536) ∷ decimal by ∷ []
call_data (Root n) = decimal n ∷ []
call_data (Check n) = decimal n ∷ []

-- the source of a call
abbrev pub call_text : Call → Text
call_text call = filled_text (call_pieces call) (call_data call)
