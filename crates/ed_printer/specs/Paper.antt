-- What the teleprinter prints. The letters are those of the machine of 1949. The figures, the bytes of the three codes
-- that move the paper, and letter shift at the start are this project's own table.
use Rattle.std.specs.Prelude.{◌≡◌, ℕ, ◌==◌, List, [], ◌∷◌, ◌++◌, codes, reverse, slice_index_or, if◌then◌else◌}
use Rattle.ed_printer.specs.declared.printer.Shift.{Shift}
use Rattle.ed_printer.specs.declared.printer.Shift.TheVariants.{Letters, Figures}

-- the bytes of the codes 0 to 31 in letter shift: 11, 15 and 16 print nothing; 18, 20 and 24 print a carriage return,
-- a space and a line feed
abbrev pub letters_printed : List (List ℕ)
letters_printed =
    codes "P" ∷ codes "Q" ∷ codes "W" ∷ codes "E" ∷ codes "R" ∷ codes "T" ∷ codes "Y" ∷ codes "U"
    ∷ codes "I" ∷ codes "O" ∷ codes "J" ∷ [] ∷ codes "S" ∷ codes "Z" ∷ codes "K" ∷ []
    ∷ [] ∷ codes "F" ∷ (13 ∷ []) ∷ codes "D" ∷ (32 ∷ []) ∷ codes "H" ∷ codes "N" ∷ codes "M"
    ∷ (10 ∷ []) ∷ codes "L" ∷ codes "X" ∷ codes "G" ∷ codes "A" ∷ codes "B" ∷ codes "C" ∷ codes "V" ∷ []

-- the same in figure shift, where 10 prints nothing either; the pound sign of code 21 is two bytes, C2 A3 (194, 163)
abbrev pub figures_printed : List (List ℕ)
figures_printed =
    codes "0" ∷ codes "1" ∷ codes "2" ∷ codes "3" ∷ codes "4" ∷ codes "5" ∷ codes "6" ∷ codes "7"
    ∷ codes "8" ∷ codes "9" ∷ [] ∷ [] ∷ (34 ∷ []) ∷ codes "+" ∷ codes "(" ∷ []
    ∷ [] ∷ codes "$" ∷ (13 ∷ []) ∷ codes ";" ∷ (32 ∷ []) ∷ (194 ∷ 163 ∷ []) ∷ codes "," ∷ codes "."
    ∷ (10 ∷ []) ∷ codes ")" ∷ codes "/" ∷ codes "#" ∷ codes "-" ∷ codes "?" ∷ codes ":" ∷ codes "=" ∷ []

-- the bytes that a code prints in a shift
abbrev pub struck_bytes : Shift → ℕ → List ℕ
struck_bytes Letters code = slice_index_or letters_printed code []
struck_bytes Figures code = slice_index_or figures_printed code []

-- the shift after a code: 11 sets figure shift and 15 letter shift
abbrev pub shift_after : Shift → ℕ → Shift
shift_after shift code = if code == 11 then Figures else if code == 15 then Letters else shift

-- the bytes that codes print, starting in a shift
abbrev pub paper_from : Shift → List ℕ → List ℕ
paper_from shift [] = []
paper_from shift (code ∷ codes) = struck_bytes shift code ++ paper_from (shift_after shift code) codes

-- the bytes that codes print, starting in letter shift
abbrev pub paper : List ℕ → List ℕ
paper = paper_from Letters

-- the shift that codes, the latest first, leave: that of the latest 11 or 15, or letter shift if there is neither
abbrev pub latest_shift : List ℕ → Shift
latest_shift [] = Letters
latest_shift (code ∷ codes) = if code == 11 then Figures else if code == 15 then Letters else latest_shift codes

-- each code prints in the shift set by the latest 11 or 15 before it, or in letter shift if there is neither
abbrev pub IsInLatestShift : Type 0
IsInLatestShift =
    (before : List ℕ) (code : ℕ)
    → paper (before ++ code ∷ []) ≡ paper before ++ struck_bytes (latest_shift (reverse before)) code

-- the bytes of a character of the printer's tables: no byte for 0, two for the pound sign (163), else the one byte
abbrev pub bytes_of : ℕ → List ℕ
bytes_of character = if character == 0 then [] else if character == 163 then 194 ∷ 163 ∷ [] else character ∷ []
