-- The tape of the post-mortem (this project's own). It places its first location at 45 and its count at 46, and its
-- orders from 56 upwards, and enters them at 56.
use Rattle.std.specs.Prelude.{ℕ, false, List, [], ◌∷◌, ◌++◌, codes, unwrap_or}
use Rattle.ed_codes.specs.Spelling.{row_of}
use Rattle.ed_notation.specs.declared.item.Item.{Item}
use Rattle.ed_notation.specs.Items.{spelled_rows}
use Rattle.ed_notation.specs.Spellings.{canonicals}

-- the rows of a text of letters, signs and digits
abbrev pub rows_of_text : List ℕ → List ℕ
rows_of_text [] = []
rows_of_text (byte ∷ text) = unwrap_or (row_of byte) 0 ∷ rows_of_text text

-- the item P n F, which places twice the number n
abbrev pub count_item : ℕ → Item
count_item n = record { function = 0; number = n; mark = false; end = 17 }

-- its orders and numbers, ten words a line
abbrev pub orders : List ℕ
orders =
    codes "A83@S2FG63@T83@O64@OHO65@H66@CHT78@"
    ++ (codes "H67@C78@T79@T80@A69@T19@T82@T81@A78@S73@"
    ++ (codes "G26@T78@A81@A68@T81@E18@T82@A81@A80@S68@"
    ++ (codes "G35@O81@T82@A68@T80@T82@A19@A2FU19@S70@"
    ++ (codes "G16@A78@S79@L512FT81@O81@O64@A79@S67@E52@"
    ++ (codes "O71@G53@O72@O76@O77@T82@A5@A2FT5@A8@"
    ++ (codes "A2FT8@E@ZF*F#FP2047DPDQFS73@"
    ++ (codes "S76@FFDFP1000FP100FP10F@F&FPFPF"
    ++ codes "PFPFPFPN")))))))

-- its rows: T 45 K, the first location and the count in their shortest spelling, T 56 K, G K, the orders, E 56 K and
-- P F
abbrev pub tape_rows : ℕ → ℕ → List ℕ
tape_rows first count =
    rows_of_text (codes "T45K")
    ++ (spelled_rows (canonicals (count_item first ∷ count_item count ∷ []))
    ++ rows_of_text (codes "T56KGK" ++ (orders ++ codes "E56KPF")))
