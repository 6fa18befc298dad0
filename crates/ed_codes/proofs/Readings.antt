-- What is spelled is read, and each fault is.
use Rattle.std.proofs.Common.{◌≡◌, ◌≢◌, ◌∙◌, ℕ, ◌+◌, ◌-◌, suc, Bool, true, false, List, [], ◌∷◌, ◌++◌, refl, sym, ap}
use Rattle.std.proofs.Common.{append_assoc, take, drop, length, arith, get_or, subst, ◌<◌, ◌≤◌}
use Rattle.std.specs.Prelude.{Option, Some, None, ◌==◌, is_some, Result, Ok, Err, Vec}
use Rattle.std.specs.declared.alloc.Global.{Global}
use Rattle.std.proofs.lemmas.Bool.Decides.{Decides-eqb}
use Rattle.std.proofs.lemmas.List.{append-nil, take-append-drop, length-append, length-take-le, length-drop, drop_all}
use Rattle.std.proofs.lemmas.List.{drop_more}
use Rattle.std.proofs.lemmas.Bool.{or_parts}
use Rattle.ed_codes.specs.Spelling.{row_of}
use Rattle.ed_codes.specs.Text.{Spells, none, row, spacing, comment, is_spacing}
use Rattle.ed_codes.specs.Text.{has_close, HasNoRow, HasOpenComment, StopsAt}
use Rattle.ed_codes.specs.Answer.{ReadsText, AnswersText}
use Rattle.ed_codes.specs.Reading.{Reading, rows, no_row, open_comment, with_row, row_or_fault}
use Rattle.ed_codes.specs.Reading.{reading_from, reading, IsReadingOf, HasOneReading}
use Rattle.ed_codes.proofs.Spellings.{eqb-differs}
use Rattle.ed_codes.proofs.Every.{every_text}
use Rattle.ed_codes.specs.declared.code.Code.{Code}
use Rattle.ed_codes.specs.declared.tape.TextFault.{TextFault}
use Rattle.ed_codes.specs.declared.tape.TextFault.TheVariants.{NoRow, OpenComment, Memory}

-- some rows before a reading
abbrev with_rows : List ℕ → Reading → Reading
with_rows [] r = r
with_rows (code ∷ codes) r = with_row code (with_rows codes r)

-- ---- one byte

-- a byte that passes a test is not one that fails it
pub other_byte : (test : ℕ → Bool) (b k : ℕ) → test b ≡ true → test k ≡ false → (b == k) ≡ false
other_byte test b k passes fails = by_test (b == k) refl
  where
    by_test : (t : Bool) → (b == k) ≡ t → (b == k) ≡ false
    by_test true e = let bad : true ≡ false = sym passes ∙ ap test ((Decides-eqb b k).0 e) ∙ fails in absurd (cc)
    by_test false e = e

row_byte : (b code place : ℕ) (bs : List ℕ) → row_of b ≡ Some code
    → reading_from None place (b ∷ bs) ≡ with_row code (reading_from None (place + 1) bs)
row_byte b code place bs h =
    let no_comment = other_byte spells_row b 91 (ap is_some h) refl in
    let no_space = other_byte spells_row b 32 (ap is_some h) refl in
    let no_tab = other_byte spells_row b 9 (ap is_some h) refl in
    let no_return = other_byte spells_row b 13 (ap is_some h) refl in
    let no_feed = other_byte spells_row b 10 (ap is_some h) refl in
    simp (no_comment, no_space, no_tab, no_return, no_feed)
    (ap (λ (o : Option ℕ). row_or_fault o place b (reading_from None (place + 1) bs)) h)
  where
    spells_row : ℕ → Bool
    spells_row byte = is_some (row_of byte)

spacing_byte : (b place : ℕ) (bs : List ℕ) → is_spacing b ≡ true
    → reading_from None place (b ∷ bs) ≡ reading_from None (place + 1) bs
spacing_byte b place bs h = let no_comment = other_byte is_spacing b 91 h refl in simp (no_comment, h)

-- ---- a comment

no_close_head : (x : ℕ) (xs : List ℕ) → has_close (x ∷ xs) ≡ false → ((x == 93) ≡ false) × (has_close xs ≡ false)
no_close_head x xs = or_parts (x == 93) (has_close xs)

skipped : (start place : ℕ) (inside rest : List ℕ) → has_close inside ≡ false
    → reading_from (Some start) place (inside ++ 93 ∷ rest) ≡ reading_from None (place + length inside + 1) rest
skipped start place [] rest e = ap (λ (n : ℕ). reading_from None n rest) (omega arith)
skipped start place (b ∷ bs) rest e =
    let here = no_close_head b bs e in
    let first : (b == 93) ≡ false = here.0 in
    simp first (skipped start (place + 1) bs rest here.1 ∙ ap (λ (n : ℕ). reading_from None n rest) (omega arith))

never_closed : (start place : ℕ) (text : List ℕ) → has_close text ≡ false
    → reading_from (Some start) place text ≡ open_comment start
never_closed start place [] e = refl
never_closed start place (b ∷ bs) e =
    let here = no_close_head b bs e in
    let first : (b == 93) ≡ false = here.0 in
    simp first (never_closed start (place + 1) bs here.1)

-- ---- pieces, and then the rest

read_front : (front codes : List ℕ) (place : ℕ) (rest : List ℕ) → Spells front codes
    → reading_from None place (front ++ rest) ≡ with_rows codes (reading_from None (place + length front) rest)
read_front _ _ place rest none = ap (λ (n : ℕ). reading_from None n rest) (omega arith)
read_front _ _ place rest (row byte code text codes e s) =
    let at = λ (n : ℕ). with_rows codes (reading_from None n rest) in
    row_byte byte code place (text ++ rest) e
    ∙ ap (with_row code) (read_front text codes (place + 1) rest s ∙ ap at (omega arith))
read_front _ _ place rest (spacing byte text codes e s) =
    let at = λ (n : ℕ). with_rows codes (reading_from None n rest) in
    spacing_byte byte place (text ++ rest) e ∙ read_front text codes (place + 1) rest s ∙ ap at (omega arith)
read_front _ _ place rest (comment inside text codes e s) =
    let at = λ (n : ℕ). with_rows codes (reading_from None n rest) in
    let size = length-append inside (93 ∷ text) in
    ap (λ (l : List ℕ). reading_from (Some place) (place + 1) l) (append_assoc inside (93 ∷ text) rest)
    ∙ skipped place (place + 1) inside (text ++ rest) e
    ∙ read_front text codes (place + 1 + length inside + 1) rest s
    ∙ ap at (omega (arith, size))

rows_stay : (codes : List ℕ) → with_rows codes (rows []) ≡ rows codes
rows_stay [] = refl
rows_stay (code ∷ codes) = ap (with_row code) (rows_stay codes)

no_row_stays : (codes : List ℕ) (place byte : ℕ) → with_rows codes (no_row place byte) ≡ no_row place byte
no_row_stays [] place byte = refl
no_row_stays (code ∷ codes) place byte = ap (with_row code) (no_row_stays codes place byte)

open_comment_stays : (codes : List ℕ) (place : ℕ) → with_rows codes (open_comment place) ≡ open_comment place
open_comment_stays [] place = refl
open_comment_stays (code ∷ codes) place = ap (with_row code) (open_comment_stays codes place)

-- ---- whole texts

spelled_is_read : (text codes : List ℕ) → Spells text codes → reading text ≡ rows codes
spelled_is_read text codes s = ap reading (sym (append-nil text)) ∙ read_front text codes 0 [] s ∙ rows_stay codes

size_before : (text : List ℕ) (place b : ℕ) (after : List ℕ) → drop place text ≡ b ∷ after
    → length (take place text) ≡ place
size_before text place b after e =
    let left : length text - place ≡ suc (length after) = sym (length-drop place text) ∙ ap length e in
    length-take-le place text (omega (arith, left))

-- the reading reaches the offset
stopped : (text : List ℕ) (place byte : ℕ) (after : List ℕ) (s : StopsAt text place byte after)
    → reading text ≡ with_rows s.rows (reading_from None place (byte ∷ after))
stopped text place byte after s =
    ap reading (sym (take-append-drop place text) ∙ ap (λ (l : List ℕ). take place text ++ l) s.here)
    ∙ read_front (take place text) s.rows 0 (byte ∷ after) s.before
    ∙ ap (λ (n : ℕ). with_rows s.rows (reading_from None n (byte ∷ after)))
    (omega (arith, size_before text place byte after s.here))

no_row_is_read : (text : List ℕ) (place byte : ℕ) → HasNoRow text place byte → reading text ≡ no_row place byte
no_row_is_read text place byte h =
    let no_comment = h.no_comment in
    let no_spacing = h.no_spacing in
    let here : reading_from None place (byte ∷ h.after) ≡ no_row place byte =
    simp (no_comment, no_spacing)
    (ap (λ (o : Option ℕ). row_or_fault o place byte (reading_from None (place + 1) h.after)) h.no_row) in
    stopped text place byte h.after h.stops ∙ ap (with_rows h.stops.rows) here ∙ no_row_stays h.stops.rows place byte

open_is_read : (text : List ℕ) (place : ℕ) → HasOpenComment text place → reading text ≡ open_comment place
open_is_read text place h =
    stopped text place 91 h.after h.stops
    ∙ ap (with_rows h.stops.rows) (never_closed place (place + 1) h.after h.no_close)
    ∙ open_comment_stays h.stops.rows place

-- what a text has is its reading
only_reading : (text : List ℕ) (r : Reading) → IsReadingOf text r → reading text ≡ r
only_reading text (rows codes) h = spelled_is_read text codes h
only_reading text (no_row place byte) h = no_row_is_read text place byte h
only_reading text (open_comment place) h = open_is_read text place h

-- every text has its reading and no other
pub has_one_reading : HasOneReading
has_one_reading = record { every = every_text; only = only_reading }

-- the reading of a text is these rows before the reading of its bytes from an offset, in a comment or outside
pub record IsReadTo (text codes : List ℕ) (within : Option ℕ) (place : ℕ) : Type 0 where
  pub whole : with_rows codes (reading_from within place (drop place text)) ≡ reading text

-- no byte is read
pub IsReadTo-begins : {text codes : List ℕ} → codes ≡ [] → IsReadTo text codes None 0
IsReadTo-begins {text} empty = rw empty (record { whole = refl })

-- the same, with the next byte
next : {text codes : List ℕ} {within : Option ℕ} {place : ℕ} → place < length text → IsReadTo text codes within place
    → with_rows codes (reading_from within place (get_or text place 0 ∷ drop (place + 1) text)) ≡ reading text
next {text} {place = place} below h = rw (drop_more text place 0 below) at h.whole

-- a comment ends
pub IsReadTo-closes : {text codes : List ℕ} {within : Option ℕ} {place : ℕ} → place < length text
    → true ≡ is_some within
    → get_or text place 0 ≡ 93 → IsReadTo text codes within place → IsReadTo text codes None (place + 1)
IsReadTo-closes {within = None} below some is h = absurd (cc)
IsReadTo-closes {within = Some start} below some is h = record { whole = rw is at (next below h) }

-- a comment goes on
pub IsReadTo-stays : {text codes : List ℕ} {within : Option ℕ} {place : ℕ} → place < length text → true ≡ is_some within
    → get_or text place 0 ≢ 93 → IsReadTo text codes within place → IsReadTo text codes within (place + 1)
IsReadTo-stays {within = None} below some other h = absurd (cc)
IsReadTo-stays {within = Some start} below some other h = record {
  whole = rw (eqb-differs _ 93 other) at
      (next below h);
}

-- a comment begins
pub IsReadTo-opens : {text codes : List ℕ} {within : Option ℕ} {place : ℕ} → place < length text
    → false ≡ is_some within
    → get_or text place 0 ≡ 91 → IsReadTo text codes within place → IsReadTo text codes (Some place) (place + 1)
IsReadTo-opens {within = None} below outside is h = record { whole = rw is at (next below h) }
IsReadTo-opens {within = Some start} below outside is h = absurd (cc)

-- a spacing byte
pub IsReadTo-skips : {text codes : List ℕ} {within : Option ℕ} {place : ℕ} → place < length text
    → false ≡ is_some within
    → true ≡ is_spacing (get_or text place 0) → IsReadTo text codes within place
    → IsReadTo text codes within (place + 1)
IsReadTo-skips {text} {codes} {within = None} {place} below outside is h =
    record { whole = rw (spacing_byte (get_or text place 0) place (drop (place + 1) text) (sym is)) at (next below h) }
IsReadTo-skips {within = Some start} below outside is h = absurd (cc)

one_more : (codes : List ℕ) (code : ℕ) (r : Reading) → with_rows (codes ++ code ∷ []) r
    ≡ with_rows codes (with_row code r)
one_more [] code r = refl
one_more (first ∷ codes) code r = ap (with_row first) (one_more codes code r)

-- a row
pub IsReadTo-gains : {text codes : List ℕ} {within : Option ℕ} {place : ℕ} (code : ℕ) → place < length text
    → false ≡ is_some within → row_of (get_or text place 0) ≡ Some code → IsReadTo text codes within place
    → IsReadTo text (codes ++ code ∷ []) within (place + 1)
IsReadTo-gains {text} {codes} {within = None} {place} code below outside is h =
    let after = drop (place + 1) text in
    record {
      whole = one_more codes code (reading_from None (place + 1) after)
          ∙ rw (row_byte (get_or text place 0) code place after is) at (next below h);
    }
IsReadTo-gains {within = Some start} code below outside is h = absurd (cc)

-- a byte that spells no row
pub finds_none : {text codes : List ℕ} {within : Option ℕ} {place : ℕ} → place < length text
    → false ≡ is_some within → get_or text place 0 ≢ 91 → false ≡ is_spacing (get_or text place 0)
    → row_of (get_or text place 0) ≡ None → IsReadTo text codes within place
    → reading text ≡ no_row place (get_or text place 0)
finds_none {text} {codes} {within = None} {place} below outside no_comment no_spacing is h =
    sym (rw is at (rw (sym no_spacing) at (rw (eqb-differs _ 91 no_comment) at (next below h))))
    ∙ no_row_stays codes place (get_or text place 0)
finds_none {within = Some start} below outside no_comment no_spacing is h = absurd (cc)

-- the end of the text, in a comment
pub ends_open : {text codes : List ℕ} {start place : ℕ} → length text ≤ place → IsReadTo text codes (Some start) place
    → reading text ≡ open_comment start
ends_open {text} {codes} {start} {place} past h =
    sym (rw (drop_all place text past) at h.whole) ∙ open_comment_stays codes start

-- and outside
pub reading-ends : {text codes : List ℕ} {place : ℕ} → length text ≤ place → IsReadTo text codes None place
    → reading text ≡ rows codes
reading-ends {text} {codes} {place} past h = sym (rw (drop_all place text past) at h.whole) ∙ rows_stay codes

-- an answer that says its text's reading says what the text has
pub reads_text : (text : List ℕ) (r : Result (Vec Code Global) TextFault) → AnswersText (reading text) r
    → ReadsText text r
reads_text text (Ok v) e = subst (IsReadingOf text) e (every_text text)
reads_text text (Err (NoRow place byte)) e = subst (IsReadingOf text) e (every_text text)
reads_text text (Err (OpenComment place)) e = subst (IsReadingOf text) e (every_text text)
reads_text text (Err Memory) e = tt
