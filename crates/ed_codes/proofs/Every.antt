-- Every text spells the rows, or has the one fault, that its reading gives.
use Rattle.std.proofs.Common.{◌≡◌, ◌∙◌, ℕ, ◌+◌, Bool, true, false, List, [], ◌∷◌, ◌++◌, refl, sym, ap, subst}
use Rattle.std.proofs.Common.{append_assoc, length, arith}
use Rattle.std.proofs.Math.Seq.{take-append_seam, drop-append_seam}
use Rattle.std.specs.Prelude.{Option, Some, None, ◌==◌, ◌||◌, if◌then◌else◌}
use Rattle.std.proofs.lemmas.Bool.Decides.{Decides-eqb}
use Rattle.std.proofs.lemmas.List.{append-nil, length-append}
use Rattle.ed_codes.specs.Spelling.{row_of}
use Rattle.ed_codes.specs.Text.{Spells, none, row, spacing, comment, is_spacing}
use Rattle.ed_codes.specs.Text.{has_close, HasNoRow, HasOpenComment, StopsAt}
use Rattle.ed_codes.specs.Reading.{Reading, rows, no_row, open_comment, with_row}
use Rattle.ed_codes.specs.Reading.{row_or_fault, reading_from, reading, IsReadingOf}
use Rattle.ed_codes.proofs.Pieces.{spells_append}

-- what the bytes after a front say: their rows, or the fault of the whole text
abbrev Says : List ℕ → List ℕ → Reading → Type 0
Says front own (rows codes) = Spells own codes
Says front own (no_row place byte) = HasNoRow (front ++ own) place byte
Says front own (open_comment place) = HasOpenComment (front ++ own) place

-- a piece moves from the front to the bytes after it
moved : (front piece rest own : List ℕ) (r : Reading) → (front ++ piece) ++ rest ≡ front ++ own
    → ((codes : List ℕ) → Spells rest codes → Spells own codes) → Says (front ++ piece) rest r → Says front own r
moved front piece rest own (rows codes) e grown h = grown codes h
moved front piece rest own (no_row place byte) e grown h = subst (λ (l : List ℕ). HasNoRow l place byte) e h
moved front piece rest own (open_comment place) e grown h = subst (λ (l : List ℕ). HasOpenComment l place) e h

-- a row moves the same way, and is then the first of the rows
moved_row : (front rest : List ℕ) (byte code : ℕ) (r : Reading) → row_of byte ≡ Some code
    → Says (front ++ byte ∷ []) rest r → Says front (byte ∷ rest) (with_row code r)
moved_row front rest byte code (rows codes) e h = row byte code rest codes e h
moved_row front rest byte code (no_row place b) e h =
    subst (λ (l : List ℕ). HasNoRow l place b) (append_assoc front (byte ∷ []) rest) h
moved_row front rest byte code (open_comment place) e h =
    subst (λ (l : List ℕ). HasOpenComment l place) (append_assoc front (byte ∷ []) rest) h

-- the front, up to an offset, is a list of pieces
record Front (front : List ℕ) (place : ℕ) : Type 0 where
  codes : List ℕ
  place_is : place ≡ length front
  spells : Spells front codes

-- one piece more
more : {front piece codes : List ℕ} {place next : ℕ} → Front front place → Spells piece codes
    → next ≡ place + length piece → Front (front ++ piece) next
more {front} {piece} {codes} p s e =
    let size = length-append front piece in
    let start = p.place_is in
    record {
      codes = p.codes ++ codes;
      place_is = omega (arith, e, size, start);
      spells = spells_append front p.codes piece codes p.spells s;
    }

-- a byte comes after them
stops : {front : List ℕ} {place : ℕ} (byte : ℕ) (after : List ℕ) → Front front place
    → StopsAt (front ++ byte ∷ after) place byte after
stops {front} byte after p = record {
  rows = p.codes;
  before = rw p.place_is (rw (take-append_seam front (byte ∷ after)) p.spells);
  here = rw p.place_is (drop-append_seam front (byte ∷ after));
}

-- what is claimed of some bytes after a front of pieces: outside comments, and in one that began after the front
record Read (rest : List ℕ) : Type 0 where
  outside : (front : List ℕ) (place : ℕ) → Front front place → Says front rest (reading_from None place rest)
  within : (front inside : List ℕ) (start place : ℕ) → Front front start → place ≡ start + 1 + length inside
      → has_close inside ≡ false → Says front (91 ∷ inside ++ rest) (reading_from (Some start) place rest)

-- there is no `]` in two lists joined
no_close : (xs ys : List ℕ) → has_close xs ≡ false → has_close ys ≡ false → has_close (xs ++ ys) ≡ false
no_close [] ys e f = f
no_close (x ∷ xs) ys e f = by_first (x == 93) e (λ d. no_close xs ys d f)
  where
    by_first : (c : Bool) → (c || has_close xs) ≡ false → (has_close xs ≡ false → has_close (xs ++ ys) ≡ false)
        → (c || has_close (xs ++ ys)) ≡ false
    by_first true h rest = h
    by_first false h rest = rest h

-- outside comments, at a byte
outside_byte : {rest front : List ℕ} {place : ℕ} (byte : ℕ) → Read rest → Front front place
    → Says front (byte ∷ rest) (reading_from None place (byte ∷ rest))
outside_byte {rest} {front} {place} byte r p = by_comment (byte == 91) refl
  where
    by_row : (o : Option ℕ) → row_of byte ≡ o → (byte == 91) ≡ false → is_spacing byte ≡ false
        → Says front (byte ∷ rest) (row_or_fault o place byte (reading_from None (place + 1) rest))
    by_row None row_is no_comment no_space = record {
      after = rest;
      stops = stops byte rest p;
      no_row = row_is;
      no_spacing = no_space;
      no_comment = no_comment;
    }
    by_row (Some code) row_is no_comment no_space =
        moved_row front rest byte code (reading_from None (place + 1) rest) row_is
        (r.outside (front ++ byte ∷ []) (place + 1) (more p (row byte code [] [] row_is none) refl))

    by_spacing : (t : Bool) → is_spacing byte ≡ t → (byte == 91) ≡ false
        → Says front (byte ∷ rest)
        (if t then reading_from None (place + 1) rest
        else row_or_fault (row_of byte) place byte (reading_from None (place + 1) rest))
    by_spacing true is no_comment =
        moved front (byte ∷ []) rest (byte ∷ rest) (reading_from None (place + 1) rest)
        (append_assoc front (byte ∷ []) rest) (λ codes h. spacing byte rest codes is h)
        (r.outside (front ++ byte ∷ []) (place + 1) (more p (spacing byte [] [] is none) refl))
    by_spacing false is no_comment = by_row (row_of byte) refl no_comment is

    by_comment : (t : Bool) → (byte == 91) ≡ t
        → Says front (byte ∷ rest)
        (if t then reading_from (Some place) (place + 1) rest
        else if is_spacing byte then reading_from None (place + 1) rest
        else row_or_fault (row_of byte) place byte (reading_from None (place + 1) rest))
    by_comment true is =
        let here : byte ≡ 91 = (Decides-eqb byte 91).0 is in
        subst (λ (b : ℕ). Says front (b ∷ rest) (reading_from (Some place) (place + 1) rest)) (sym here)
        (r.within front [] place (place + 1) p (omega arith) refl)
    by_comment false is = by_spacing (is_spacing byte) refl is

-- in a comment, at a byte
within_byte : {rest front : List ℕ} {start place : ℕ} (byte : ℕ) (inside : List ℕ) → Read rest → Front front start
    → place ≡ start + 1 + length inside → has_close inside ≡ false
    → Says front (91 ∷ inside ++ byte ∷ rest) (reading_from (Some start) place (byte ∷ rest))
within_byte {rest} {front} {start} {place} byte inside r p at unclosed = by_close (byte == 93) refl
  where
    -- the comment ends here: it is a piece of the front
    closed : Says front (91 ∷ inside ++ 93 ∷ rest) (reading_from None (place + 1) rest)
    closed =
        let piece = 91 ∷ inside ++ 93 ∷ [] in
        let inner = length-append inside (93 ∷ []) in
        let next : place + 1 ≡ start + length piece = omega (arith, at, inner) in
        let whole : (front ++ piece) ++ rest ≡ front ++ (91 ∷ inside ++ 93 ∷ rest) =
        append_assoc front piece rest ∙ ap (λ (l : List ℕ). front ++ 91 ∷ l) (append_assoc inside (93 ∷ []) rest) in
        moved front piece rest (91 ∷ inside ++ 93 ∷ rest) (reading_from None (place + 1) rest) whole
        (λ codes h. comment inside rest codes unclosed h)
        (r.outside (front ++ piece) (place + 1) (more p (comment inside [] [] unclosed none) next))

    by_close : (t : Bool) → (byte == 93) ≡ t
        → Says front (91 ∷ inside ++ byte ∷ rest)
        (if t then reading_from None (place + 1) rest else reading_from (Some start) (place + 1) rest)
    by_close true is =
        let here : byte ≡ 93 = (Decides-eqb byte 93).0 is in
        subst (λ (b : ℕ). Says front (91 ∷ inside ++ b ∷ rest) (reading_from None (place + 1) rest)) (sym here) closed
    by_close false is =
        let size = length-append inside (byte ∷ []) in
        let longer : has_close (inside ++ byte ∷ []) ≡ false = no_close inside (byte ∷ []) unclosed (rw is refl) in
        subst (λ (l : List ℕ). Says front (91 ∷ l) (reading_from (Some start) (place + 1) rest))
        (append_assoc inside (byte ∷ []) rest)
        (r.within front (inside ++ byte ∷ []) start (place + 1) p (omega (arith, at, size)) longer)

read : (rest : List ℕ) → Read rest
read [] = record {
  outside = λ front place p. none;
  within = λ front inside start place p at unclosed. record {
    after = inside ++ [];
    stops = stops 91 (inside ++ []) p;
    no_close = rw append-nil unclosed;
  };
}
read (byte ∷ rest) = record {
  outside = λ front place p. outside_byte byte (read rest) p;
  within = λ front inside start place p at unclosed. within_byte byte inside (read rest) p at unclosed;
}

-- the reading of a text says what is true of the text
pub every_text : (text : List ℕ) → IsReadingOf text (reading text)
every_text text = by_reading (reading text) ((read text).outside [] 0 (record {
  codes = [];
  place_is = refl;
  spells = none;
}))
  where
    by_reading : (r : Reading) → Says [] text r → IsReadingOf text r
    by_reading (rows codes) h = h
    by_reading (no_row place byte) h = h
    by_reading (open_comment place) h = h
