-- Worked tapes over a store of zeros: the definitions, computed.
use Rattle.ed_notation.proofs.Kit.{[], List, lit≤, None, refl, replicate, unwrap_or, ℕ, ◌∷◌, ◌≡◌, Size, row_of, arith}
use Rattle.ed_notation.proofs.Kit.{IsFault, IsDirective, opening_with, Arrived, Faulty, reading_on, Verdict, TapeCause}
use Rattle.ed_notation.proofs.Kit.{BadRow, EndOfTape, LoaderStore, NumberTooLarge, StoreEnd}
use Rattle.std.proofs.Common.{codes}
use Rattle.ed_words.specs.declared.size.Size.TheVariants.{Small, Full}
use Rattle.ed_notation.specs.Openings.{opening}
use Rattle.ed_notation.proofs.Laws.{faulty_is}

abbrev zeros : List ℕ
zeros = replicate 1024 0

-- the rows of a text of spelling bytes
abbrev tape : List ℕ → List ℕ
tape [] = []
tape (b ∷ bs) = unwrap_or (row_of b) 0 ∷ tape bs

first_is : IsDirective 20568
first_is = record { no_1 = omega arith; no_2 = omega arith; no_4 = omega arith; most = lit≤ tt }

abbrev IsRefused : Size → List ℕ → ℕ → TapeCause → Type 0
IsRefused z text row cause = IsFault z zeros (opening zeros) (tape text) row cause

-- the reading of a whole tape, and of the rest of one
abbrev whole : Size → List ℕ → Verdict
whole z text = reading_on z zeros 0 9 (opening zeros) None (tape text)

abbrev rest : ℕ → List ℕ → Verdict
rest directive text = reading_on Full zeros 0 2 (opening_with directive zeros) None (tape text)

refused : (z : Size) (text : List ℕ) {row : ℕ} {cause : TapeCause} → whole z text ≡ Faulty row cause
    → IsRefused z text row cause
refused z text h = faulty_is z zeros (opening zeros) 9 (tape text) first_is h

-- faulty tapes
faults :
    -- past the end of a store, and of a half
    IsRefused Full (codes "T1023KPFPF") 9 StoreEnd
    × IsRefused Small (codes "T511KPFPF") 8 StoreEnd
    -- no entry
    × IsRefused Full (codes "T511KPFPF") 9 EndOfTape
    -- a number too large, and a word for a location of the loader
    × IsRefused Full (codes "P32768F") 5 NumberTooLarge
    × IsRefused Full (codes "T20KPF") 5 LoaderStore
    -- blanks that are no pair
    × IsRefused Full (codes ".0.") 2 BadRow
unfolding reading_on
faults = (
  refused Full (codes "T1023KPFPF") refl,
  refused Small (codes "T511KPFPF") refl,
  refused Full (codes "T511KPFPF") refl,
  refused Full (codes "P32768F") refl,
  refused Full (codes "T20KPF") refl,
  refused Full (codes ".0.") refl,
)

-- the entry, orders and rows of a tape
abbrev entered : Verdict → List ℕ
entered (Faulty row cause) = []
entered (Arrived e) = e.at ∷ e.cost ∷ e.rows ∷ []

-- tapes that enter
entries :
    -- three words; the largest number; a mark; a parameter
    (entered (whole Full (codes "T64KGKO2@ZFAFEZPF")) ≡ 64 ∷ 191 ∷ 17 ∷ [])
    × (entered (whole Full (codes "T64KP32767DE64KPF")) ≡ 64 ∷ 176 ∷ 17 ∷ [])
    × (entered (whole Full (codes "T64KGKA2#@EZPF")) ≡ 64 ∷ 160 ∷ 14 ∷ [])
    × (entered (whole Full (codes "T45KP100FT64KA1HE64KPF")) ≡ 64 ∷ 230 ∷ 22 ∷ [])
    -- a directive instead of another
    × (entered (whole Full (codes "T20KT64KPFE64KPF")) ≡ 64 ∷ 171 ∷ 16 ∷ [])
    -- two blanks, three, and two under a place
    × (entered (whole Full (codes "..PKT64KGKO2@ZFAFEZPF")) ≡ 64 ∷ 233 ∷ 21 ∷ [])
    × (entered (whole Full (codes "...PKT64KGKO2@ZFAFEZPF")) ≡ 64 ∷ 242 ∷ 22 ∷ [])
    × (entered (whole Full (codes "T64K..PZGKO2@ZFAFEZPF")) ≡ 64 ∷ 234 ∷ 21 ∷ [])
    -- the rest of a tape
    × (entered (rest 20880 (codes "GKZFE200KPF")) ≡ 200 ∷ 115 ∷ 11 ∷ [])
unfolding reading_on
entries = (refl, refl, refl, refl, refl, refl, refl, refl, refl)
