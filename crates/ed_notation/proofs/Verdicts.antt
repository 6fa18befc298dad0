-- A list of rows reaches one entry, or has one fault.
use Rattle.ed_notation.proofs.Kit.{List, ℕ, ◌≡◌, Size, sym, ◌∙◌, IsFault, RowsReachEntry, TapeEntry, WellFormed}
use Rattle.ed_notation.proofs.Kit.{NotationState, Arrived, Faulty, ReadingIsRules, TapeCause}

entry_of : {e f : TapeEntry} → Arrived e ≡ Arrived f → e ≡ f
entry_of is = cc

pub row_of : {r q : ℕ} {a b : TapeCause} → Faulty r a ≡ Faulty q b → (r ≡ q) × (a ≡ b)
row_of is = (cc, cc)

module _ {z : Size} {words : List ℕ} {start : NotationState} {base : ℕ} {rows : List ℕ}
    (law : ReadingIsRules z words start base rows) where
  pub entry_once : {e f : TapeEntry} → WellFormed z words start rows → RowsReachEntry words start base rows e
      → RowsReachEntry words start base rows f → e ≡ f
  entry_once {e} {f} well a b = entry_of (sym (law.arrived e well a) ∙ law.arrived f well b)

  pub fault_once : {row other : ℕ} {cause rule : TapeCause} → IsFault z words start rows row cause
      → IsFault z words start rows other rule → (row ≡ other) × (cause ≡ rule)
  fault_once {row} {other} {cause} {rule} a b = row_of (sym (law.found row cause a) ∙ law.found other rule b)
