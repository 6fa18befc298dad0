-- A tape is well formed if and only if its items break no rule.
use Rattle.ed_notation.proofs.Kit.{[], append_assoc, Bool, false, inl, inr, length, length-append, List, refl, Some}
use Rattle.ed_notation.proofs.Kit.{true, ℕ, ◌++◌, ◌+◌, ◌∷◌, ◌≡◌, ◌≤◌, Size, arith, IsSoundTo, AreRead, AreSound, breaks}
use Rattle.ed_notation.proofs.Kit.{EndsSound, IsRead, RowsReachEntry, TapeEntry, WellFormed, fold, is_entry}
use Rattle.ed_notation.proofs.Kit.{NotationState, begun_rows, IsWritten, item, items, row_kind, rows_of, spelled_rows}
use Rattle.ed_notation.proofs.Kit.{Written, IsDirective}
use Rattle.ed_notation.proofs.Follow.{Reader}
use Rattle.ed_notation.proofs.Laws.{arrived_well}
use Rattle.ed_notation.proofs.Passes.{Goes-entry}
use Rattle.ed_notation.proofs.Tells.{broken_at, broken_later}
pub use Rattle.ed_notation.proofs.Follow.{no_rule}

-- a tape whose items break no rule, up to an entry item, is well formed
pub sound_well : {z : Size} {words : List ℕ} {start : NotationState} (before : List Written) {last : Written}
    (rest : List ℕ)
    → IsDirective start.directive → AreRead words start before → AreSound z words start before → IsWritten last
    → is_entry (fold words start (items before)) (item last) ≡ true
    → EndsSound z words (fold words start (items before)) last
    → WellFormed z words start (spelled_rows before ++ (rows_of last ++ rest))
sound_well {z} {words} {start} before {last} rest set are sound good enters s =
    let p : Reader = record { size = z; words = words; row = 0; cost = 0; notation = start } in
    elim (Goes-entry before last p rest set are good enters) [
      | inl h ↦ arrived_well z words start 0 _ set h.0
      | inr e ↦ absurd (e.unsound (sound, s))
    ]

-- an item before a row up to which no rule is broken breaks none
ends_sound : {z : Size} {words : List ℕ} {start : NotationState} {row : ℕ} (w : Written) (rest : List ℕ) → IsWritten w
    → IsSoundTo z words start (rows_of w ++ rest) row → length (rows_of w) ≤ row → EndsSound z words start w
ends_sound {z} {words} {start} w rest good to fits cause = by_test _ refl
  where
    by_test : (t : Bool) → breaks cause (row_kind w.end) z words start w.begun w.end ≡ t → t ≡ false
    by_test false h = refl
    by_test true h =
        let least = to (length (begun_rows w.begun)) cause (rw (append_assoc (begun_rows w.begun) (w.end ∷ []) rest)
        (broken_at (Some w.begun) (w.end ∷ rest) good.begun h)) in
        absurd (omega (arith, least, fits, length-append (begun_rows w.begun) (w.end ∷ [])))

-- all items before such a row break no rule, and the rows after them break none up to it
all_sound : {z : Size} {words : List ℕ} (ws : List Written) {start : NotationState} {row : ℕ} {rest : List ℕ} (n : ℕ)
    → row ≡ length (spelled_rows ws) + n → IsSoundTo z words start (spelled_rows ws ++ rest) row
    → AreRead words start ws → AreSound z words start ws × IsSoundTo z words (fold words start (items ws)) rest n
all_sound [] n e to are = (tt, λ r cause b. omega (arith, e, to r cause b))
all_sound (w ∷ ws) {rest} n e to are =
    let l = length-append (rows_of w) (spelled_rows ws) in
    let t = rw (append_assoc (rows_of w) (spelled_rows ws) rest) at to in
    let more = all_sound ws n refl (λ r cause b. omega (arith, e, l, t _ cause (broken_later w are.0 are.1 b))) are.2 in
    ((ends_sound w _ are.0 t (omega (arith, e, l)), more.0), more.1)

pub read_sound : {z : Size} {words : List ℕ} {start : NotationState} {rows : List ℕ} {row : ℕ}
    → IsSoundTo z words start rows row → (r : IsRead words start rows row) → AreSound z words start r.before
read_sound to r = (all_sound r.before _ r.row_is (rw r.rows_are at to) r.are_read).0

-- the items of a well-formed tape break no rule
pub well_sound : {z : Size} {words : List ℕ} {start : NotationState} {rows : List ℕ} → WellFormed z words start rows
    → {base : ℕ} {e : TapeEntry} (c : RowsReachEntry words start base rows e)
    → AreSound z words start c.before × EndsSound z words e.notation c.last
well_sound {z} {words} {start} {rows} well {e = e} c =
    let to : IsSoundTo z words start rows e.rows = λ r cause b. absurd (well r cause b) in
    let s = all_sound c.before _ c.read_is (rw c.rows_are at to) c.are_read in
    (s.0, rw c.notation_is (ends_sound c.last _ c.is_written s.1 (omega arith)))
