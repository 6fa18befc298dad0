-- A call of a routine that writes in a cell of the piece, as one line; and so `read`.
use Rattle.ed_sources.proofs.Kit.{Bool, locations_most, place_count, after_digits, digit_rows, digits_value, IsLoadedAt}
use Rattle.ed_sources.proofs.Kit.{arith, get_or, locations, G_jumps, patched, IsOther, IsCalled, digits_law, HasRoutine}
use Rattle.ed_sources.proofs.Kit.{false, length, Option, rules, subst, ℕ, State, Moment, Leads-append, with_h, digits}
use Rattle.ed_sources.proofs.Kit.{caller, inl, inr, List, lit<, refl, ◌++◌, Frame, short, state, Leads, Leads-path}
use Rattle.ed_sources.proofs.Kit.{Path, stay, read, [], ap, sym, ◌%◌, ◌*◌, ◌+◌, ◌/◌, ◌<◌, ◌^◌, ◌∙◌, ◌∷◌, ◌≡◌, ◌≢◌, ◌≤◌}
use Rattle.ed_sources.proofs.Kit.{◌⊎◌, A, on, own}
use Rattle.ed_routines.proofs.Kit.{set, Jumps, Reads, any}
use Rattle.std.proofs.lemmas.Grind.{common_steps}
use Rattle.std.proofs.lemmas.List.{length-set}
use Rattle.ed_words.specs.declared.order_words.TheConstants.{A_F}
use Rattle.ed_machine.proofs.Kit.Frames.{all_digits}
use Rattle.ed_machine.proofs.Kit.Window.{patched_self, get_own}
use Rattle.ed_library.specs.Routines.{is_working}
use Rattle.ed_routines.proofs.Called.{IsCalled-loaded as routine_called}
use Rattle.ed_routines.proofs.Journeys.{IsIn, Journey, all_long, beside_word, called, caller_is}
use Rattle.ed_routines.proofs.Journeys.{IsOther-beside, IsLoadedAt-called}
use Rattle.ed_sources.proofs.Decimals.{are_digits-digits}
use Rattle.ed_sources.proofs.ReadAndPrint.{rest_is, rows_are}
use Rattle.ed_routines.proofs.ReadCall as read_call

-- a routine in the store is there after a change of words of the piece and of working locations of a routine at w
pub still_has : {n h routine w : ℕ} {f : Frame n h} {before after : List ℕ} → 56 ≤ f.base → 56 ≤ w
    → ((q : ℕ) → (q < f.base) ⊎ (f.base + n ≤ q) → IsOther routine w q → get_or after q 0 ≡ get_or before q 0)
    → {r1 w1 : ℕ} {others : List ℕ} → HasRoutine f before r1 w1 others
    → ((m : ℕ) → m < place_count r1 → is_working r1 m ≡ false → IsOther routine w (w1 + m))
    → HasRoutine f after r1 w1 others
still_has above low keeps {w1 = w1} there other = record {
  low = there.low;
  fits = there.fits;
  reached = there.reached;
  apart = there.apart;
  at2 = keeps 2 (inl (omega arith)) (IsOther-beside 2 (inl (omega arith))) ∙ there.at2;
  at3 = keeps 3 (inl (omega arith)) (IsOther-beside 3 (inl (omega arith))) ∙ there.at3;
  image = λ m l free. keeps (w1 + m) (elim there.apart [ inl b ↦ inl (omega arith) | inr b ↦ inr (omega arith) ])
      (other m l free) ∙ there.image m l free;
}

-- the cells of a piece at b after v was written to its cell j, by words that have v there and the other cells as before
pub set_own : (words cells : List ℕ) (b j v m : ℕ) → j < length cells → get_or words (b + j) 0 ≡ v
    → (m ≢ j → get_or words (b + m) 0 ≡ get_or cells m 0) → get_or words (b + m) 0 ≡ get_or (set cells j v) m 0
set_own words cells b j v m inside is other = grind (arith, common_steps)

module _ {n h : ℕ} {f : Frame n h} {r : Moment} (o : IsIn f r) where
  -- the moment after such a call: the words of the store and its digits, the piece's own words, the rows left and the
  -- last code
  abbrev pub after_change : ℕ → List ℕ → List Bool → List ℕ → List ℕ → Option ℕ → Moment
  after_change i words digits cells rows l = record r {
    words = words;
    digits = digits;
    cells = cells;
    acc = 0;
    counter = f.base + (i + 2);
    tape = rows;
    last = l;
  }

  -- how the routine returns
  abbrev pub Leaves : ℕ → ℕ → ℕ → List ℕ → List ℕ → List Bool → List ℕ → Option ℕ → ℕ → Type 0
  Leaves i w k codes words digits rows l done =
      Leads k (state f (called o i w) done) codes (record (state f (called o i w) done) {
        store = record { words = words; sandwich = all_digits digits (f.base / 2 + h) r.pairs };
        acc = 0;
        counter = caller (state f (called o i w) done) + 2;
        tape = rows;
        last = l;
        orders = done + k;
      })

  pub Part-changes : {r0 w : ℕ} {parameters : List ℕ} {k : ℕ} {codes : List ℕ} (i : ℕ) (words : List ℕ)
      (digits : List Bool)
      (cells rows : List ℕ) (l : Option ℕ) (has : HasRoutine f r.words r0 w parameters)
      → ((done : ℕ) → IsLoadedAt r0 parameters w (state f (called o i w) done)
      → Leaves i w k codes words digits rows l done)
      → length words ≡ 1024 → length cells ≡ n
      → ((j : ℕ) → j < n → get_or words (f.base + j) 0 ≡ get_or cells j 0)
      → i + 3 ≤ n → r.acc ≡ 0 → Reads {f = f} {r = r} i 28 (own i)
      → Jumps {f = f} {r = record r { acc = short (A_F + 2 * (f.base + i)); counter = f.base + (i + 1) }}
      (i + 1) 27 (any w has.reached)
      → Journey f (2 + k) r codes (after_change i words digits cells rows l)
  Part-changes {w = w} {k = k} {codes} i words digits cells rows l has returns long own_long same room clear first
      second = record {
        leads = λ done.
            let size = locations_most f.size in let under = f.under in let fits = f.fits in
            let word : get_or r.cells i 0 ≡ A_F + 2 * (f.base + i) = ap (λ x. x.1.0) first in
            let two : Path f 2 r [] (called o i w) =
            on (A i (own i) (short (A_F + 2 * (f.base + i))) first (omega arith))
            (on (G_jumps (i + 1) (any w has.reached) second (omega arith)) stay) in
            let back = returns (done + 2) (IsLoadedAt-called o i (done + 2) room has) in
            let whole : patched 0 words f.base cells ≡ words =
            patched_self 0 words f.base cells (omega arith) (λ j m. sym (same j (omega arith))) in
            let count : done + 2 + k ≡ done + (2 + k) = omega arith in
            let c : caller (state f (called o i w) (done + 2)) + 2 ≡ f.base + (i + 2) =
            omega (arith, caller_is o i w (done + 2)) in
            subst (λ (t : State). Leads (2 + k) (state f r done) codes t)
            (λ j. record {
              size = f.size;
              store = record { words = sym whole j; sandwich = all_digits digits (f.base / 2 + h) r.pairs };
              acc = 0;
              multiplier = r.multiplier;
              counter = c j;
              tape = rows;
              last = l;
              orders = count j;
            })
            (Leads-append (Leads-path two done) back);
      }

  -- ---- `read` of a number whose digits are on the tape

  -- the number is in the cell j, the rows after it are left, and the piece and the routines are as before
  pub record HasRead (i j w v : ℕ) (rest : List ℕ) : Type 0 where
    pub words : List ℕ
    pub journey : Journey f (13 + 13 * length (digits v)) r []
        (after_change i words r.digits (set r.cells j v) rest r.last)
    pub still_in : IsIn f (after_change i words r.digits (set r.cells j v) rest r.last)
    pub has : {r1 w1 : ℕ} {others : List ℕ} → HasRoutine f r.words r1 w1 others
        → ((m : ℕ) → m < place_count r1 → is_working r1 m ≡ false → IsOther read w (w1 + m))
        → HasRoutine f words r1 w1 others
    pub keeps : (q : ℕ) → (q < f.base) ⊎ (f.base + n ≤ q) → IsOther read w q → get_or words q 0 ≡ get_or r.words q 0

  module _ {w : ℕ} (i j v : ℕ) (rest : List ℕ) (has : HasRoutine f r.words read w (with_h (f.base + j)))
      (tape : r.tape ≡ digits v ++ 17 ∷ rest) (small : v < 65536) (inside : j < n) (room : i + 3 ≤ n) where
    reading : (done : ℕ) → IsLoadedAt read (with_h (f.base + j)) w (state f (called o i w) done)
        → IsCalled read (with_h (f.base + j)) w (f.base + j) (locations f.size) (state f (called o i w) done)
    reading done there =
        routine_called (all_long o) there (record {
          below = let u = f.under in let v = f.fits in omega arith;
          beside = elim has.apart [ inl b ↦ inr (omega arith) | inr b ↦ inl (omega arith) ];
        })

    abbrev called_0 : IsCalled read (with_h (f.base + j)) w (f.base + j) (locations f.size)
        (state f (called o i w) 0)
    called_0 = reading 0 (IsLoadedAt-called o i 0 room has)

    ends : after_digits r.tape ≡ 17 ∷ rest
    ends = ap after_digits tape ∙ rest_is (digits v) rest (are_digits-digits v small)

    rows : digit_rows r.tape ≡ digits v
    rows = ap digit_rows tape ∙ rows_are (digits v) rest (are_digits-digits v small)

    code : 17 < 32
    code = lit< tt

    abbrev last : State
    last = read_call.last called_0 ends code

    number : get_or last.store.words (f.base + j) 0 ≡ v
    number =
        (read_call.has_read called_0 ends code last refl).number ∙ ap (λ (ds : List ℕ). digits_value ds % 2 ^ 17) rows
        ∙ ap (λ x. x % 2 ^ 17) (digits_law v small).value_is ∙ (let e : v % 2 ^ 17 ≡ v = omega (arith, small) in e)

    own_words : (m : ℕ) → m < n → get_or last.store.words (f.base + m) 0 ≡ get_or (set r.cells j v) m 0
    own_words m l =
        let long = o.own in
        let apart : IsOther read w (f.base + m) = search rules in
        set_own last.store.words r.cells f.base j v m (omega arith) number (λ d.
        (read_call.keeps called_0 ends code last refl).words (f.base + m) (λ e. d (omega (arith, e))) apart
        ∙ get_own 0 r.words f.base r.cells m (omega arith))

    -- the words outside the piece and the routine's working locations are unchanged
    beside : (q : ℕ) → (q < f.base) ⊎ (f.base + n ≤ q) → IsOther read w q
        → get_or last.store.words q 0 ≡ get_or r.words q 0
    beside q place other =
        (read_call.keeps called_0 ends code last refl).words q
        (λ e. elim place [ inl b ↦ absurd (omega (arith, b, e)) | inr b ↦ absurd (omega (arith, b, e)) ]) other
        ∙ beside_word o q place

    pub reads_number : r.acc ≡ 0 → Reads {f = f} {r = r} i 28 (own i)
        → Jumps {f = f} {r = record r { acc = short (A_F + 2 * (f.base + i)); counter = f.base + (i + 1) }}
        (i + 1) 27 (any w has.reached)
        → HasRead i j w v rest
    reads_number clear first second =
        let cells : List ℕ = set r.cells j v in
        let long : length cells ≡ n = length-set r.cells j v ∙ o.own in
        let all = read_call.all_last called_0 ends code in
        let e : 2 + (11 + 13 * length (digit_rows r.tape)) ≡ 13 + 13 * length (digits v) =
        omega (arith, ap (λ (ds : List ℕ). length ds) rows) in
        record {
          words = last.store.words;
          journey = subst (λ k. Journey f k r [] (after_change i last.store.words r.digits cells rest r.last)) e
              (Part-changes i last.store.words r.digits cells rest r.last has
              (λ done there. read_call.leads_to (reading done there) ends code) all long own_words room clear first
              second);
          still_in = record { above = o.above; all = all; own = long };
          has = still_has {f = f} o.above has.low beside;
          keeps = beside;
        }
