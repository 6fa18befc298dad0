-- A number on a line of its own: the calls of `print` and of `newline` as one line of a journey.
use Rattle.ed_routines.proofs.Kit.{[], arith, false, get_or, inl, inr, List, refl, Some, subst, ℕ, ◌%◌, ◌*◌, ◌++◌, ◌+◌}
use Rattle.ed_routines.proofs.Kit.{◌<◌, ◌∙◌, ◌∷◌, ◌≡◌, ◌≤◌, ◌⊎◌, Frame, Moment, short, Jumps, Reads, Path, any, own}
use Rattle.ed_routines.proofs.Kit.{place_count, newline, print, with_h, digits, print_orders, IsOther}
use Rattle.std.proofs.Common.{append-nil}
use Rattle.ed_words.specs.declared.order_words.TheConstants.{A_F}
use Rattle.ed_machine.proofs.Kit.Window.{get_own}
use Rattle.ed_library.specs.Routines.{is_working}
use Rattle.ed_routines.proofs.Journeys.{HasRoutine, IsIn, Journey, along, after_call, IsOther-beside, has_after}
use Rattle.ed_routines.proofs.Journeys.{no_working, get_or-after_call, still_in, then}
use Rattle.ed_routines.proofs.Lines.{newline_left, newline_line, newline_returns, number_at, print_goes, print_left}
use Rattle.ed_routines.proofs.Lines.{print_line}

-- a journey, and a path after it that prints nothing
pub then_on : {n h : ℕ} {f : Frame n h} {a b : ℕ} {r m t : Moment} {codes : List ℕ} → Journey f a r codes m
    → Path f b m [] t → Journey f (a + b) r codes t
then_on {f = f} {a} {b} {r} {t = t} {codes} first path =
    subst (λ (cs : List ℕ). Journey f (a + b) r cs t) (append-nil codes) (then first (along path))

module _ {n h : ℕ} {f : Frame n h} {r : Moment} (o : IsIn f r) where
  -- the moment after the calls in the cells i and i + 2, with these words in the store
  abbrev pub after_line : ℕ → List ℕ → Moment
  after_line i words = record r { words = words; acc = 0; counter = f.base + (i + 2 + 2); last = Some 24 }

  -- v from the cell j is printed and a new line follows; the piece and the routines are as before
  pub record HasShown (i j p w v : ℕ) : Type 0 where
    pub words : List ℕ
    pub journey : Journey f (9 + print_orders v) r (11 ∷ digits v ++ 18 ∷ 24 ∷ []) (after_line i words)
    pub still_in : IsIn f (after_line i words)
    pub prints : HasRoutine f words print p (with_h (f.base + j))
    pub lines : HasRoutine f words newline w []
    pub has : {r1 w1 : ℕ} {others : List ℕ} → HasRoutine f r.words r1 w1 others
        → ((m : ℕ) → m < place_count r1 → is_working r1 m ≡ false → IsOther print p (w1 + m))
        → ((m : ℕ) → m < place_count r1 → is_working r1 m ≡ false → IsOther newline w (w1 + m))
        → HasRoutine f words r1 w1 others
    pub keeps : (q : ℕ) → (q < f.base) ⊎ (f.base + n ≤ q) → IsOther print p q → IsOther newline w q
        → get_or words q 0 ≡ get_or r.words q 0

  pub shows_number : {p w : ℕ} (i j v : ℕ) (prints : HasRoutine f r.words print p (with_h (f.base + j)))
      (lines : HasRoutine f r.words newline w []) → p + 51 ≤ w → get_or r.cells j 0 ≡ v → v < 65536 → j < n → i + 5 ≤ n
      → r.acc ≡ 0 → Reads {f = f} {r = r} i 28 (own i)
      → Jumps {f = f} {r = record r { acc = short (A_F + 2 * (f.base + i)); counter = f.base + (i + 1) }}
      (i + 1) 27 (any p prints.reached)
      → Reads {f = f} {r = record r { acc = 0; counter = f.base + (i + 2) }} (i + 2) 28 (own (i + 2))
      → Jumps {f = f} {r = record r { acc = short (A_F + 2 * (f.base + (i + 2))); counter = f.base + (i + 2 + 1) }}
      (i + 2 + 1) 27 (any w lines.reached)
      → HasShown i j p w v
  shows_number {p} {w} i j v prints lines next is small inside room clear first second third fourth =
      let own = o.own in
      let number : number_at o j ≡ v = get_own 0 r.words f.base r.cells j (omega arith) ∙ is in
      let goes = print_goes o {w = p} i j number inside small prints.apart in
      let left : List ℕ = print_left o p i j v in
      let near : i + 3 ≤ n = omega arith in
      let far : i + 2 + 3 ≤ n = omega arith in
      let printed : Moment = after_call o p i left (Some (v % 10)) in
      let in_second : IsIn f printed = still_in o i left (Some (v % 10)) prints goes near in
      let prints_still : HasRoutine f printed.words print p (with_h (f.base + j)) =
      has_after o i left (Some (v % 10)) prints goes near prints (λ m l free. no_working m free) in
      let lines_still : HasRoutine f printed.words newline w [] =
      has_after o i left
      (Some (v % 10)) prints goes near lines (λ m l free. IsOther-beside (w + m) (inr (omega arith))) in
      let turned : List ℕ = newline_left in_second w (i + 2) in
      let lined : Moment = after_call in_second w (i + 2) turned (Some 24) in
      let returns = newline_returns in_second {w = w} (i + 2) in
      let count : 2 + print_orders v + 7 ≡ 9 + print_orders v = omega arith in
      record {
        words = lined.words;
        journey = subst (λ k. Journey f k r (11 ∷ digits v ++ 18 ∷ 24 ∷ []) lined) count
            (then (print_line o i j prints number inside small near clear first second)
            (newline_line in_second (i + 2) lines_still far refl third fourth));
        still_in = still_in in_second (i + 2) turned (Some 24) lines_still returns far;
        prints = has_after in_second (i + 2) turned (Some 24) lines_still returns far prints_still
            (λ m l free. IsOther-beside (p + m) (inl (omega arith)));
        lines = has_after in_second (i + 2) turned (Some 24) lines_still returns far lines_still
            (λ m l free. no_working m free);
        has = λ there apart beside. has_after in_second (i + 2) turned (Some 24) lines_still returns far
            (has_after o i left (Some (v % 10)) prints goes near there apart) beside;
        keeps = λ q out apart beside. get_or-after_call in_second (i + 2) turned
            (Some 24) lines_still returns far q out beside
            ∙ get_or-after_call o i left (Some (v % 10)) prints goes near q out apart;
      }
