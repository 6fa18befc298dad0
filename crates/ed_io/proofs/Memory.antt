-- What calls of devices over memory take and give, and whether their number is in the list of those that fail.
use Rattle.ed_io.proofs.Kit.{[], ap, arith, Bool, drop, false, if◌then◌else◌, length, List, nat_lt, None, refl, Some}
use Rattle.ed_io.proofs.Kit.{sym, take, true, ℕ, ◌++◌, ◌+◌, ◌-◌, ◌<◌, ◌==◌, ◌∙◌, ◌≡◌, ◌≤◌, nat_tests, take-append-drop}
use Rattle.ed_io.proofs.Kit.{take_all, take_rest, Gains}
use Rattle.std.proofs.Common.{min, get_or, ◌||◌}
use Rattle.std.specs.List.{Contains}
use Rattle.std.proofs.Math.Seq.{take-append-add}
use Rattle.std.proofs.lemmas.Bool.Decides.{Decides-eqb}
use Rattle.std.proofs.lemmas.List.{drop-drop, nil_from_length}

-- the number is in the list
pub is_among : {read xs : List ℕ} {x : ℕ} (k : ℕ) → read ≡ xs → k < length read → (get_or read k x == x) ≡ true
    → Contains xs x
is_among {read} {xs} {x} k e within found = rw (← e) (k, within, (Decides-eqb (get_or read k x) x).0 found)

-- the number is not in the list
pub none_among : {read xs : List ℕ} {x : ℕ} → read ≡ xs
    → ((k d : ℕ) → 0 ≤ k → k < length read → (get_or read k d == x) ≡ false)
    → Contains xs x → false ≡ true
none_among {read} {xs} {x} e none among =
    let here : Contains read x = rw e among in
    sym (none here.0 x (omega arith) here.1) ∙ (Decides-eqb (get_or read here.0 x) x).1 here.2

-- the first n of the bytes from `at` onwards stand at the front of a piece; n is 0 only if no byte is left or the piece
-- is empty
pub record HandsOver (at n : ℕ) (bytes into : List ℕ) : Type 0 where
  pub within : n ≤ length into
  pub whole : drop at bytes ≡ take n into ++ drop (at + n) bytes
  pub ends : n ≡ 0 → 0 < length into → drop at bytes ≡ []

pub hands_over : {at n most : ℕ} {read bytes into : List ℕ} (old : List ℕ) → read ≡ bytes
    → n ≡ min most (min (length old) (length (take (length read - at) (drop at read))))
    → take n into ≡ take n (take (length read - at) (drop at read))
    → length into ≡ length old → 0 < most → HandsOver at n bytes into
hands_over {at} {n} {most} {read} {bytes} {into} old e count front same some =
    let rest = take_rest read at in
    let many : n ≡ min most (min (length old) (length (drop at read))) = rw rest at count in
    let first : take n into ≡ take n (drop at read) = rw rest at front in
    rw (← e) (record {
      within = omega arith;
      whole = sym (ap (λ (l : List ℕ). l ++ drop (at + n) read) first
          ∙ ap (λ (l : List ℕ). take n (drop at read) ++ l) (sym (drop-drop n at read))
          ∙ take-append-drop n (drop at read));
      ends = λ z l. nil_from_length (drop at read) (omega arith);
    })

-- the first n bytes of a text that begins with at most n bytes
pub first_bytes : (n : ℕ) (xs ys : List ℕ) → length xs ≤ n → xs ++ take (n - length xs) ys ≡ take n (xs ++ ys)
first_bytes n xs ys few =
    sym (take-append-add xs ys (n - length xs)) ∙ ap (λ (k : ℕ). take k (xs ++ ys)) (omega arith)

-- more was taken than is kept
pub is_over_now : (over : Bool) (n m : ℕ) → n < m → true ≡ (over || nat_lt n m)
is_over_now true n m more = refl
is_over_now false n m more = grind (arith, nat_tests)

-- no more was taken than is kept
pub is_over_still : (over : Bool) (n m : ℕ) → m ≤ n → over ≡ (over || nat_lt n m)
is_over_still true n m few = refl
is_over_still false n m few = grind (arith, nat_tests)

-- the reported bytes gain a whole piece
pub gains_whole : (over : Bool) (held new piece : List ℕ) → new ≡ held ++ piece
    → Gains (if over then None else Some held) (if over then None else Some new) (take (length piece) piece)
gains_whole true held new piece e = tt
gains_whole false held new piece e =
    e ∙ ap (λ (l : List ℕ). held ++ l) (sym (take_all (length piece) piece (omega arith)))
