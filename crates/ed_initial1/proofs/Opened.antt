-- The state in which a load begins and the state at the entry, as the paths see them.
use Rattle.ed_initial1.proofs.Kit.{drop-cons, T_F, Full, with_short, patched_one, length-append, [], ap, arith, drop}
use Rattle.ed_initial1.proofs.Kit.{false, get_or, length, List, refl, suc, sym, ℕ, ◌%◌, ◌*◌, ◌++◌, ◌+◌, ◌<◌, ◌^◌}
use Rattle.ed_initial1.proofs.Kit.{◌∙◌, ◌∷◌, ◌≡◌, ◌≤◌, step, State, Moment, patched, digits_number, at_entry1, IsStarted1}
use Rattle.ed_initial1.proofs.Kit.{costs1, IsFirst, Item1, item_number, last_of, word1, words, first_orders}
use Rattle.ed_machine.proofs.Names.{within, address_of, function_of, is_long, Cells, kind_of_function, next_word}
use Rattle.ed_machine.proofs.Names.{obey_word}
use Rattle.std.proofs.Common.{length-take, take}
use Rattle.std.proofs.lemmas.List.{drop_at, set-get_or}
use Rattle.ed_notation.proofs.Kit.{over}
use Rattle.ed_notation.proofs.Placing.{laid, over_laid}
use Rattle.ed_words.proofs.SizeLemmas.{within_below}
use Rattle.ed_machine.proofs.Kit.Frames.{same_state}
use Rattle.ed_machine.proofs.Kit.Window.{append-drop}
use Rattle.ed_initial1.specs.Items.{item_digits}
use Rattle.ed_initial1.proofs.Paths.{Working, Kept, cells, moment}
use Rattle.ed_initial1.proofs.Rests.{third, thirds, written, final}
use Rattle.ed_initial1.proofs.Walks.{state}

-- what the paths require of a store
pub record HasItsLengths (c : Cells) : Type 0 where
  pub words : length c.words ≡ 1024
  pub sandwich : length c.sandwich ≡ 512

-- what stays during a load from this state
abbrev pub kept : State → Kept
kept s = record { digits = s.store.sandwich; last = s.last }

-- the words that change, as the listing has them, and the word at 31
abbrev pub listed : List ℕ → Working
listed ws = record { at0 = T_F; at1 = 86020; at2 = T_F; at3 = 12300; at25 = 20542; at31 = get_or ws 31 0 }

-- the machine at the first order, on a tape
abbrev pub begins : State → List ℕ → Moment
begins s tape =
    record (moment (kept s) (listed s.store.words) s.store.words (get_or s.store.sandwich 0 false) s.acc 0 tape) {
      multiplier = s.multiplier;
    }

words_are : (ws : List ℕ) → length ws ≡ 1024 → ((i : ℕ) → i < 31 → get_or ws i 0 ≡ get_or first_orders i 0)
    → patched 0 ws 0 (cells (listed ws)) ≡ ws
unfolding patched
words_are ws long orders =
    ap (λ x. first_orders ++ x) (sym (drop-cons ws 31 0 (omega arith)))
    ∙ append-drop 0 first_orders ws (omega arith) (λ j l. sym (orders j l))

pub state-opened : (s : State) → HasItsLengths s.store → IsStarted1 s → state (begins s s.tape) s.orders ≡ s
state-opened s store started =
    let words = words_are s.store.words store.words started.orders in
    let digits =
    patched_one false s.store.sandwich 0 (get_or s.store.sandwich 0 false) (omega (arith, store.sandwich))
    ∙ set-get_or s.store.sandwich 0 false in
    same_state s (sym started.size) words digits refl (sym started.counter)

-- words placed from a location upwards
written_laid : (vs : List ℕ) (a : ℕ) (placed : List (ℕ × ℕ)) (ws : List ℕ)
    → written (over placed ws) a vs ≡ over (laid a vs placed) ws
written_laid [] a placed ws = refl
written_laid (v ∷ vs) a placed ws = written_laid vs (a + 1) ((a, v) ∷ placed) ws

pub drop-behind : (ws : List ℕ) (a : ℕ) (vs : List ℕ) → a + length vs ≤ length ws
    → drop a (written ws a vs) ≡ vs ++ drop (a + length vs) ws
drop-behind ws a vs h =
    ap (drop a) (written_laid vs a [] ws ∙ over_laid ws a vs [] h)
    ∙ drop_at (take a ws) (vs ++ drop (a + length vs) ws) a (omega (arith, length-take a ws))

pub length_words : (is : List Item1) → length (words is) ≡ length is
length_words [] = refl
length_words (i ∷ is) = ap suc (length_words is)

-- the last digit row read
third_append : (y : ℕ) (xs ys : List ℕ) → third y (xs ++ ys) ≡ third (third y xs) ys
third_append y [] ys = refl
third_append y (x ∷ xs) ys = third_append (131062 + x) xs ys

thirds_is : (y : ℕ) (is : List Item1) → thirds y is ≡ third y (item_digits is)
thirds_is y [] = refl
thirds_is y (i ∷ is) = thirds_is (third y i.begun.digits) is ∙ sym (third_append y i.begun.digits (item_digits is))

third_after : (d : ℕ) (ds : List ℕ) → third (131062 + d) ds ≡ 131062 + last_of d ds
third_after d [] = refl
third_after d (x ∷ xs) = third_after x xs

third_last : (y : ℕ) (ds : List ℕ) → 1 ≤ length ds → third y ds ≡ 131062 + last_of 0 ds
third_last y [] h = absurd (omega arith)
third_last y (d ∷ ds) h = third_after d ds

some_digit : (ds : List ℕ) → 32 ≤ digits_number 0 ds → 1 ≤ length ds
some_digit [] h = absurd (omega arith)
some_digit (d ∷ ds) h = omega arith

three : (i : Item1) (is : List Item1) → 32 ≤ item_number i
    → thirds 12300 (i ∷ is) ≡ 131062 + last_of 0 (item_digits (i ∷ is))
three i is h =
    thirds_is 12300 (i ∷ is)
    ∙ third_last 12300 (item_digits (i ∷ is))
    (omega (arith, some_digit i.begun.digits h, length-append i.begun.digits (item_digits is)))

pub state-closed : {s : State} → HasItsLengths s.store → IsStarted1 s → {e : ℕ} {i : Item1} (is : List Item1)
    (rest : List ℕ) → IsFirst e i → 31 + length (i ∷ is) ≡ e
    → state (moment (kept s) (final e 12300 (word1 i) i is) (written s.store.words 32 (words is)) false 0 31 rest)
    (s.orders + (4 + costs1 (i ∷ is)))
    ≡ at_entry1 s (record { end = e; items = i ∷ is; rest = rest })
unfolding patched
state-closed {s} store started {e} {i} is rest first count =
    let ws = s.store.words in
    let t = three i is (omega (arith, first)) in
    let all = store.words in
    let last : 32 + length (words is) ≡ e = omega (arith, length_words is) in
    let d : drop 32 (written ws 32 (words is)) ≡ words is ++ drop e ws =
    drop-behind ws 32 (words is) (omega (arith, first.high)) ∙ ap (λ n. words is ++ drop n ws) last in
    let ds = patched_one false s.store.sandwich 0 false (omega (arith, store.sandwich)) in
    let size = sym started.size in
    let f = final e 12300 (word1 i) i is in
    λ k. record {
      size = size k;
      store = record { words = cells (record f { at3 = t k }) ++ d k; sandwich = ds k };
      acc = 0;
      multiplier = T_F * 2 ^ 18;
      counter = 31;
      tape = rest;
      last = s.last;
      orders = s.orders + (4 + costs1 (i ∷ is));
    }

-- T e S with the accumulator 0 clears location e
pub step-clears : (u : State) (e : ℕ) → u.size ≡ Full → u.acc ≡ 0 → next_word u ≡ T_F + 2 * e → e < 1024
    → (step u).state.store ≡ with_short u.store e 0
unfolding step
step-clears u e size acc word1 fits =
    let function : function_of (T_F + 2 * e) ≡ 5 = omega arith in
    let address : address_of (T_F + 2 * e) ≡ e = omega arith in
    let short : is_long (T_F + 2 * e) ≡ false = (let even : (T_F + 2 * e) % 2 ≡ 0 = omega arith in rw even refl) in
    let place : within u.size (address_of (T_F + 2 * e)) ≡ e =
    ap (λ z. within z (address_of (T_F + 2 * e))) size ∙ ap (within Full) address ∙ within_below Full e fits in
    ap (λ w. (obey_word (kind_of_function (function_of w)) w u).state.store) word1
    ∙ rw (function, short, place, acc) refl
