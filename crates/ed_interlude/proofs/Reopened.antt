-- The state of a machine that returned, as the paths see it, and the two orders that place the directive.
use Rattle.ed_interlude.proofs.Kit.{ap, arith, Bool, false, get_or, length, List, refl, suc, sym, ℕ, ◌++◌, ◌+◌, ◌/◌}
use Rattle.ed_interlude.proofs.Kit.{◌<◌, ◌^◌, ◌∙◌, ◌≡◌, ◌≤◌, IsStore, State, initial_orders, frame, state, IsReturned}
use Rattle.ed_initial.proofs.Kit.{drop, lit<, ◌∷◌, Moment, patched, Working}
use Rattle.std.proofs.Common.{take, drop-cons, rules}
use Rattle.std.proofs.lemmas.List.{set-get_or, get_or-drop, get_or-take, drop-drop, length-drop}
use Rattle.ed_machine.proofs.Kit.Frames.{same_state}
use Rattle.ed_machine.proofs.Kit.Moves.{T_top, E_jumps}
use Rattle.ed_machine.proofs.Kit.Places.{own}
use Rattle.ed_machine.proofs.Kit.Window.{patched_one, append-drop}
use Rattle.ed_initial.proofs.Paths.{Kept, ToRest, ends, on, stay, cells, moment}

-- the changing words as the program left them
abbrev pub held : List ℕ → Working
held ws = record {
  at0 = get_or ws 0 0;
  at1 = get_or ws 1 0;
  at20 = get_or ws 20 0;
  at22 = get_or ws 22 0;
  at40 = get_or ws 40 0;
  at41 = get_or ws 41 0;
  at42 = get_or ws 42 0;
  at43 = 1;
}

-- a list from one of its items onwards
one_more : (ws : List ℕ) (k w : ℕ) (xs : List ℕ) → k < length ws → get_or ws k 0 ≡ w → xs ≡ drop (suc k) ws
    → w ∷ xs ≡ drop k ws
one_more ws k w xs l h e = ap (λ x. x ∷ xs) (sym h) ∙ ap (λ x. get_or ws k 0 ∷ x) e ∙ sym (drop-cons ws k 0 l)

-- a list from a sublist of its items onwards
stretch : (cs ws : List ℕ) (k m : ℕ) → k + length cs ≡ m → m ≤ length ws
    → ((j : ℕ) → j < length cs → get_or ws (k + j) 0 ≡ get_or cs j 0) → cs ++ drop m ws ≡ drop k ws
stretch cs ws k m e l h =
    let long : length cs ≤ length (drop k ws) = omega (arith, length-drop k ws) in
    let whole = append-drop 0 cs (drop k ws) long (λ j b. sym (get_or-drop k ws j 0 ∙ h j b)) in
    let rest : drop (length cs) (drop k ws) ≡ drop m ws = drop-drop (length cs) k ws ∙ ap (λ x. drop x ws) e in
    ap (λ x. cs ++ x) (sym rest) ∙ whole

-- the words of the store are those of the Initial Orders, with the changing words in them
held_words : (s : State) → IsReturned s → length s.store.words ≡ 1024
    → cells (held s.store.words) ++ drop 44 s.store.words ≡ s.store.words
held_words s h long =
    let ws = s.store.words in
    let d43 = one_more ws 43 1 (drop 44 ws) (omega arith) h.one refl in
    let d42 = one_more ws 42 _ _ (omega arith) refl d43 in
    let d41 = one_more ws 41 _ _ (omega arith) refl d42 in
    let d40 = one_more ws 40 _ _ (omega arith) refl d41 in
    let cs = take 17 (drop 23 initial_orders) in
    let d23 = ap (λ x. cs ++ x) d40
    ∙ stretch cs ws 23 40 refl (omega arith) (λ j b. h.high (23 + j) (omega arith) (omega arith) ∙ high j b) in
    let d22 = one_more ws 22 _ _ (omega arith) refl d23 in
    let d21 = one_more ws 21 114768 _ (omega arith) (h.middle 21 (omega arith) (omega arith)) d22 in
    let d20 = one_more ws 20 _ _ (omega arith) refl d21 in
    let bs = take 18 (drop 2 initial_orders) in
    let d2 = ap (λ x. bs ++ x) d20
    ∙ stretch bs ws 2 20 refl (omega arith) (λ j b. h.low (2 + j) (omega arith) (omega arith) ∙ low j b) in
    let d1 = one_more ws 1 _ _ (omega arith) refl d2 in
    one_more ws 0 _ _ (omega arith) refl d1
  where
    high : (j : ℕ) → j < 17 → get_or initial_orders (23 + j) 0 ≡ get_or (take 17 (drop 23 initial_orders)) j 0
    high j b = sym (get_or-drop 23 initial_orders j 0) ∙ sym (get_or-take 17 (drop 23 initial_orders) j 0 b)

    low : (j : ℕ) → j < 18 → get_or initial_orders (2 + j) 0 ≡ get_or (take 18 (drop 2 initial_orders)) j 0
    low j b = sym (get_or-drop 2 initial_orders j 0) ∙ sym (get_or-take 18 (drop 2 initial_orders) j 0 b)

abbrev pub reopens : (s : State) → IsStore s.store → Moment
reopens s store =
    moment (frame s store) (held s.store.words) s.store.words (get_or s.store.sandwich 20 false) s.acc 25 s.tape

pub state-reopened : (s : State) (store : IsStore s.store) → IsReturned s
    → state (frame s store) (reopens s store) s.orders ≡ s
unfolding patched
state-reopened s store back = search (rules, held_words, patched_one, set-get_or, same_state)

-- the two orders: the 17 most significant digits of the accumulator are placed at 22
pub return_path : (f : Kept) (w : Working) (words : List ℕ) (digit40 : Bool) (acc u : ℕ) (tape : List ℕ)
    → acc / 2 ^ 54 ≡ u
    → ToRest f 2 (moment f w words digit40 acc 25 tape) (moment f (record w { at22 = u }) words digit40 0 34 tape)
return_path f w words digit40 acc u tape is =
    ends (on (T_top 25 (own 22) u refl is) refl stay) (E_jumps 26 (own 34) refl (lit< tt)) refl
