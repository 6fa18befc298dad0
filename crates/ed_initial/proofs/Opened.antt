-- The state in which a load begins, as the paths see it.
use Rattle.ed_initial.proofs.Kit.{rules, T_F, Moment, patched, ◌^◌, IsStore, State, opening, ap, arith, Bool, drop}
use Rattle.ed_initial.proofs.Kit.{false, get_or, length, List, refl, set, sym, ℕ, ◌*◌, ◌++◌, ◌/◌, ◌<◌, ◌∙◌, ◌∷◌, ◌≡◌}
use Rattle.ed_initial.proofs.Kit.{IsStarted, initial_orders, IsNotationState, Scratch, Working}
use Rattle.std.proofs.Common.{drop-cons}
use Rattle.std.proofs.lemmas.List.{set-get_or}
use Rattle.ed_machine.proofs.Kit.Window.{patched_one, append-drop}
use Rattle.ed_initial.proofs.Inside.{between}
use Rattle.ed_initial.proofs.Paths.{Kept, state, ToRest, cells, moment, start_path}

-- what does not change during a load from this state
abbrev pub frame : (s : State) → IsStore s.store → Kept
frame s store = record {
  size = s.size;
  digits = s.store.sandwich;
  room = omega (arith, store.digits_are);
  last = s.last;
}

-- the changing words: those of the listing, and the words after it
abbrev pub listed : List ℕ → Working
listed ws = record {
  at0 = T_F;
  at1 = 12328;
  at20 = 86032;
  at22 = 20566;
  at40 = 1;
  at41 = get_or ws 41 0;
  at42 = get_or ws 42 0;
  at43 = get_or ws 43 0;
}

abbrev pub begins : (s : State) → IsStore s.store → Moment
begins s store =
    let r = moment (frame s store) (listed s.store.words) s.store.words (get_or s.store.sandwich 20 false) s.acc
    0 s.tape in
    record r { multiplier = s.multiplier }

words_are : (ws : List ℕ) → length ws ≡ 1024 → ((i : ℕ) → i < 41 → get_or ws i 0 ≡ get_or initial_orders i 0)
    → patched 0 ws 0 (cells (listed ws)) ≡ ws
unfolding patched
words_are ws long orders =
    let behind : get_or ws 41 0 ∷ get_or ws 42 0 ∷ get_or ws 43 0 ∷ drop 44 ws ≡ drop 41 ws =
    ap (λ x. get_or ws 41 0 ∷ get_or ws 42 0 ∷ x) (sym (drop-cons ws 43 0 (omega arith)))
    ∙ ap (λ x. get_or ws 41 0 ∷ x) (sym (drop-cons ws 42 0 (omega arith)))
    ∙ sym (drop-cons ws 41 0 (omega arith)) in
    ap (λ x. initial_orders ++ x) behind ∙ append-drop 0 initial_orders ws (omega arith) (λ j l. sym (orders j l))

pub state-opened : (s : State) (store : IsStore s.store) → IsStarted s
    → state (frame s store) (begins s store) s.orders ≡ s
state-opened s store started = search (rules, words_are, patched_one, set-get_or)

-- what the first rest leaves open
abbrev pub first_scratch : State → Scratch
first_scratch s = record {
  at0 = s.acc / 2 ^ 54;
  at1 = 12328;
  at20 = 86032;
  at40 = 1;
  at41 = get_or s.store.words 41 0;
  digit40 = get_or s.store.sandwich 20 false;
}

-- the first nine orders
pub first_path : (s : State) (store : IsStore s.store)
    → ToRest (frame s store) 9 (begins s store)
    (between (frame s store) s.store.words (first_scratch s) (opening s.store.words) s.tape)
first_path s store =
    start_path (frame s store) (listed s.store.words) s.store.words (get_or s.store.sandwich 20 false) s.acc
    s.multiplier s.tape

pub opening_notation : (ws : List ℕ) → get_or ws 42 0 < 2 ^ 17 → IsNotationState (opening ws)
opening_notation ws h = omega arith

-- the state of a path, as the definitions of the rests and of the entry write it
pub state-shown : (f : Kept) (w : Working) (words : List ℕ) (b : Bool) (acc counter : ℕ) (tape : List ℕ) (k : ℕ)
    → state f (moment f w words b acc counter tape) k ≡ record {
      size = f.size;
      store = record { words = cells w ++ drop 44 words; sandwich = set f.digits 20 b };
      acc = acc;
      multiplier = T_F * 2 ^ 18;
      counter = counter;
      tape = tape;
      last = f.last;
      orders = k;
    }
unfolding patched
state-shown f w words b acc counter tape k = rw (patched_one false f.digits 20 b f.room) refl
