-- `print`, from the library's table to what it does.
use Rattle.ed_routines.proofs.Kit.{A_F, E_F, S_F, short_at, Kind, Frame, Moment, state, Leads, IsOrder, Leads-path}
use Rattle.ed_routines.proofs.Kit.{Path, Holds, length_patched, patched, begun, flag_of, spared, [], get_or, length}
use Rattle.ed_routines.proofs.Kit.{refl, rules, Some, ℕ, ◌%◌, ◌*◌, ◌+◌, ◌/◌, ◌<◌, ◌∙◌, ◌∷◌, ◌≡◌, locations_most, State}
use Rattle.ed_routines.proofs.Kit.{state_after, print, with_h, digits, print_orders, Keeps, Returned, caller}
use Rattle.ed_machine.proofs.Kit.Paths.{state_after-each}
use Rattle.ed_routines.proofs.Called.{IsCalled, image, holds_h, get_or-kept, Beside-outside, call_of, state-begins}
use Rattle.ed_routines.proofs.Digits.{tens}
use Rattle.ed_routines.proofs.Print.{Given, Work, cells, print_weight, run, Walk-whole, before_tens}
use Rattle.ed_routines.proofs.Print.{spelled_is, shows_is, sum_is}
use Rattle.ed_routines.proofs.Walks.{Walk, Weights, total, total_of_path, weight}

module _ {b h top : ℕ} {s : State} (o : IsCalled print (with_h h) b h top s) (small : short_at s.store h < 65536) where
  abbrev n : ℕ
  n = short_at s.store h

  abbrev given : Given
  given = record {
    call = call_of o.stands.low o.within;
    h = h;
    ws = s.store.words;
    all = o.all;
    at2 = o.stands.at2;
    at3 = o.stands.at3;
    room = o.within.back;
    away = record { below = o.within.near; beside = Beside-outside s.store.words o.all o.outside };
  }

  abbrev f : Frame 51 0
  f = given.call.frame

  image_holds : Holds (image print b (h ∷ [])) s.store.words b
  image_holds = holds_h o.stands o.outside refl

  abbrev first : Work
  first = record {
    at11 = get_or s.store.words (b + 11) 0;
    at38 = get_or s.store.words (b + 38) 0;
    at47 = get_or s.store.words (b + 47) 0;
    at48 = get_or s.store.words (b + 48) 0;
    at49 = get_or s.store.words (b + 49) 0;
    at50 = get_or s.store.words (b + 50) 0;
  }

  abbrev moment : Moment
  moment = run given first (A_F + 2 * caller s) 0 s.last

  starts : state f moment s.orders ≡ s
  starts = state-begins (h ∷ []) o.stands o.within o.all image_holds

  -- the words that change, as they are left
  abbrev left : Work
  left = record {
    at11 = S_F + 2 * (b + 47);
    at38 = E_F + 2 * (caller s + 2);
    at47 = n % 10;
    at48 = flag_of (begun (before_tens n) (n / 10 % 10));
    at49 = 4096 * (n % 10);
    at50 = spared (before_tens n) (n / 10 % 10);
  }

  abbrev end : Moment
  end = record (run given left 0 0 (Some (n % 10))) { counter = caller s + 2 }

  walk : (w : Weights) → Walk w f (print_orders n) (print_weight w n) moment (11 ∷ digits n) end
  walk w =
      rw (sum_is (tens n), shows_is (tens n), spelled_is (tens n) (n % 10)) at
      (Walk-whole given w first n s.last refl small)

  path : Path f (print_orders n) moment (11 ∷ digits n) end
  path = (walk (record { plain = 1; middle = 1; taken = 1; passed_E = 1; passed_G = 1 })).path

  abbrev pub last : State
  last = record s {
    store = record { words = patched 0 s.store.words b (cells b h left); sandwich = s.store.sandwich };
    acc = 0;
    counter = caller s + 2;
    last = Some (n % 10);
    orders = s.orders + print_orders n;
  }

  pub all_last : length last.store.words ≡ 1024
  all_last = search (rules, locations_most, length_patched)

  -- that many orders print the digits and lead to the order after the call
  pub leads_to : Leads (print_orders n) s (11 ∷ digits n) last
  leads_to = rw starts at (Leads-path path s.orders)

  -- what holds of every order that stays below the location holds before each of them
  pub keeps_below : (P : State → Type 0) → ((kind : Kind) (x : State) → IsOrder top kind x → P x) → (j : ℕ)
      → j < print_orders n
      → P (state_after j s)
  keeps_below P is j l = rw starts at (state_after-each P is path s.orders j l)

  -- what is counted for each order that stays below the location, by its kind and the accumulator, is the weight of the
  -- routine's orders
  pub weighs : (w : Weights) (of : State → ℕ)
      → ((kind : Kind) (x : State) → IsOrder top kind x → of x ≡ weight w kind x.acc)
      → total of (print_orders n) s ≡ print_weight w n
  weighs w of by_order = (rw starts at (total_of_path w of by_order (walk w).path s.orders)) ∙ (walk w).weighs

  module _ (t : State) (e : t ≡ last) where
    pub returned : Returned (print_orders n) s.tape (Some (n % 10)) s t
    returned = rw e refl

    pub keeps : Keeps print b s t
    keeps = rw e (record {
      words = λ i other. get_or-kept (h ∷ []) other s.store.words (cells b h left) refl refl image_holds;
    })
