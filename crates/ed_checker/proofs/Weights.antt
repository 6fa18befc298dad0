-- The weights of a guest's orders, if the weight of an order is the number of orders of its turn.
use Rattle.ed_checker.proofs.Kit.{kinds, Kind, E, G, [], ap, arith, Bool, get_or, List, nat_eq, None, Option, refl}
use Rattle.ed_checker.proofs.Kit.{rules, Some, subst, suc, true, zero, ℕ, ◌&&◌, ◌+◌, ◌∷◌, ◌≡◌, and_parts, function_of}
use Rattle.ed_checker.proofs.Kit.{kind_of_function, next_word, State, state_after, checked_orders, orders_by}
use Rattle.ed_checker.proofs.Kit.{turn_orders}
use Rattle.std.proofs.Common.{not}
use Rattle.ed_routines.proofs.Walks.{Weights, total, weight}

-- the orders of a turn by the kind of the guest's order
abbrev pub turn_weights : Weights
turn_weights = record { plain = 35; middle = 33; taken = 16; passed_E = 17; passed_G = 18 }

-- whether a function of a kind has the kind's orders
abbrev weighs_as : ℕ → Option Kind → Bool
weighs_as n None = true
weighs_as n (Some E) = nat_eq n 3
weighs_as n (Some G) = nat_eq n 27
weighs_as n (Some kind) =
    not (nat_eq n 3) && (not (nat_eq n 27) && nat_eq (orders_by n 0) (weight turn_weights kind 0))

-- whether each function from the first one upwards has
abbrev all_weigh : List (Option Kind) → ℕ → Bool
all_weigh [] i = true
all_weigh (k ∷ ks) i = weighs_as i k && all_weigh ks (i + 1)

weighs_at : (ks : List (Option Kind)) (i n : ℕ) → all_weigh ks i ≡ true → weighs_as (i + n) (get_or ks n None) ≡ true
weighs_at [] i n h = refl
weighs_at (k ∷ ks) i zero h =
    let e : i ≡ i + 0 = omega arith in
    subst (λ j. weighs_as j k ≡ true) e (and_parts (weighs_as i k) (all_weigh ks (i + 1)) h).0
weighs_at (k ∷ ks) i (suc n) h =
    let e : i + 1 + n ≡ i + suc n = omega arith in
    subst (λ j. weighs_as j (get_or ks n None) ≡ true) e
    (weighs_at ks (i + 1) n (and_parts (weighs_as i k) (all_weigh ks (i + 1)) h).1)

by_kind : (kind : Kind) (n acc : ℕ) → weighs_as n (Some kind) ≡ true → orders_by n acc ≡ weight turn_weights kind acc
by_kind kind n acc h = search rules

-- the turn of a guest whose next order is of a kind
pub turn_weighs : (kind : Kind) (s : State) → kind_of_function (function_of (next_word s)) ≡ Some kind
    → turn_orders s ≡ weight turn_weights kind s.acc
turn_weighs kind s is =
    let n : ℕ = function_of (next_word s) in
    let e : 0 + n ≡ n = omega arith in
    let there : weighs_as n (kind_of_function n) ≡ true =
    subst (λ j. weighs_as j (kind_of_function n) ≡ true) e (weighs_at kinds 0 n refl) in
    by_kind kind n s.acc (subst (λ k. weighs_as n k ≡ true) is there)

-- the sum of the turns
pub checked_total : (g : State) (q : ℕ) → checked_orders g q ≡ total turn_orders q g
unfolding checked_orders total
checked_total g zero = refl
checked_total g (suc q) = ap (λ x. x + turn_orders (state_after q g)) (checked_total g q)
