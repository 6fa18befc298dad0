-- What every line of a script keeps of a session: its start and its limit, and that each order counted was obeyed.
use Rattle.ed_stepper.proofs.Kit.{ne_eqb, Turn, NoOrder, NoTape, step, State, AreObeyed, is_obeyed, state_after}
use Rattle.ed_stepper.proofs.Kit.{free_sum, [], arith, Bool, false, if◌then◌else◌, List, nat_eq, None, Option, refl}
use Rattle.ed_stepper.proofs.Kit.{Some, subst, true, ℕ, ◌+◌, ◌∷◌, ◌≡◌, ◌≤◌, blocked_end, move_orders, own_end}
use Rattle.ed_stepper.proofs.Kit.{stopped_after, after_text_of, is_too_far, left_by, LeftBy, play, writes, left, Stand}
use Rattle.ed_stepper.proofs.Kit.{stands_at, SessionCommand, MoveEnd, MoveTarget, Orders}
use Rattle.ed_machine.proofs.LeastNumbers.{least_below}
use Rattle.ed_stepper.specs.MoveEnds.{or_else}
use Rattle.ed_stepper.specs.Scripts.{after_move}
use Rattle.ed_stepper.proofs.Founds.{move_ends}
use Rattle.ed_stepper.specs.declared.commands.SessionCommand.TheVariants as commands
use Rattle.ed_stepper.specs.declared.moves.MoveEnd.TheVariants as ends

-- ---- a move

-- if a move has no end, the next order is obeyed
none_of : (stop same : Bool) (own : Option MoveEnd) (turn : Turn) → same ≡ false
    → (if stop then Some ends.Stopped else or_else own (if same then Some ends.Limit else blocked_end turn)) ≡ None
    → is_obeyed turn ≡ true
none_of true same own turn low h = cc
none_of false true own turn low h = cc
none_of false false (Some end) turn low h = cc
none_of false false None (NoOrder function) low h = cc
none_of false false None NoTape low h = cc
none_of false false None turn low h = refl

-- each order of a move is obeyed
pub move_free : (aim : MoveTarget) (n : ℕ) (s : State) → AreObeyed (move_orders aim n s) s
unfolding move_orders
move_free aim n s j below =
    let none = (move_ends aim n s).first j below in
    let most : move_orders aim n s ≤ n = least_below _ n in
    none_of (stopped_after j s) (nat_eq j n) (own_end aim j s) (step (state_after j s)).turn
    (ne_eqb j n (omega (arith, below, most))) none

pub move_within : (aim : MoveTarget) (n : ℕ) (s : State) → move_orders aim n s ≤ n
unfolding move_orders
move_within aim n s = least_below _ n

-- ---- a line, and lines one after the other

-- a session that began in this state
pub record Keeps (first t : Stand) : Type 0 where
  pub start : t.start ≡ first.start
  pub limit : t.limit ≡ first.limit
  pub free : AreObeyed t.done t.start
  pub most : t.done ≤ t.limit

pub moved_keeps : (aim : MoveTarget) {first t : Stand} → Keeps first t → Keeps first (after_move aim t)
moved_keeps aim {first} {t} k =
    let n = move_orders aim (left t) (stands_at t) in
    let few = move_within aim (left t) (stands_at t) in
    record {
      start = k.start;
      limit = k.limit;
      free = free_sum t.done n t.start k.free (move_free aim (left t) (stands_at t));
      most = omega (arith, few, k.most);
    }

line_keeps : (c : SessionCommand) {first t : Stand} → Keeps first t → Keeps first (left_by c t)
line_keeps (commands.Move aim) k = moved_keeps aim k
line_keeps (commands.Back n) k = record {
  start = k.start;
  limit = k.limit;
  free = λ j below. k.free j (omega arith);
  most = omega (arith, k.most);
}
line_keeps (commands.Trace n) k = moved_keeps (Orders n) k
line_keeps c k = k

play_keeps : (ran : List SessionCommand) (line : ℕ) {first t : Stand} → Keeps first t
    → Keeps first (play line ran t).stand
play_keeps [] line k = k
play_keeps (c ∷ ran) line {first} {t} k =
    by_test (is_too_far c t) (play_keeps ran (line + 1) (line_keeps c k))
  where
    by_test : (b : Bool) → Keeps first (play (line + 1) ran (left_by c t)).stand
        → Keeps first (if b then record { text = []; stand = t; refused = Some (record { line = line; done = t.done }) }
        else after_text_of (writes c t) (play (line + 1) ran (left_by c t))).stand
    by_test true rest = k
    by_test false rest = rest

-- wherever a line leaves a session
pub left_keeps : {all : List SessionCommand} {first t : Stand} → first.done ≡ 0 → LeftBy all first t → Keeps first t
left_keeps {first = first} none l =
    subst (Keeps first) l.stand (play_keeps l.ran 1 (record {
      start = refl;
      limit = refl;
      free = λ j below. absurd (omega arith);
      most = omega arith;
    }))
