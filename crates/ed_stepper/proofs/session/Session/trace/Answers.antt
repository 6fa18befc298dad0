use Rattle.ed_stepper.proofs.Kit.{State, ap, arith, refl, Stand}
use Rattle.ed_stepper.proofs.Founds.{at_most, within_left}
use Rattle.ed_stepper.proofs.session.Session.trace.Goals as goal

pub list_functions-requires-clause-orders : goal.list_functions-requires-clause-orders
list_functions-requires-clause-orders c =
    let m = c.go-moved.ensures in
    let i = c.self.invariant in
    let same = ap (λ (x : State). x.orders) c.in_ok-machine.ensures in
    let limit = ap (λ (x : Stand). x.limit) c.self.view_is in
    let done = ap (λ (x : Stand). x.done) c.self.view_is in
    omega (arith, within_left m, m.done_is, i.count, i.most, i.room, same, limit, done)

pub list_functions-requires-clause-room : goal.list_functions-requires-clause-room
list_functions-requires-clause-room c =
    let m = c.go-moved.ensures in
    let done = ap (λ (x : Stand). x.done) c.self.view_is in
    omega (
      arith,
      at_most m,
      m.done_is,
      done,
      c.in_ok-functions.ensures.len,
      c.in_ok-functions.ensures.capacity,
    )

pub returns : goal.returns
returns c =
    let listed = c.list_functions.ensures in
    let none = c.in_ok-functions.ensures.items in (
      c.go-moved.ensures,
      rw (← c.self.view_is, listed, none, c.in_ok-machine.ensures, c.self.invariant.is) refl,
    )
