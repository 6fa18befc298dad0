use Rattle.ed_machine.proofs.Names.{Kind, ap, Bool, refl, sym, ℕ, ◌∙◌, ◌≡◌, jump_order, obey, Obeyed, place_of, State}
use Rattle.ed_machine.proofs.Names.{Turn}
use Rattle.ed_orders.proofs.Shifts.{right_places, left_places}
use Rattle.ed_machine.proofs.machine.Machine.obey.Goals as goal

-- what an order of the word's kind does
does : (w : ℕ) (s : State) {k named : Kind} → k ≡ named → obey named w s ≡ obey k w s
does w s is = sym (ap (λ (k : Kind). obey k w s) is)

-- a jump by the test of its kind
jumps : (w : ℕ) (s : State) {k named : Kind} {b test : Bool} → k ≡ named → b ≡ test
    → obey named w s ≡ jump_order test (place_of s w) s → jump_order b (place_of s w) s ≡ obey k w s
jumps w s is tested named =
    ap (λ (b : Bool). jump_order b (place_of s w) s) tested ∙ sym named ∙ does w s is

-- a state and a turn are those of what an order of the word's kind does
told : {s : State} {t : Turn} {o named : Obeyed} → o ≡ named → record { state : s ≡ o.state; turn : t ≡ o.turn }
    → record { state : s ≡ named.state; turn : t ≡ named.turn }
told is r = rw is at r

pub right-requires-clause-high : goal.right-requires-clause-high
right-requires-clause-high c = rw c.places.ensures.is (right_places c.args.word c.requires.word (cc))

pub left-requires-clause-high : goal.left-requires-clause-high
left-requires-clause-high c = rw c.places-in-L.ensures.is (left_places c.args.word c.requires.word (cc))

pub invariant_of-self : goal.invariant_of-self
invariant_of-self c = c.self.invariant

pub invariant_of-self-in-V : goal.invariant_of-self-in-V
invariant_of-self-in-V c = c.self-in-V.invariant

pub invariant_of-self-in-N : goal.invariant_of-self-in-N
invariant_of-self-in-N c = c.self-in-N.invariant

pub invariant_of-self-in-T : goal.invariant_of-self-in-T
invariant_of-self-in-T c = c.self-in-T.invariant

pub invariant_of-self-in-C : goal.invariant_of-self-in-C
invariant_of-self-in-C c = c.self-in-C.invariant

pub invariant_of-self-in-R : goal.invariant_of-self-in-R
invariant_of-self-in-R c = c.self-in-R.invariant

pub invariant_of-self-in-L : goal.invariant_of-self-in-L
invariant_of-self-in-L c = c.self-in-L.invariant

pub invariant_of-self-in-Y : goal.invariant_of-self-in-Y
invariant_of-self-in-Y c = c.self-in-Y.invariant

pub returns-in-E : goal.returns-in-E
returns-in-E c =
    told (jumps c.args.word c.args.self.now c.in-E.is c.is_negative-jumps.ensures.positive refl) c.jump.ensures

pub returns-in-G : goal.returns-in-G
returns-in-G c =
    told (jumps c.args.word c.args.self.now c.in-G.is c.is_negative-jumps-in-G.ensures.negative refl) c.jump-in-G.ensures

pub returns-in-I : goal.returns-in-I
returns-in-I c = told (does c.args.word c.args.self.now c.in-I.is) c.take_row.ensures

pub returns-in-O : goal.returns-in-O
returns-in-O c = told (does c.args.word c.args.self.now c.in-O.is) c.print.ensures

pub returns-in-Z : goal.returns-in-Z
returns-in-Z c = told (does c.args.word c.args.self.now c.in-Z.is) c.stop.ensures
