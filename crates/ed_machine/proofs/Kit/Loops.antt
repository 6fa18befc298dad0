-- Loops of a path: its turn is a path, and so is the whole.
use Rattle.ed_machine.proofs.Names.{List, suc, zero, ◌++◌, ◌*◌, [], arith, ℕ, ◌+◌, ◌<◌, ◌∷◌, ◌≡◌}
use Rattle.ed_machine.proofs.Kit.Frames.{Frame, Moment}
use Rattle.ed_machine.proofs.Kit.Paths.{Path, stay, followed}

-- what n turns print
abbrev pub printed : (ℕ → List ℕ) → ℕ → List ℕ
printed code zero = []
printed code (suc n) = printed code n ++ code n

-- the orders of n turns
abbrev pub spent : (ℕ → ℕ) → ℕ → ℕ
spent orders zero = 0
spent orders (suc n) = spent orders n + orders n

-- a loop with a counter whose turns are of different lengths
pub varying : {n h : ℕ} {f : Frame n h} (orders : ℕ → ℕ) (at : ℕ → Moment) (code : ℕ → List ℕ) (turns : ℕ)
    → ((i : ℕ) → i < turns → Path f (orders i) (at i) (code i) (at (suc i)))
    → Path f (spent orders turns) (at 0) (printed code turns) (at turns)
varying orders at code zero turn = stay
varying orders at code (suc t) turn =
    followed (varying orders at code t (λ i l. turn i (omega arith))) (turn t (omega arith))

module _ {n h : ℕ} {f : Frame n h} {k : ℕ} where
  -- a loop with a counter: k orders lead from the moment before a turn to the one before the next
  pub rounds : (at : ℕ → Moment) (code : ℕ → List ℕ) (turns : ℕ)
      → ((i : ℕ) → i < turns → Path f k (at i) (code i) (at (suc i)))
      → Path f (turns * k) (at 0) (printed code turns) (at turns)
  rounds at code zero turn = let e : 0 * k ≡ 0 = omega arith in rw e stay
  rounds at code (suc t) turn =
      let e : suc t * k ≡ t * k + k = omega arith in
      rw e (followed (rounds at code t (λ i l. turn i (omega arith))) (turn t (omega arith)))

  -- one that prints nothing
  pub quiet_rounds : (at : ℕ → Moment) (turns : ℕ) → ((i : ℕ) → i < turns → Path f k (at i) [] (at (suc i)))
      → Path f (turns * k) (at 0) [] (at turns)
  quiet_rounds at zero turn = let e : 0 * k ≡ 0 = omega arith in rw e stay
  quiet_rounds at (suc t) turn =
      let e : suc t * k ≡ t * k + k = omega arith in
      rw e (followed (quiet_rounds at t (λ i l. turn i (omega arith))) (turn t (omega arith)))

-- ---- a loop that walks a list and prints nothing, whose turns are of different lengths: the moments have, besides the
-- items that are left, an x; Fine says of it what the turn needs. The moment when no item is left is the one after the
-- loop

-- the orders of all turns, and what the moments have after the last
abbrev pub all_spent : {X : Type 0} (orders : X → ℕ → ℕ) (next : X → ℕ → List ℕ → X) → X → List ℕ → ℕ
all_spent orders next x [] = 0
all_spent orders next x (c ∷ cs) = orders x c + all_spent orders next (next x c cs) cs

abbrev pub walked : {X : Type 0} (next : X → ℕ → List ℕ → X) → X → List ℕ → X
walked next x [] = x
walked next x (c ∷ cs) = walked next (next x c cs) cs

pub quiet_walks : {n h : ℕ} {f : Frame n h} {X : Type 0} (at : X → List ℕ → Moment) (orders : X → ℕ → ℕ)
    (next : X → ℕ → List ℕ → X) (Fine : X → List ℕ → Type 0)
    → ((x : X) (c : ℕ) (cs : List ℕ) → Fine x (c ∷ cs)
    → Fine (next x c cs) cs × Path f (orders x c) (at x (c ∷ cs)) [] (at (next x c cs) cs))
    → (x : X) (cs : List ℕ) → Fine x cs
    → Fine (walked next x cs) [] × Path f (all_spent orders next x cs) (at x cs) [] (at (walked next x cs) [])
quiet_walks at orders next Fine turn x [] fine = (fine, stay)
quiet_walks at orders next Fine turn x (c ∷ cs) fine =
    let here = turn x c cs fine in
    let rest = quiet_walks at orders next Fine turn (next x c cs) cs here.0 in
    (rest.0, followed here.1 rest.1)
