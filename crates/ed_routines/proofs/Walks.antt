-- Paths whose orders are weighed: a weight for each kind of order, and for a jump by whether it is taken.
use Rattle.ed_routines.proofs.Kit.{Kind, Frame, Moment, state, Does, IsOrder, on, Path, prints, stay, [], ap, arith}
use Rattle.ed_routines.proofs.Kit.{List, nat_lt, refl, suc, zero, ℕ, ◌*◌, ◌++◌, ◌+◌, ◌<◌, ◌^◌, ◌∙◌, ◌∷◌, ◌≡◌, ◌≤◌}
use Rattle.ed_routines.proofs.Kit.{step, State, state_after, if◌then◌else◌, rules}
use Rattle.ed_orders.specs.declared.kind.Kind.TheVariants.{E, F, G, H, L, N, X}
use Rattle.ed_machine.specs.declared.turn.Turn.{Turn}
use Rattle.ed_machine.specs.declared.turn.Turn.TheVariants.{Went, Printed}
use Rattle.ed_machine.proofs.Kit.Paths.{first_state, no_state}
use Rattle.ed_machine.proofs.Steps.{after_sum}

-- what is counted for an order: for one of the functions 0 to 15 and 28 to 31, for one of those between, for a jump
-- that is taken, and for an E and a G that are not
pub record Weights : Type 0 where
  pub plain : ℕ
  pub middle : ℕ
  pub taken : ℕ
  pub passed_E : ℕ
  pub passed_G : ℕ

-- for an order of a kind, obeyed with an accumulator
abbrev pub weight : Weights → Kind → ℕ → ℕ
weight w E acc = if nat_lt acc (2 ^ 70) then w.taken else w.passed_E
weight w G acc = if nat_lt acc (2 ^ 70) then w.passed_G else w.taken
weight w F acc = w.middle
weight w H acc = w.middle
weight w L acc = w.middle
weight w N acc = w.middle
weight w X acc = w.middle
weight w kind acc = w.plain

-- the weight of a path
abbrev pub weigh : {n h : ℕ} {f : Frame n h} {k : ℕ} {r t : Moment} {cs : List ℕ} → Weights → Path f k r cs t → ℕ
weigh w stay = 0
weigh w (on {kind = kind} {r = r} first rest) = weight w kind r.acc + weigh w rest
weigh w (prints {kind = kind} {r = r} first rest) = weight w kind r.acc + weigh w rest

-- a path of a weight
pub record Walk {n h : ℕ} (w : Weights) (f : Frame n h) (k v : ℕ) (r : Moment) (cs : List ℕ) (t : Moment) :
    Type 0 where
  pub path : Path f k r cs t
  pub weighs : weigh w path ≡ v

module _ {n h : ℕ} {f : Frame n h} {w : Weights} where
  first_on : {k v : ℕ} {kind : Kind} {r m t : Moment} {cs : List ℕ} → Does f kind r Went m → Walk w f k v m cs t
      → Walk w f (suc k) (weight w kind r.acc + v) r cs t
  first_on {kind = kind} {r} first rest = record {
    path = on first rest.path;
    weighs = ap (λ x. weight w kind r.acc + x) rest.weighs;
  }

  first_prints : {k v c : ℕ} {kind : Kind} {r m t : Moment} {cs : List ℕ} → Does f kind r (Printed c) m
      → Walk w f k v m cs t
      → Walk w f (suc k) (weight w kind r.acc + v) r (c ∷ cs) t
  first_prints {kind = kind} {r} first rest = record {
    path = prints first rest.path;
    weighs = ap (λ x. weight w kind r.acc + x) rest.weighs;
  }

  -- a walk after a path
  along : {a b v : ℕ} {r m t : Moment} {cs ds : List ℕ} (p : Path f a r cs m) → Walk w f b v m ds t
      → Walk w f (a + b) (weigh w p + v) r (cs ++ ds) t
  along {b = b} {v} stay next = search rules
  along {b = b} {v} (on {k = k} {kind = kind} {r = r} first rest) next =
      let e : suc k + b ≡ suc (k + b) = omega arith in
      let g : weight w kind r.acc + weigh w rest + v ≡ weight w kind r.acc + (weigh w rest + v) = omega arith in
      rw (e, g) (first_on first (along rest next))
  along {b = b} {v} (prints {k = k} {kind = kind} {r = r} first rest) next =
      let e : suc k + b ≡ suc (k + b) = omega arith in
      let g : weight w kind r.acc + weigh w rest + v ≡ weight w kind r.acc + (weigh w rest + v) = omega arith in
      rw (e, g) (first_prints first (along rest next))

  -- two walks make one
  pub walked : {a b u v : ℕ} {r m t : Moment} {cs ds : List ℕ} → Walk w f a u r cs m → Walk w f b v m ds t
      → Walk w f (a + b) (u + v) r (cs ++ ds) t
  walked first next = rw (← first.weighs) (along first.path next)

  -- a power is subtracted as often as possible, as `taken_away` says of paths
  pub walked_away : {v : ℕ} (moments : ℕ → ℕ → Moment) (power bound : ℕ)
      → ((u d : ℕ) → u + power < bound → d < 9 → Walk w f 8 v (moments (u + power) d) [] (moments u (d + 1)))
      → (q d r : ℕ) → (q * power + r < bound) × (d + q ≤ 9)
      → Walk w f (8 * q) (q * v) (moments (q * power + r) d) [] (moments r (d + q))
  walked_away {v} moments power bound once zero d r few =
      let e : 0 * power + r ≡ r = omega arith in
      let g : d + 0 ≡ d = omega arith in
      let z : 0 * v ≡ 0 = omega arith in
      rw (e, g, z) (record { path = stay; weighs = refl })
  walked_away {v} moments power bound once (suc q) d r few =
      let low = few.0 in
      let most = few.1 in
      let e : 8 * suc q ≡ 8 + 8 * q = omega arith in
      let g : d + suc q ≡ d + 1 + q = omega arith in
      let s : suc q * power + r ≡ q * power + r + power = omega arith in
      let x : suc q * v ≡ v + q * v = omega arith in
      rw (e, g, s, x) (walked (once (q * power + r) d (omega arith) (omega arith))
      (walked_away moments power bound once q (d + 1) r (omega arith, omega arith)))

-- ---- what is counted along the orders of the machine

-- the sum of a number over the states before the first k orders
unfoldable pub total : (State → ℕ) → ℕ → State → ℕ
total of zero s = 0
total of (suc k) s = total of k s + of (state_after k s)

pub total_first : (of : State → ℕ) (k : ℕ) (s : State) → total of (suc k) s ≡ of s + total of k (step s).state
unfolding total
total_first of zero s = let e = ap of (no_state s) in omega (arith, e)
total_first of (suc k) s =
    let e = total_first of k s in
    let g = ap of (first_state k s) in
    omega (arith, e, g)

pub total_sum : (of : State → ℕ) (a b : ℕ) (s : State)
    → total of (a + b) s ≡ total of a s + total of b (state_after a s)
unfolding total
total_sum of a zero s = let e : a + 0 ≡ a = omega arith in rw e (omega arith)
total_sum of a (suc b) s =
    let e : a + suc b ≡ suc (a + b) = omega arith in
    let i = total_sum of a b s in
    let g = ap of (after_sum a b s) in
    rw e (omega (arith, i, g))

-- what is counted for each order by its kind and the accumulator is, along a path, the weight of the path
module _ {n h : ℕ} {f : Frame n h} (w : Weights) (of : State → ℕ)
    (by_order : (kind : Kind) (s : State) → IsOrder f.top kind s → of s ≡ weight w kind s.acc) where
  one_more : (k : ℕ) {kind : Kind} {turn : Turn} {r m : Moment} → Does f kind r turn m → (done : ℕ)
      → total of (suc k) (state f r done) ≡ weight w kind r.acc + total of k (state f m (done + 1))
  one_more k {kind} {r = r} first done =
      let here = by_order kind (state f r done) (first.order done) in
      search (rules, total_first)

  pub total_of_path : {k : ℕ} {r t : Moment} {cs : List ℕ} (p : Path f k r cs t) (done : ℕ)
      → total of k (state f r done) ≡ weigh w p
  unfolding total
  total_of_path stay done = refl
  total_of_path (on {k = k} {kind = kind} {r = r} first rest) done =
      one_more k first done ∙ ap (λ x. weight w kind r.acc + x) (total_of_path rest (done + 1))
  total_of_path (prints {k = k} {kind = kind} {r = r} first rest) done =
      one_more k first done ∙ ap (λ x. weight w kind r.acc + x) (total_of_path rest (done + 1))
