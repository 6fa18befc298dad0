-- A path: orders one after the other, and the orders of the machine that it is.
use Rattle.ed_machine.proofs.Names.{common_steps, rules, append-nil, List, subst, suc, zero, ◌++◌, Kind, [], ap, arith}
use Rattle.ed_machine.proofs.Names.{refl, sym, true, ℕ, ◌+◌, ◌<◌, ◌∷◌, ◌≡◌, step, State, codes_of, progress}
use Rattle.ed_machine.proofs.Names.{state_after, Turn, Printed, Went}
use Rattle.ed_machine.proofs.Kit.Frames.{Frame, Moment, state}
use Rattle.ed_machine.proofs.Kit.Leads.{Leads, goes_on}
use Rattle.ed_machine.proofs.Kit.Orders.{Does, IsOrder}

-- k orders lead from one moment to another and print the codes: each goes on at the next, or prints its code and goes
-- on
pub data Path {n h : ℕ} (f : Frame n h) : ℕ → Moment → List ℕ → Moment → Type 0 where
  stay : {r : Moment} → Path f 0 r [] r
  on : {k : ℕ} {kind : Kind} {r m t : Moment} {cs : List ℕ} → Does f kind r Went m → Path f k m cs t
      → Path f (suc k) r cs t
  prints : {k c : ℕ} {kind : Kind} {r m t : Moment} {cs : List ℕ} → Does f kind r (Printed c) m → Path f k m cs t
      → Path f (suc k) r (c ∷ cs) t

-- two paths make one
pub followed : {n h : ℕ} {f : Frame n h} {a b : ℕ} {r m t : Moment} {cs ds : List ℕ} → Path f a r cs m → Path f b m ds t
    → Path f (a + b) r (cs ++ ds) t
followed {b = b} stay next = let e : 0 + b ≡ b = omega arith in rw e next
followed {b = b} (on {k = k} first rest) next =
    let e : suc k + b ≡ suc (k + b) = omega arith in rw e (on first (followed rest next))
followed {b = b} (prints {k = k} first rest) next =
    let e : suc k + b ≡ suc (k + b) = omega arith in rw e (prints first (followed rest next))

-- the states after an order and after later ones
pub no_state : (s : State) → state_after 0 s ≡ s
unfolding progress
no_state s = refl

pub first_state : (k : ℕ) (s : State) → state_after (suc k) s ≡ state_after k (step s).state
unfolding progress
first_state zero s = refl
first_state (suc k) s = ap (λ (x : State). (step x).state) (first_state k s)

first_codes : (k : ℕ) (s : State) → (progress (suc k) s).codes ≡ codes_of (step s).turn
    ++ (progress k (step s).state).codes
unfolding progress
first_codes zero s = sym (append-nil (codes_of (step s).turn))
first_codes (suc k) s = search (rules, first_state, (first_codes k s))

-- one more order, at the front
preceded : {k : ℕ} {s m t : State} {w : Turn} {cs : List ℕ} → step s ≡ record { state = m; turn = w }
    → goes_on w ≡ true → Leads k m cs t
    → Leads (suc k) s (codes_of w ++ cs) t
unfolding progress
preceded {k} {s} {m} {w = w} {cs} first ok rest = search (rules, first_state, first_codes)

none : (s : State) → Leads 0 s [] s
unfolding progress
none s = record { state_is = refl; codes_are = refl; goes = λ j h. absurd (omega arith) }

-- a path leads the machine where it says, whatever the count of orders before
pub Leads-path : {n h : ℕ} {f : Frame n h} {k : ℕ} {r t : Moment} {cs : List ℕ} → Path f k r cs t
    → (done : ℕ) → Leads k (state f r done) cs (state f t (done + k))
Leads-path {f = f} {t = t} stay done = let e : done + 0 ≡ done = omega arith in rw e (none (state f t done))
Leads-path (on {k = k} first rest) done =
    grind (arith, common_steps, (preceded (first.does done) refl (Leads-path rest (done + 1))))
Leads-path (prints {k = k} first rest) done =
    grind (arith, common_steps, (preceded (first.does done) refl (Leads-path rest (done + 1))))

-- what holds before an order of any kind holds before every order of a path
module _ {n h : ℕ} {f : Frame n h} (P : State → Type 0)
    (holds : (kind : Kind) (s : State) → IsOrder f.top kind s → P s) where
  begins : {kind : Kind} {r m : Moment} {turn : Turn} → Does f kind r turn m → (done : ℕ)
      → P (state_after 0 (state f r done))
  begins {kind} {r} first done =
      subst P (sym (no_state (state f r done))) (holds kind (state f r done) (first.order done))

  behind : {kind : Kind} {r m : Moment} {turn : Turn} → Does f kind r turn m → (done j : ℕ)
      → P (state_after j (state f m (done + 1)))
      → P (state_after (suc j) (state f r done))
  behind {r = r} first done j = search (rules, first_state)

  pub state_after-each : {k : ℕ} {r t : Moment} {cs : List ℕ} → Path f k r cs t → (done j : ℕ) → j < k
      → P (state_after j (state f r done))
  state_after-each stay done j l = absurd (omega arith)
  state_after-each (on first rest) done zero l = begins first done
  state_after-each (on first rest) done (suc j) l = behind first done j
      (state_after-each rest (done + 1) j (omega arith))
  state_after-each (prints first rest) done zero l = begins first done
  state_after-each (prints first rest) done (suc j) l = behind first done j
      (state_after-each rest (done + 1) j (omega arith))
