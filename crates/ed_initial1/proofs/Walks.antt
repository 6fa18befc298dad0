-- From the walks of the listing to steps of the machine.
use Rattle.ed_initial1.proofs.Kit.{Went, Leads-path, [], ap, arith, refl, subst, suc, sym, true, ℕ, ◌+◌, ◌∙◌, ◌≡◌}
use Rattle.ed_initial1.proofs.Kit.{Obeyed, step, State, progress, state_after, Moment, at_31, IsQuiet1, rules}
use Rattle.std.proofs.Common.{zero}
use Rattle.ed_machine.proofs.Kit.Frames.{state as piece_state}
use Rattle.ed_machine.proofs.Kit.Paths.{Path, stay as path_stays, on as path_on, followed as paths_followed, no_state}
use Rattle.ed_machine.proofs.Kit.Paths.{first_state}
use Rattle.ed_initial1.specs.Load.{GoesOn1}
use Rattle.ed_initial1.proofs.Paths.{piece, Walk, stay, on, ToProgram, ends}

-- the machine at a moment of a load, after k orders
abbrev pub state : Moment → ℕ → State
state r k = piece_state piece r k

-- a walk is a path that prints nothing
pub path_of : {k : ℕ} {r t : Moment} → Walk k r t → Path piece k r [] t
path_of stay = path_stays
path_of (on first away rest) = path_on first (path_of rest)

-- each of its orders goes on
pub IsQuiet1-walk : {k : ℕ} {r t : Moment} → Walk k r t → (done : ℕ) → IsQuiet1 k (state r done)
IsQuiet1-walk stay done j h = absurd (omega arith)
IsQuiet1-walk (on {r = r} first away rest) done zero h = search (rules, no_state)
IsQuiet1-walk (on {r = r} first away rest) done (suc j) h =
    subst GoesOn1 (sym (first_state j (state r done) ∙ ap (λ (o : Obeyed). state_after j o.state) (first.does done)))
    (IsQuiet1-walk rest (done + 1) j (omega arith))

-- all orders but the last go on, the last one reaches 31, and none of them prints
pub record Reaches (k : ℕ) (s t : State) : Type 0 where
  pub before : ℕ
  pub count : k ≡ suc before
  pub quiet : IsQuiet1 before s
  pub last : step (state_after before s) ≡ record { state = t; turn = Went }
  pub at : at_31 t ≡ true
  pub silent : (progress k s).codes ≡ []

pub Reaches-to_program : {k : ℕ} {r t : Moment} → ToProgram k r t → (done : ℕ)
    → Reaches k (state r done) (state t (done + k))
Reaches-to_program {t = t} (ends {k = k} {r = r} {m = m} walk last at) done =
    let there = Leads-path (path_of walk) done in
    let sum : k + 1 ≡ suc k = omega arith in
    let all : Path piece (suc k) r [] t = rw sum at (paths_followed (path_of walk) (path_on last path_stays)) in
    let e : done + k + 1 ≡ done + suc k = omega arith in
    record {
      before = k;
      count = refl;
      quiet = IsQuiet1-walk walk done;
      last = ap step there.state_is
          ∙ subst (λ x. step (state m (done + k)) ≡ record { state = state t x; turn = Went }) e (last.does (done + k));
      at = at;
      silent = (Leads-path all done).codes_are;
    }
