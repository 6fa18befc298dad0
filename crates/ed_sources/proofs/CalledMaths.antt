-- A call of `divide` and one of `root`, up to the state after it.
use Rattle.ed_sources.proofs.Kit.{[], arith, length, refl, rules, ℕ, ◌%◌, ◌+◌, ◌/◌, ◌<◌, ◌≡◌}
use Rattle.ed_sources.proofs.Kit.{◌≤◌, locations, short_at, State, IsOutside, divide, IsDivision}
use Rattle.ed_sources.proofs.Kit.{with_hnm, root, with_hn, divide_orders, dividend, IsRoot, root_orders, ◌≢◌}
use Rattle.ed_routines.proofs.Called.{within_size}
use Rattle.ed_sources.proofs.CalledRoutines.{Passes, passes, IsOther-around, ne-aside}
use Rattle.ed_sources.proofs.Calling.{HasRoutine, IsBefore, called, IsOutside-called, IsLoadedAt-stands}
use Rattle.ed_maths.proofs.DivideCall as divide_call
use Rattle.ed_maths.proofs.RootCall as root_call

-- `divide` is called: after the call its quotient and its remainder are in the store
pub record Divides (s : State) (m from to high low by : ℕ) : Type 0 where
  pub passes : Passes (2 + divide_orders (dividend high low s / short_at s.store by)) s [] m from to
  pub quotient : short_at passes.last.store low ≡ dividend high low s / short_at s.store by
  pub remainder : short_at passes.last.store high ≡ dividend high low s % short_at s.store by

-- `root` is called: after the call the root is in the store
pub record TakesRoot (s : State) (m to target r : ℕ) : Type 0 where
  pub passes : Passes (2 + root_orders r) s [] m target to
  pub root_is : short_at passes.last.store target ≡ r

module _ {s : State} {m base : ℕ} (o : IsBefore s m base) where
  -- `divide`; its three words come before it, and the two that it writes begin at one location
  pub Divides-called : {high low by from : ℕ} → length s.store.sandwich ≡ 512 → base % 2 ≡ 0
      → HasRoutine s divide base (with_hnm high low by) → IsDivision base high low by s
      → (from ≤ high) × (from ≤ low) → high < base → low < base → Divides s m from (base + 41) high low by
  Divides-called {high} {low} {by} all_digits even has is early high_before low_before =
      let dividing : divide_call.CallsDivide base high low by (locations s.size) (called s m base) =
      search (rules, IsOutside-called, IsLoadedAt-stands, within_size) in
      let divided = divide_call.HasDivided-last dividing _ refl in
      record {
        passes = passes o (divide_call.leads_to dividing) refl refl (divide_call.length-divided dividing) refl
            (λ i b. divided.words i (ne-aside (omega (arith, early.0)) (omega arith) b)
            (ne-aside (omega (arith, early.1)) (omega arith) b)
            (IsOther-around divide (omega (arith, early.0)) (omega arith) b));
        quotient = divided.quotient;
        remainder = divided.remainder;
      }

  -- `root`; its words come before it
  pub takes_root : {source target r : ℕ} → HasRoutine s root base (with_hn source target)
      → IsOutside root base source s → IsOutside root base target s → source ≢ target
      → short_at s.store source < 65536 → IsRoot (short_at s.store source) r → target < base
      → TakesRoot s m (base + 23) target r
  takes_root {source} {target} {r} has source_out target_out differ small is_root before =
      let rooting : root_call.CallsRoot base source target (locations s.size) r (called s m base) =
      search (rules, IsOutside-called, IsLoadedAt-stands, within_size) in
      record {
        passes = passes o (root_call.leads_to rooting) refl refl (root_call.length-rooted rooting) refl
            (λ i b. (root_call.keeps rooting _ refl).words i (ne-aside (omega arith) (omega arith) b)
            (IsOther-around root (omega arith) (omega arith) b));
        root_is = root_call.root_is rooting _ refl;
      }
