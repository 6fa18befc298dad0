-- `root`, from the library's table to what it does.
use Rattle.ed_maths.proofs.Kit.{rules, ◌≢◌, get_or-set_other, A_F, get_above, get_below, Beside-outside, call_of}
use Rattle.ed_maths.proofs.Kit.{Holds-loaded, image, IsWithin, get_or-kept, Makes, more, none, [], ap, arith, get_or}
use Rattle.ed_maths.proofs.Kit.{inl, inr, length, List, refl, set, subst, ℕ, ◌*◌, ◌+◌, ◌-◌, ◌<◌, ◌^◌, ◌∙◌, ◌∷◌, ◌≡◌}
use Rattle.ed_maths.proofs.Kit.{short_at, State, Frame, state, Leads, Leads-path, Path, Holds, length_patched, patched}
use Rattle.ed_maths.proofs.Kit.{IsOther, caller, IsLoadedAt, IsOutside, IsRoot, root_orders}
use Rattle.ed_routines.specs.Returns.{KeepsBut, Returned}
use Rattle.ed_routines.proofs.Called.{state-begins}
use Rattle.ed_maths.specs.Roots.{root, with_hn}
use Rattle.ed_maths.proofs.Root.{Given, Work, cells, run, rest, Path-whole}

-- a number below 65536 has a root below 256
pub IsRoot-few : (n r : ℕ) → IsRoot n r → n < 65536 → r < 256
IsRoot-few n r is small = search rules

-- `root` is called in a state, for the root r of the number at one location, and all is below a location
pub record CallsRoot (b source target top r : ℕ) (s : State) : Type 0 where
  pub all : length s.store.words ≡ 1024
  pub stands : IsLoadedAt root (with_hn source target) b s
  pub source_outside : IsOutside root b source s
  pub target_outside : IsOutside root b target s
  pub within : IsWithin 23 b source top s
  pub near : target < top
  pub small : short_at s.store source < 65536
  pub is_root : IsRoot (short_at s.store source) r

module _ {b source target top r : ℕ} {s : State} (o : CallsRoot b source target top r s) where
  abbrev given : Given
  given = record {
    call = call_of o.stands.low o.within;
    source = source;
    target = target;
    ws = s.store.words;
    n = short_at s.store source;
    is = refl;
    small = o.small;
    all = o.all;
    at3 = o.stands.at3;
    room = o.within.back;
    away_source = record { below = o.within.near; beside = Beside-outside s.store.words o.all o.source_outside };
    away_target = record { below = o.near; beside = Beside-outside s.store.words o.all o.target_outside };
  }

  abbrev f : Frame 23 0
  f = given.call.frame

  abbrev hs : List ℕ
  hs = source ∷ target ∷ []

  makes : Makes (with_hn source target) hs
  makes = search (rules, more, none)

  image_holds : Holds (image root b hs) s.store.words b
  image_holds = Holds-loaded o.stands makes refl

  abbrev first : Work
  first = record {
    at18 = get_or s.store.words (b + 18) 0;
    at21 = get_or s.store.words (b + 21) 0;
    at22 = get_or s.store.words (b + 22) 0;
  }

  starts : state f (run given s.store.words first (A_F + 2 * caller s) 0) s.orders ≡ s
  starts = state-begins hs o.stands o.within o.all image_holds

  abbrev ws : List ℕ
  ws = set s.store.words target r

  -- the words that change, as they are left
  abbrev left : Work
  left = rest given (short_at s.store source - r * r + 2 ^ 17 - (2 * r + 1)) (2 * r + 1)

  path : Path f (root_orders r) (run given s.store.words first (A_F + 2 * caller s) 0) []
      (record (run given ws left 0 0) { counter = caller s + 2 })
  path = Path-whole given first r o.is_root.square o.is_root.greatest
      (IsRoot-few (short_at s.store source) r o.is_root o.small)

  abbrev pub last : State
  last = record s {
    store = record { words = patched 0 ws b (cells b source target left); sandwich = s.store.sandwich };
    acc = 0;
    counter = caller s + 2;
    orders = s.orders + root_orders r;
  }

  pub length-rooted : length last.store.words ≡ 1024
  length-rooted = search (rules, length_patched)

  -- that many orders lead to the order after the call
  pub leads_to : Leads (root_orders r) s [] last
  leads_to = subst (λ x. Leads (root_orders r) x [] last) starts (Leads-path path s.orders)

  -- a word outside the working locations is unchanged, and the root is at its target
  stays : (i : ℕ) → i ≢ target → IsOther root b i → get_or last.store.words i 0 ≡ get_or s.store.words i 0
  stays i other free =
      get_or-kept hs free ws (cells b source target left) refl refl still
      ∙ get_or-set_other s.store.words target i r 0 other
    where
      apart : (j : ℕ) → j < 23 → b + j ≢ target
      apart j l e = elim o.target_outside.beside [ inl x ↦ absurd (omega arith) | inr y ↦ absurd (omega arith) ]

      still : Holds (image root b hs) ws b
      still j l = rw (get_or-set_other s.store.words target (b + j) r 0 (apart j l)) (image_holds j l)

  at_target : get_or last.store.words target 0 ≡ r
  at_target = search (rules, get_below, get_above)

  module _ (t : State) (e : t ≡ last) where
    pub root_is : short_at t.store target ≡ r
    root_is = ap (λ (x : State). get_or x.store.words target 0) e ∙ at_target

    pub returned : Returned (root_orders r) s.tape s.last s t
    returned = rw e refl

    pub keeps : KeepsBut target root b s t
    keeps = record { words = λ i other free. ap (λ (x : State). get_or x.store.words i 0) e ∙ stays i other free }
