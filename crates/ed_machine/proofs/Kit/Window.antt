-- A list with a window of explicit items at an index.
use Rattle.ed_machine.proofs.Names.{common_steps, drop, List, set, suc, zero, ◌++◌, ◌-◌, get_or, [], ap, arith, length}
use Rattle.ed_machine.proofs.Names.{length-set, refl, ℕ, ◌+◌, ◌<◌, ◌∙◌, ◌∷◌, ◌≡◌, ◌≤◌}
use Rattle.std.proofs.lemmas.List.{drop-set-add}

-- the list with `cs` from `base` onwards; `d` fills in if the list is too short
unfoldable pub patched : {A : Type 0} → A → List A → ℕ → List A → List A
patched d ws zero cs = cs ++ drop (length cs) ws
patched d [] (suc b) cs = d ∷ patched d [] b cs
patched d (w ∷ ws) (suc b) cs = w ∷ patched d ws b cs

module _ {A : Type 0} (d : A) where
  get_left : (cs ys : List A) (j : ℕ) → j < length cs → get_or (cs ++ ys) j d ≡ get_or cs j d
  get_left [] ys j h = absurd (omega arith)
  get_left (c ∷ cs) ys zero h = refl
  get_left (c ∷ cs) ys (suc j) h = get_left cs ys j (omega arith)

  set_left : (cs ys : List A) (j : ℕ) (v : A) → j < length cs → set (cs ++ ys) j v ≡ set cs j v ++ ys
  set_left [] ys j v h = absurd (omega arith)
  set_left (c ∷ cs) ys zero v h = refl
  set_left (c ∷ cs) ys (suc j) v h = ap (λ x. c ∷ x) (set_left cs ys j v (omega arith))

  -- after a front
  pub get_right : (cs ys : List A) (j : ℕ) → get_or (cs ++ ys) (length cs + j) d ≡ get_or ys j d
  get_right [] ys j = let e : 0 + j ≡ j = omega arith in rw e refl
  get_right (c ∷ cs) ys j = let e : suc (length cs) + j ≡ suc (length cs + j) = omega arith
      in rw (e, get_right cs ys j) refl

  -- inside the window
  pub get_own : (ws : List A) (b : ℕ) (cs : List A) (j : ℕ) → j < length cs
      → get_or (patched d ws b cs) (b + j) d ≡ get_or cs j d
  unfolding patched
  get_own ws zero cs j h = let e : 0 + j ≡ j = omega arith in rw e (get_left cs (drop (length cs) ws) j h)
  get_own [] (suc b) cs j h = let e : suc b + j ≡ suc (b + j) = omega arith in rw e (get_own [] b cs j h)
  get_own (w ∷ ws) (suc b) cs j h = let e : suc b + j ≡ suc (b + j) = omega arith in rw e (get_own ws b cs j h)

  pub set_own : (ws : List A) (b : ℕ) (cs : List A) (j : ℕ) (v : A) → j < length cs
      → set (patched d ws b cs) (b + j) v ≡ patched d ws b (set cs j v)
  unfolding patched
  set_own ws zero cs j v h = let e : 0 + j ≡ j = omega arith
      in rw (e, length-set cs j v) (set_left cs (drop (length cs) ws) j v h)
  set_own [] (suc b) cs j v h = let e : suc b + j ≡ suc (b + j) = omega arith
      in rw e (ap (λ x. d ∷ x) (set_own [] b cs j v h))
  set_own (w ∷ ws) (suc b) cs j v h = let e : suc b + j ≡ suc (b + j) = omega arith
      in rw e (ap (λ x. w ∷ x) (set_own ws b cs j v h))

  -- outside it
  pub get_below : (ws : List A) (b : ℕ) (cs : List A) (p : ℕ) → p < b → get_or (patched d ws b cs) p d ≡ get_or ws p d
  unfolding patched
  get_below ws zero cs p h = absurd (omega arith)
  get_below [] (suc b) cs zero h = refl
  get_below [] (suc b) cs (suc p) h = get_below [] b cs p (omega arith)
  get_below (w ∷ ws) (suc b) cs zero h = refl
  get_below (w ∷ ws) (suc b) cs (suc p) h = get_below ws b cs p (omega arith)

  pub get_above : (ws : List A) (b : ℕ) (cs : List A) (p : ℕ) → b + length cs ≤ p
      → get_or (patched d ws b cs) p d ≡ get_or ws p d
  unfolding patched
  get_above ws zero cs p h = grind (arith, common_steps)
  get_above [] (suc b) cs zero h = absurd (omega arith)
  get_above [] (suc b) cs (suc p) h = get_above [] b cs p (omega arith)
  get_above (w ∷ ws) (suc b) cs zero h = absurd (omega arith)
  get_above (w ∷ ws) (suc b) cs (suc p) h = get_above ws b cs p (omega arith)

  set_right : (cs ys : List A) (j : ℕ) (v : A) → set (cs ++ ys) (length cs + j) v ≡ cs ++ set ys j v
  set_right [] ys j v = let e : 0 + j ≡ j = omega arith in rw e refl
  set_right (c ∷ cs) ys j v = let e : suc (length cs) + j ≡ suc (length cs + j) = omega arith
      in rw (e, set_right cs ys j v) refl

  pub set_below : (ws : List A) (b : ℕ) (cs : List A) (p : ℕ) (v : A) → p < b → p < length ws
      → set (patched d ws b cs) p v ≡ patched d (set ws p v) b cs
  unfolding patched
  set_below ws zero cs p v h l = absurd (omega arith)
  set_below [] (suc b) cs p v h l = absurd (omega arith)
  set_below (w ∷ ws) (suc b) cs zero v h l = refl
  set_below (w ∷ ws) (suc b) cs (suc p) v h l = ap (λ x. w ∷ x) (set_below ws b cs p v (omega arith) (omega arith))

  pub set_above : (ws : List A) (b : ℕ) (cs : List A) (p : ℕ) (v : A) → b + length cs ≤ p
      → set (patched d ws b cs) p v ≡ patched d (set ws p v) b cs
  unfolding patched
  set_above ws zero cs p v h =
      let e : length cs + (p - length cs) ≡ p = omega arith in
      let r : set (cs ++ drop (length cs) ws) (length cs + (p - length cs)) v
      ≡ cs ++ drop (length cs) (set ws (length cs + (p - length cs)) v)
      = rw (drop-set-add (length cs) ws (p - length cs) v) (set_right cs (drop (length cs) ws) (p - length cs) v) in
      rw e at r
  set_above [] (suc b) cs zero v h = absurd (omega arith)
  set_above [] (suc b) cs (suc p) v h = ap (λ x. d ∷ x) (set_above [] b cs p v (omega arith))
  set_above (w ∷ ws) (suc b) cs zero v h = absurd (omega arith)
  set_above (w ∷ ws) (suc b) cs (suc p) v h = ap (λ x. w ∷ x) (set_above ws b cs p v (omega arith))

  -- a list that has the items of another at its head
  pub append-drop : (cs ws : List A) → length cs ≤ length ws
      → ((j : ℕ) → j < length cs → get_or cs j d ≡ get_or ws j d) → cs ++ drop (length cs) ws ≡ ws
  append-drop [] ws l h = refl
  append-drop (c ∷ cs) [] l h = absurd (omega arith)
  append-drop (c ∷ cs) (w ∷ ws) l h =
      rw (h 0 (omega arith), append-drop cs ws (omega arith) (λ j lj. h (suc j) (omega arith))) refl

  pub patched_self : (ws : List A) (b : ℕ) (cs : List A) → b + length cs ≤ length ws
      → ((j : ℕ) → j < length cs → get_or cs j d ≡ get_or ws (b + j) d) → patched d ws b cs ≡ ws
  unfolding patched
  patched_self ws zero cs l h =
      append-drop cs ws (omega arith) (λ j lj. let e : 0 + j ≡ j = omega arith in h j lj ∙ ap (λ x. get_or ws x d) e)
  patched_self [] (suc b) cs l h = absurd (omega arith)
  patched_self (w ∷ ws) (suc b) cs l h =
      ap (λ x. w ∷ x) (patched_self ws b cs (omega arith) (λ j lj.
      let e : suc b + j ≡ suc (b + j) = omega arith in h j lj ∙ ap (λ x. get_or (w ∷ ws) x d) e))

  length_joined : (cs ws : List A) → length cs ≤ length ws → length (cs ++ drop (length cs) ws) ≡ length ws
  length_joined [] ws l = refl
  length_joined (c ∷ cs) [] l = absurd (omega arith)
  length_joined (c ∷ cs) (w ∷ ws) l = ap suc (length_joined cs ws (omega arith))

  pub length_patched : (ws : List A) (b : ℕ) (cs : List A) → b + length cs ≤ length ws
      → length (patched d ws b cs) ≡ length ws
  unfolding patched
  length_patched ws zero cs l = length_joined cs ws (omega arith)
  length_patched [] (suc b) cs l = absurd (omega arith)
  length_patched (w ∷ ws) (suc b) cs l = ap suc (length_patched ws b cs (omega arith))

  -- one item alone
  pub patched_one : (ws : List A) (b : ℕ) (c : A) → b < length ws → patched d ws b (c ∷ []) ≡ set ws b c
  unfolding patched
  patched_one [] b c l = absurd (omega arith)
  patched_one (w ∷ ws) zero c l = refl
  patched_one (w ∷ ws) (suc b) c l = ap (λ x. w ∷ x) (patched_one ws b c (omega arith))
