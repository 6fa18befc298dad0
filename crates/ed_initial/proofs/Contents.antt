-- The words from 44 upwards, and the value of a code letter in the store.
use Rattle.ed_initial.proofs.Kit.{patched, value_of, arith, drop, get_or, inl, inr, List, refl, ℕ, ◌++◌, ◌+◌, ◌-◌, ◌∙◌}
use Rattle.ed_initial.proofs.Kit.{◌≡◌, ◌≤◌, Working}
use Rattle.std.proofs.lemmas.Bool.{cases_eq, ne_eqb}
use Rattle.std.proofs.lemmas.List.{get_or-drop}
use Rattle.ed_machine.proofs.Kit.Window.{get_right}
use Rattle.ed_initial.proofs.Paths.{cells}

-- the location of a code letter holds its value: 0 at 41, θ at 42, 1 at 43, and a word of the program above
-- them
pub value_here : (w : Working) (contents : List ℕ) (c : ℕ) → 17 ≤ c → w.at41 ≡ 0 → w.at43 ≡ 1
    → get_or (patched 0 contents 0 (cells w)) (24 + c) 0 ≡ value_of contents w.at42 c
unfolding patched
value_here w contents c low at41 at43 =
    elim (cases_eq c 17) [
      | inl e ↦ rw e at41
      | inr no17 ↦
          elim (cases_eq c 18) [
            | inl e ↦ rw e refl
            | inr no18 ↦
                elim (cases_eq c 19) [
                  | inl e ↦ rw e at43
                  | inr no19 ↦
                      let at : 24 + c ≡ 44 + (c - 20) = omega arith in
                      let word : get_or (cells w ++ drop 44 contents) (44 + (c - 20)) 0
                      ≡ get_or contents (44 + (c - 20)) 0 =
                      get_right 0 (cells w) (drop 44 contents) (c - 20) ∙ get_or-drop 44 contents (c - 20) 0 in
                      let t17 = ne_eqb c 17 no17 in
                      let t18 = ne_eqb c 18 no18 in
                      let t19 = ne_eqb c 19 no19 in
                      rw (t17, t18, t19, at) word
                ]
          ]
    ]
