use Rattle.ed_notation.proofs.Kit.{[], and_parts, Bool, drop, length, List, nat_lt, refl, true, ℕ, ◌++◌, ◌+◌, ◌<◌, ◌∷◌}
use Rattle.ed_notation.proofs.Kit.{◌≡◌, flat_map, list_all, ltb-true, at_drop_all, ap, get_or, sym, ◌∙◌, digit_at}
use Rattle.std.proofs.Common.{append-nil}
use Rattle.std.proofs.lemmas.List.{at_drop_more}
use Rattle.std.proofs.lemmas.List.Sums.{AllPass-from_list_all}
use Rattle.ed_notation.proofs.Parts.{digit_there, no_digit, one_more}
use Rattle.ed_notation.proofs.spelling.push_digits.Goals.{then-power-number+in_ok-push, else-power-number}
use Rattle.ed_notation.proofs.spelling.push_digits.Goals as goal

-- a test of all elements that are left holds for those after the next one
next_passes : {A : Type 0} (p : A → Bool) (xs : List A) (i : ℕ) (d : A)
    → i < length xs → list_all p (drop i xs) ≡ true → list_all p (drop (i + 1) xs) ≡ true
next_passes p xs i d below all = (and_parts _ _ (sym (at_drop_more (list_all p) xs i d below) ∙ all)).1

pub loop-power-preserved : goal.loop-power-preserved
loop-power-preserved c =
    let n = c.args.number in
    let powers = c.args.powers.now in
    let i = c.loop-power.power-index in
    let power = get_or powers i 0 in
    let done = c.loop-power.rows.items in
    let below = c.loop-power-test.true in
    let with_part = λ (same : c.if-power-number.rows.items ≡ done ++ digit_at power n).
    let whole : (c.if-power-number.rows.items ++ flat_map (λ p. digit_at p n) (drop (i + 1) powers)
    ≡ c.args.rows.now.items ++ flat_map (λ p. digit_at p n) powers)
    × (list_all (λ p. nat_lt 0 p) (drop (i + 1) powers) ≡ true) = (
      one_more (flat_map (λ p. digit_at p n)) powers i 0 done (digit_at power n) _ below refl refl same
          c.loop-power.invariant.0,
      next_passes (λ p. nat_lt 0 p) powers i 0 below c.loop-power.invariant.1,
    ) in whole in
    elim c.if-power-number.branch [
      | then-power-number+in_ok-push w ↦
          let row = rw w.unwrap.ensures at w.new.ensures.some in
          with_part
          (ap (λ v. v.items) w.rows-is ∙ w.in_ok-push.ensures.items
          ∙ ap (λ (ds : List ℕ). done ++ ds)
          (ap (λ (d : ℕ). d ∷ []) row ∙ sym (digit_there power n w.if-power-number.true)))
      | else-power-number w ↦ with_part
          (ap (λ v. v.items) w.rows-is ∙ sym (append-nil done)
          ∙ ap (λ (ds : List ℕ). done ++ ds) (sym (no_digit power n w.if-power-number.false)))
    ]

pub returns : goal.returns
returns c =
    let l = c.loop-power in
    sym (append-nil _) ∙ ap (λ (ds : List ℕ). l.rows.items ++ ds)
    (sym (at_drop_all (flat_map (λ p. digit_at p c.args.number)) _ _ c.loop-power-test.false)) ∙ l.invariant.0

pub nonzero_div-number : goal.nonzero_div-number
nonzero_div-number c =
    ltb-true 0 _ (AllPass-from_list_all (λ power. nat_lt 0 power) c.args.powers.now c.requires
    c.loop-power.power-index 0
    c.loop-power-test.true)
