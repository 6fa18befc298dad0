-- Whether a machine has returned can be decided.
use Rattle.ed_interlude.proofs.Kit.{cases_eq, T_F, rules, arith, get_or, inl, inr, suc, zero, ℕ, ◌*◌, ◌<◌, ◌^◌, ◌≡◌}
use Rattle.ed_interlude.proofs.Kit.{◌≤◌, ◌⊎◌, cases_lt, State, initial_orders, IsReturned, LeavesDirective}
use Rattle.std.proofs.Common.{below_more}
use Rattle.ed_store.specs.Cells.{Cells, short_at}
use Rattle.ed_interlude.specs.Returned.{AreListed}

-- a fact holds or does not
abbrev pub Decided : Type 0 → Type 0
Decided P = P ⊎ (P → ⊥)

listed : (c : Cells) (first n : ℕ) → Decided (AreListed c first n)
listed c first zero = inl (λ i low high. absurd (omega arith))
listed c first (suc n) =
    with_last (listed c first n) (cases_eq (short_at c n) (get_or initial_orders n 0)) (cases_lt n first)
  where
    with_last : Decided (AreListed c first n) → Decided (short_at c n ≡ get_or initial_orders n 0)
        → (n < first) ⊎ (first ≤ n)
        → Decided (AreListed c first (suc n))
    with_last (inr never) here at = inr (λ all. never (λ i low high. all i low (omega arith)))
    with_last (inl all) here (inl none) = inl (λ i low high. absurd (omega arith))
    with_last (inl all) (inr never) (inr at) = inr (λ each. never (each n at (omega arith)))
    with_last (inl all) (inl same) (inr at) = inl (λ i low high.
        below_more (λ j. first ≤ j → short_at c j ≡ get_or initial_orders j 0) n (λ j b f. all j f b) (λ _. same) i
        (omega arith) low)

leaves : (s : State) → Decided (LeavesDirective s)
leaves s = search rules

both : {P Q : Type 0} → Decided P → Decided Q → Decided (P × Q)
both (inl p) (inl q) = inl (p, q)
both (inl p) (inr never) = inr (λ h. never h.1)
both (inr never) q = inr (λ h. never h.0)

pub home_or_not : (s : State) → Decided (IsReturned s)
home_or_not s =
    elim (both (cases_eq s.counter 25) (both (listed s.store 2 20) (both (listed s.store 21 22)
    (both (listed s.store 23 40) (both (cases_eq (short_at s.store 43) 1)
    (both (cases_eq s.multiplier (T_F * 2 ^ 18)) (leaves s))))))) [
      | inl h ↦ inl (search rules)
      | inr never ↦ inr (λ h. never (h.counter, (h.low, (h.middle, (h.high, (h.one, (h.multiplier, h.leaves)))))))
    ]
