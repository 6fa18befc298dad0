-- Which texts are names, by their length.
use Rattle.ed_lines.proofs.Kit.{Bool, false, inl, inr, length, sym, true, ◌<◌, ◌==◌, ◌∙◌, ◌≡◌, ◌≤◌, ◌⊎◌, Decides-eqb}
use Rattle.ed_lines.proofs.Kit.{rules, Text}

-- a text that isn't empty and has at most 16 bytes
pub length-within : (text : Text) → (length text == 0) ≡ false → length text ≤ 16
    → (true ≡ false → (length text ≡ 0) ⊎ (16 < length text)) × ((length text ≡ 0) ⊎ (16 < length text) → true ≡ false)
length-within text some few = search rules

-- a text that is no name
pub empty_or_long : (text : Text) (empty : Bool) → empty ≡ (length text == 0)
    → (empty ≡ true) ⊎ ((empty ≡ false) × (16 < length text)) → (length text ≡ 0) ⊎ (16 < length text)
empty_or_long text empty is (inl e) = inl ((Decides-eqb (length text) 0).0 (sym is ∙ e))
empty_or_long text empty is (inr p) = inr p.1
