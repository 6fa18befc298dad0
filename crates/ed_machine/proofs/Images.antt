-- One more word of an image.
use Rattle.ed_machine.proofs.Names.{add-one, drop, length-append, List, set, suc, take, zero, ◌++◌, IsStore, get_or}
use Rattle.ed_machine.proofs.Names.{Cells, [], ap, arith, Bool, length, refl, sym, ℕ, ◌+◌, ◌<◌, ◌∙◌, ◌∷◌, ◌≡◌}
use Rattle.std.proofs.Common.{length-drop}
use Rattle.std.proofs.lemmas.List.{get_or_read, length-take}
use Rattle.ed_store.specs.Cells.{with_short}

written_image : (xs ys : List ℕ) (i : ℕ) → i < length xs → i < length ys
    → set (take i xs ++ drop i ys) i (get_or xs i 0) ≡ take (suc i) xs ++ drop (suc i) ys
written_image [] ys i h k = absurd (omega arith)
written_image (x ∷ xs) [] i h k = absurd (omega arith)
written_image (x ∷ xs) (y ∷ ys) zero h k = refl
written_image (x ∷ xs) (y ∷ ys) (suc i) h k = ap (λ zs. x ∷ zs) (written_image xs ys i (omega arith) (omega arith))

pub image_step : (xs ws : List ℕ) {sand : List Bool} {i x : ℕ} {s t : Cells}
    → s ≡ record { words = take i xs ++ drop i ws; sandwich = sand } → IsStore s
    → x ≡ get_or xs i x → i < length xs → i < 1024 → t ≡ with_short s i x → t ≡ record {
      words = take (i + 1) xs ++ drop (i + 1) ws;
      sandwich = sand;
    }
image_step xs ws {sand} {i} {x} e store read h below is =
    let total : length (take i xs ++ drop i ws) ≡ 1024 = ap (λ (c : Cells). length c.words) (sym e) ∙ store.words_are in
    let room : i < length ws =
    omega (arith, total, length-append (take i xs) (drop i ws), length-take i xs, length-drop i ws) in
    let value : x ≡ get_or xs i 0 = get_or_read xs i x h read 0 in
    let words : set (take i xs ++ drop i ws) i x ≡ take (i + 1) xs ++ drop (i + 1) ws =
    rw add-one (ap (λ y. set (take i xs ++ drop i ws) i y) value ∙ written_image xs ws i h room) in
    is ∙ ap (λ (c : Cells). with_short c i x) e ∙ (λ j. record { words = words j; sandwich = sand })
