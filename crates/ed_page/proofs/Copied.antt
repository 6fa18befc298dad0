-- Lists that grow at their ends: a loop that takes the items of a list one after the other, and texts that are added.
use Rattle.ed_page.proofs.Kit.{common_steps, flat_map, latest_shift, paper_from, Shift, take, ap, arith, drop, get_or}
use Rattle.ed_page.proofs.Kit.{length, List, reverse, ℕ, ◌++◌, ◌+◌, ◌<◌, ◌∙◌, ◌∷◌, ◌≡◌, ◌≤◌, four_bytes}
use Rattle.std.proofs.Common.{add-one, set, drop-cons}
use Rattle.std.proofs.Math.Seq.{set-append_seam}
use Rattle.ed_printer.proofs.Texts.{Strikes, struck_alone}
use Rattle.ed_page.specs.Going.{added_text}

-- the item taken, and those left after it
left_by : (s : List ℕ) (i x : ℕ) → i < length s → x ≡ get_or s i 0 → drop i s ≡ x ∷ drop (i + 1) s
left_by s i x below is = rw (is, add-one) (drop-cons s i 0 below)

-- all are copied
pub copied_all : (done s : List ℕ) (i : ℕ) → length s ≤ i → done ++ drop i s ≡ s → done ≡ s
copied_all done s i past whole = grind (arith, common_steps)

-- one more is written over the first items of a list
pub written_more : (codes old now : List ℕ) (k x : ℕ) → k < length codes → length codes ≤ length old
    → x ≡ get_or codes k 0 → now ≡ take k codes ++ drop k old → set now k x ≡ take (k + 1) codes ++ drop (k + 1) old
written_more codes old now k x below room is so_far = grind (arith, common_steps, left_by, set-append_seam)

-- the text of codes on a printer in the shift that others leave is what they add
pub text_added : (start left : Shift) (before given codes text : List ℕ) → Strikes start given text left
    → start ≡ latest_shift (reverse before) → given ≡ codes → text ≡ added_text before codes
text_added start left before given codes text strikes begins same =
    struck_alone start given text left strikes ∙ ap (λ (s : Shift). paper_from s given) begins
    ∙ ap (paper_from (latest_shift (reverse before))) same

-- the bytes of all numbers
pub pushed_all : (done start s : List ℕ) (i : ℕ) → length s ≤ i
    → done ++ flat_map four_bytes (drop i s) ≡ start ++ flat_map four_bytes s → done ≡ start ++ flat_map four_bytes s
pushed_all done start s i past whole = grind (arith, common_steps)
