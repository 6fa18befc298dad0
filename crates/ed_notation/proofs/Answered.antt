-- From what a reading leaves to what a check answers.
use Rattle.ed_notation.proofs.Kit.{Bool, length, List, take, ℕ, ◌++◌, ◌+◌, ◌≡◌, ◌≤◌, Size, ap, arith, sym, ◌*◌, ◌∙◌}
use Rattle.ed_notation.proofs.Kit.{Arrives, NotationState, opening_with}
use Rattle.std.proofs.Common.{Err}
use Rattle.std.proofs.Math.Seq.{take-append_seam}
use Rattle.ed_store.specs.Cells.{Cells}
use Rattle.ed_notation.specs.Checks.{Accepts, AnswersCheck, ReadsCopy}
use Rattle.ed_notation.specs.Reports.{Report}
use Rattle.ed_notation.specs.declared.cause.TapeFault.{TapeFault}
use Rattle.ed_notation.specs.declared.cause.TapeFault.TheVariants.{At, Memory}
use Rattle.ed_notation.specs.declared.reader.Reached.{Reached}
use Rattle.ed_notation.proofs.Contents.{word_is}
use Rattle.ed_notation.proofs.Costs.{cost-most}
use Rattle.ed_notation.proofs.Sound.{well_sound}

abbrev pub report_of : Reached → List ℕ → List Bool → Report
report_of r contents marks = record {
  entry = r.entry;
  orders = r.orders;
  rows = r.rows;
  theta = r.theta;
  placed = marks;
  words = contents;
}

-- the marks, as the slice that was read through gives them back
pub take-whole : (m xs : List Bool) (n : ℕ) → length m ≡ n → take n (m ++ xs) ≡ m
take-whole m xs n l = ap (λ k. take k (m ++ xs)) (sym l) ∙ take-append_seam m xs

module _ {z : Size} {words : List ℕ} {start : NotationState} {base : ℕ} {rows : List ℕ} {r : Reached}
    {contents : List ℕ}
    {marks : List Bool} (a : Arrives z words start base rows r contents marks) where
  pub accepted : Accepts z words start base rows (report_of r contents marks)
  accepted = record {
    well = a.well;
    entry = a.entry;
    comes = a.comes;
    sound = (well_sound a.well a.comes).0;
    last_sound = (well_sound a.well a.comes).1;
    entry_is = a.entry_is;
    orders_are = a.orders_are;
    rows_are = a.rows_are;
    theta_is = a.theta_is;
    map_is = λ i h. rw (a.contents_are, a.marks_are)
        (word_is words a.locations_are a.entry.notation.placed i h a.places);
  }

  pub orders-bounded : r.orders ≤ 17 * r.rows + base
  orders-bounded = omega (arith, a.orders_are, a.rows_are, cost-most words start base rows a.entry a.comes)

-- a fault over a copy of the store is the answer over the store
pub AnswersCheck-refused : (z : Size) {store copy : Cells} (directive base : ℕ) (rows : List ℕ) (f : TapeFault)
    (left : List ℕ × List Bool) → copy ≡ store → ReadsCopy z copy.words directive base rows (Err f) left.0 left.1
    → AnswersCheck z store.words (opening_with directive store.words) base rows (Err f)
AnswersCheck-refused z directive base rows Memory left same h = tt
AnswersCheck-refused z directive base rows (At row cause) left same h = rw (← same) h
