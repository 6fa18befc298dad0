-- No row costs more than 17 orders.
use Rattle.ed_notation.proofs.Kit.{[], Bool, false, length, length-append, List, lit≤, true, ℕ, ◌+◌, ◌∷◌, ◌≤◌, digit}
use Rattle.ed_notation.proofs.Kit.{arith, ◌*◌, RowsReachEntry, TapeEntry, act, cost_of, costs, end_cost, NotationState}
use Rattle.ed_notation.proofs.Kit.{begun_rows, item, mark_rows, row_kind, rows_of, spelled_rows, Written, RowKind}
use Rattle.ed_notation.proofs.Kit.{Letter, rules}

end_most : (r : RowKind) (notation : NotationState) → end_cost r notation ≤ 17
end_most Letter notation = search (rules, lit≤)
end_most r notation = lit≤ tt

pub mark_most : (m : Bool) → 15 * digit m ≤ 17 * length (mark_rows m)
mark_most true = lit≤ tt
mark_most false = lit≤ tt

one_most : (notation : NotationState) (w : Written) → cost_of notation w ≤ 17 * length (rows_of w)
one_most notation w =
    let b = w.begun in
    let last = length-append (begun_rows b) (w.end ∷ []) in
    omega (arith, end_most (row_kind w.end) notation, mark_most b.mark, last, length-append b.digits (mark_rows b.mark))

pub all_most : (words : List ℕ) (notation : NotationState) (ws : List Written)
    → costs words notation ws ≤ 17 * length (spelled_rows ws)
all_most words notation [] = lit≤ tt
all_most words notation (w ∷ ws) =
    omega (
      arith,
      one_most notation w,
      all_most words (act words notation (item w)) ws,
      length-append (rows_of w) (spelled_rows ws),
    )

pub cost-most : (words : List ℕ) (start : NotationState) (base : ℕ) (rows : List ℕ) (e : TapeEntry)
    → RowsReachEntry words start base rows e
    → e.cost ≤ base + 17 * e.rows
cost-most words start base rows e c =
    omega (arith, c.cost_is, c.read_is, all_most words start c.before, one_most e.notation c.last)
