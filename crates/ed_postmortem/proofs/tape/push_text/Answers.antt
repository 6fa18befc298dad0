use Rattle.ed_postmortem.proofs.Kit.{append-nil, append_assoc, [], ap, drop, get_or, length, List, None, Option, Some}
use Rattle.ed_postmortem.proofs.Kit.{sym, ℕ, ◌++◌, ◌+◌, ◌<◌, ◌∙◌, ◌∷◌, ◌≡◌, rows_of_text}
use Rattle.ed_notation.proofs.Kit.{unwrap_or, drop_all, row_of}
use Rattle.std.proofs.Common.{add-one, drop-cons}
use Rattle.std.specs.Option.{UnwrapsOrElse}
use Rattle.ed_postmortem.proofs.tape.push_text.Goals as goal

-- the row of one more byte was added
one_more : (rows text more : List ℕ) (i row : ℕ) {whole : List ℕ} → i < length text
    → row ≡ unwrap_or (row_of (get_or text i 0)) 0 → more ≡ rows ++ row ∷ []
    → rows ++ rows_of_text (drop i text) ≡ whole → more ++ rows_of_text (drop (i + 1) text) ≡ whole
one_more rows text more i row below is grown so_far =
    let rest : List ℕ = rows_of_text (drop (i + 1) text) in
    let left : drop i text ≡ get_or text i 0 ∷ drop (i + 1) text = rw add-one (drop-cons text i 0 below) in
    ap (λ (t : List ℕ). t ++ rest) grown ∙ append_assoc rows (row ∷ []) rest
    ∙ ap (λ (t : List ℕ). rows ++ t) (ap (λ (k : ℕ). k ∷ rest) is ∙ sym (ap rows_of_text left)) ∙ so_far

-- the row that is taken is that of the byte, or blank
row_taken : (o : Option ℕ) (row : ℕ) (Blank : ℕ → Type 0) → ((k : ℕ) → Blank k → k ≡ 0) → UnwrapsOrElse o Blank row
    → row ≡ unwrap_or o 0
row_taken (Some k) row Blank is taken = taken
row_taken None row Blank is taken = is row taken

pub loop-byte-preserved : goal.loop-byte-preserved
loop-byte-preserved c =
    let row = row_taken c.row_of_byte.result _ _ (λ k blank. blank) c.unwrap_or_default-row.ensures in
    one_more c.loop-byte.rows.items c.args.text.now c.push.new.self.items c.loop-byte.byte-index
    c.unwrap_or_default-row.result c.loop-byte-test.true
    (row ∙ ap (λ o. unwrap_or o 0) c.row_of_byte.ensures) c.in_ok-push.ensures.items c.loop-byte.invariant

pub returns : goal.returns
returns c =
    sym (append-nil _)
    ∙ sym (ap (λ (t : List ℕ). c.loop-byte.rows.items ++ rows_of_text t) (drop_all _ _ c.loop-byte-test.false))
    ∙ c.loop-byte.invariant
