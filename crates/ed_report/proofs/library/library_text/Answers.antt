use Rattle.ed_report.proofs.Kit.{append-nil, drop_all, ap, append_assoc, drop, get_or, length, List, sym, ℕ, ◌++◌, ◌+◌}
use Rattle.ed_report.proofs.Kit.{◌<◌, ◌∙◌, ◌≡◌, ◌≤◌, catalogue, routine_lines}
use Rattle.std.proofs.Common.{subst}
use Rattle.std.proofs.lemmas.List.{drop_more}
use Rattle.ed_library.specs.Entries.{Routine, no_entry}
use Rattle.ed_report.specs.Catalogue.{routine_line}
use Rattle.ed_report.proofs.library.library_text.Goals as goal

-- one line more, of those of some routines
next : (entries : List Routine) (k : ℕ) (lines : List ℕ) {line more whole : List ℕ} → k < length entries
    → line ≡ routine_line (get_or entries k no_entry) → more ≡ lines ++ line
    → lines ++ routine_lines (drop k entries) ≡ whole
    → more ++ routine_lines (drop (k + 1) entries) ≡ whole
next entries k lines below is grown before =
    let rest = routine_lines (drop (k + 1) entries) in
    (λ i. (grown ∙ ap (λ (x : List ℕ). lines ++ x) is) i ++ rest)
    ∙ append_assoc lines (routine_line (get_or entries k no_entry)) rest
    ∙ sym (ap (λ (x : List Routine). lines ++ routine_lines x) (drop_more entries k no_entry below)) ∙ before

pub loop-index-preserved : goal.loop-index-preserved
loop-index-preserved c =
    let l = c.loop-index in
    let below : l.index < length catalogue =
    subst (λ (n : ℕ). l.index < n) c.catalogue_size-index-end.ensures.is c.loop-index-test.true in
    let grown = c.in_ok-extend_from_slice.ensures.items in
    next catalogue l.index l.lines.items below
    (c.in_ok-line.ensures ∙ ap (λ (r : ℕ). routine_line (get_or catalogue r no_entry)) c.routine.ensures)
    (grown ∙ ap (λ (x : List ℕ). l.lines.items ++ x) c.deref.ensures.value) l.invariant

-- no routine is left
last : (entries : List Routine) (k : ℕ) (lines : List ℕ) {whole : List ℕ} → length entries ≤ k
    → lines ++ routine_lines (drop k entries) ≡ whole → lines ≡ whole
last entries k lines over before =
    sym (append-nil lines) ∙ sym (ap (λ (x : List Routine). lines ++ routine_lines x) (drop_all k entries over))
    ∙ before

pub returns : goal.returns
returns c =
    let l = c.loop-index in
    last catalogue l.index l.lines.items
    (subst (λ (n : ℕ). n ≤ l.index) c.catalogue_size-index-end.ensures.is c.loop-index-test.false) l.invariant
