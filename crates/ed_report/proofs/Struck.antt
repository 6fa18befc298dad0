-- Codes struck on a new printer give the bytes of a paper.
use Rattle.ed_report.proofs.Kit.{ap, append_assoc, List, sym, ℕ, ◌++◌, ◌∙◌, ◌≡◌}
use Rattle.ed_printer.specs.Paper.{paper, paper_from}
use Rattle.ed_printer.specs.declared.printer.Shift.{Shift}
use Rattle.ed_printer.specs.declared.printer.Shift.TheVariants.{Letters}
use Rattle.ed_printer.proofs.Texts.{Strikes, struck_alone}

pub one_paper : {bytes : List ℕ} {start : Shift} (codes : List ℕ) (left : Shift)
    → start ≡ Letters → Strikes start codes bytes left
    → bytes ≡ paper codes
one_paper {bytes = bytes} {start} codes left begins strikes =
    struck_alone start codes bytes left strikes ∙ ap (λ (s : Shift). paper_from s codes) begins

pub two_papers : (bytes more : List ℕ) {start : Shift} (first second : List ℕ) (middle left : Shift)
    → start ≡ Letters
    → Strikes start first bytes middle → Strikes middle second more left
    → bytes ++ more ≡ paper (first ++ second)
two_papers bytes more {start} first second middle left begins p q =
    one_paper (first ++ second) left begins
    (λ rest. ap (λ (codes : List ℕ). paper_from start codes) (append_assoc first second rest)
    ∙ p (second ++ rest) ∙ ap (λ (text : List ℕ). bytes ++ text) (q rest)
    ∙ sym (append_assoc bytes more (paper_from left rest)))
