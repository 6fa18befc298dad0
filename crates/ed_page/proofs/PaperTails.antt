-- The text that codes add to the paper after others.
use Rattle.ed_page.proofs.Kit.{rules, [], ap, append-nil, append_assoc, sym, ◌++◌, ◌∙◌, ◌∷◌, paper}
use Rattle.std.proofs.lemmas.List.{reverse-append}
use Rattle.ed_printer.proofs.Latest.{in_latest_shift}
use Rattle.ed_page.specs.Going.{PaperLaw}

pub paper_law : PaperLaw
paper_law before [] = ap paper (append-nil before) ∙ sym (append-nil (paper before))
paper_law before (code ∷ codes) =
    search (rules, reverse-append, append_assoc, in_latest_shift, (paper_law (before ++ code ∷ []) codes))
