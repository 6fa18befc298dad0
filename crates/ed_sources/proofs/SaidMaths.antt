-- What the lines of the sources of `call divide` and `call root` say.
use Rattle.ed_sources.proofs.Kit.{Line, Statement, codes, None, Text, settings, Divide, Root, [], false}
use Rattle.ed_sources.proofs.Kit.{List, lit≤, refl, Some, ℕ, ◌%◌, ◌/◌, ◌<◌, ◌∷◌}
use Rattle.ed_sources.proofs.CallTexts.{call_lines}
use Rattle.ed_sources.proofs.Said.{at_place, main_calls, said, use_on, use_with, labelled}
use Rattle.ed_sources.proofs.TextLines.{Says, ends, says}
use Rattle.ed_lines.specs.declared.program.Operand.TheVariants as operands
use Rattle.ed_lines.specs.declared.program.Statement.TheVariants as statements

-- the statements that use a routine
abbrev use_divide : Statement
use_divide = use_with (codes "divide") (codes "v")
    (at_place 21 (codes "hi") ∷ at_place 22 (codes "lo") ∷ at_place 23 (codes "by") ∷ [])

abbrev use_root : Statement
use_root = use_with (codes "root") (codes "v") (at_place 21 (codes "of") ∷ at_place 22 (codes "is") ∷ [])

abbrev pub use_print : Text → Text → Statement
use_print name place = use_on (codes "print") name place

abbrev pub divide_lines : ℕ → ℕ → ℕ → List Line
divide_lines high low by =
    main_calls
    ((codes "here", codes "v") ∷ (codes "then", codes "p") ∷ (codes "next", codes "n") ∷ (codes "last", codes "r") ∷ [])
    (said 11 (Some (codes "hi")) (statements.Number high)
    ∷ said 12 (Some (codes "lo")) (statements.Number low)
    ∷ said 13 (Some (codes "by")) (statements.Number by)
    ∷ said 14 None use_divide
    ∷ said 15 None (use_print (codes "p") (codes "lo"))
    ∷ said 16 None (use_with (codes "newline") (codes "n") [])
    ∷ said 17 None (use_print (codes "r") (codes "hi"))
    ∷ said 18 None (statements.Enter (codes "main"))
    ∷ [])

abbrev pub root_lines : ℕ → List Line
root_lines n =
    main_calls ((codes "here", codes "v") ∷ (codes "then", codes "p") ∷ [])
    (said 7 (Some (codes "of")) (statements.Number n)
    ∷ said 8 (Some (codes "is")) (statements.Order 0 (operands.Number 0) false)
    ∷ said 9 None use_root
    ∷ said 10 None (use_print (codes "p") (codes "is"))
    ∷ said 11 None (statements.Enter (codes "main"))
    ∷ [])

pub divide_says : (n by : ℕ) → n / 65536 < 65536 → n % 65536 < 65536 → by < 65536
    → Says false 1 (call_lines (Divide n by)) (divide_lines (n / 65536) (n % 65536) by)
unfolding settings
divide_says n by h l b =
    says refl (says refl (says refl (says refl (says refl (says refl (says refl (says refl (says refl (says refl
    (says (labelled 11 (codes "hi") refl refl (lit≤ tt) refl refl (n / 65536) h)
    (says (labelled 12 (codes "lo") refl refl (lit≤ tt) refl refl (n % 65536) l)
    (says (labelled 13 (codes "by") refl refl (lit≤ tt) refl refl by b)
    (says refl (says refl (says refl (says refl (says refl ends)))))))))))))))))

pub root_says : (n : ℕ) → n < 65536 → Says false 1 (call_lines (Root n)) (root_lines n)
unfolding settings
root_says n small =
    says refl (says refl (says refl (says refl (says refl (says refl
    (says (labelled 7 (codes "of") refl refl (lit≤ tt) refl refl n small)
    (says refl (says refl (says refl (says refl ends))))))))))
