-- What the lines of the source of `demo` say.
use Rattle.ed_sources.proofs.Kit.{decimal, list_all-append, Line, Statement, codes, length-append, None, Ok, pos}
use Rattle.ed_sources.proofs.Kit.{list_all, le-leb, length-map, value, Text, is_run_byte, is_line_byte, is_number, run}
use Rattle.ed_sources.proofs.Kit.{sign, settings, parts_of, line_of, run_parts, ne_eqb, [], ap, arith, false, length}
use Rattle.ed_sources.proofs.Kit.{List, lit≤, refl, rules, Some, subst, suc, sym, true, zero, ℕ, ◌*◌, ◌++◌, ◌+◌, ◌<◌}
use Rattle.ed_sources.proofs.Kit.{◌==◌, ◌∙◌, ◌∷◌, ◌≡◌, ◌≤◌, digits, adding_pieces, next, number_after, number_word}
use Rattle.ed_sources.proofs.Kit.{segments, word_lines}
use Rattle.ed_sources.proofs.Decimals.{are_digits-digits, decimal_is, digit_bytes, few_bytes, line_bytes, run_bytes}
use Rattle.ed_sources.proofs.Decimals.{some_digit, value_is, written}
use Rattle.ed_sources.proofs.FilledLines.{filled_lines}
use Rattle.ed_sources.proofs.Said.{a_number, number_parts, order, plain_front, said, stop, word_says}
use Rattle.ed_sources.proofs.SaidMaths.{use_print}
use Rattle.ed_sources.proofs.TextLines.{Says, ends, says, by_parts}
use Rattle.ed_lines.specs.declared.program.Operand.TheVariants as operands
use Rattle.ed_lines.specs.declared.program.Statement.TheVariants as statements

-- ---- lines

-- the name of a segment
abbrev pub name : ℕ → Text
name k = 115 ∷ decimal k

-- the order that would add the word after the last
abbrev pub behind_last : ℕ → Statement
behind_last words = statements.Order 28 (operands.Label (codes "s1") (pos words)) false

abbrev pub nothing : Statement
nothing = statements.Order 0 (operands.Number 0) false

-- the lines of the program
abbrev pub adding_lines : ℕ → List Line
adding_lines words =
    said 1 None (statements.Segment (codes "main") None)
    ∷ said 2 (Some (codes "loop")) (order 5 (codes "junk"))
    ∷ said 3 None (order 28 (codes "total"))
    ∷ said 4 (Some (codes "add")) (order 28 (codes "s1"))
    ∷ said 5 None (order 5 (codes "total"))
    ∷ said 6 None (order 28 (codes "add"))
    ∷ said 7 None (statements.Order 28 (operands.Number 2) false)
    ∷ said 8 None (order 7 (codes "add"))
    ∷ said 9 None (order 12 (codes "stop"))
    ∷ said 10 None (order 27 (codes "loop"))
    ∷ said 11 None (order 5 (codes "junk"))
    ∷ said 12 (Some (codes "here")) (order 28 (codes "here"))
    ∷ said 13 None (order 27 (codes "p"))
    ∷ said 14 None stop
    ∷ said 15 (Some (codes "stop")) (behind_last words)
    ∷ said 16 (Some (codes "junk")) nothing
    ∷ said 17 (Some (codes "total")) nothing
    ∷ said 18 None (use_print (codes "p") (codes "total"))
    ∷ []

-- the lines of n words; the first of them has the number l
abbrev pub word_forms : ℕ → ℕ → ℕ → List Line
word_forms zero l x = []
word_forms (suc n) l x = said l None (statements.Number (number_word (next x))) ∷ word_forms n (l + 1) (next x)

abbrev pub segment_line : ℕ → Text → Line
segment_line l name = said l None (statements.Segment name None)

-- the lines of n segments, the first with the number k
abbrev pub segment_forms : ℕ → ℕ → ℕ → ℕ → List Line
segment_forms zero k l x = []
segment_forms (suc n) k l x =
    segment_line l (name k) ∷ word_forms 8 (l + 1) x ++ segment_forms n (k + 1) (l + 9) (number_after 8 x)

abbrev pub enter_line : ℕ → Line
enter_line l = said l None (statements.Enter (codes "main"))

abbrev pub demo_lines : ℕ → List Line
demo_lines n = adding_lines (8 * n) ++ segment_forms n 1 19 n ++ enter_line (19 + 9 * n) ∷ []

-- ---- words and segments

words_say : (n l x : ℕ) {rest : List Text} {program : List Line} → 2 ≤ l → Says false (l + n) rest program
    → Says false l (word_lines n x ++ rest) (word_forms n l x ++ program)
words_say zero l x {rest} {program} second tail = subst (λ j. Says false j rest program) (omega arith) tail
words_say (suc n) l x {rest} {program} second tail =
    let e : l + suc n ≡ l + 1 + n = omega arith in
    says (word_says (plain_front false l second) (number_word (next x)) (omega arith))
    (words_say n (l + 1) (next x) (omega arith) (rw e at tail))

-- a line that begins a segment, by what comes after the s of its name
segment_says_of : (l : ℕ) (text bytes : Text) → text ≡ 115 ∷ bytes → 2 ≤ l → list_all is_line_byte bytes ≡ true
    → length bytes ≤ 5
    → list_all is_run_byte bytes ≡ true
    → line_of false l (codes "segment " ++ text)
    ≡ Ok (record { label = None; statement = Some (statements.Segment text None) })
segment_says_of l text bytes is second plain few runs =
    search (rules, ne_eqb, by_parts, length-append, number_parts, le-leb)

segment_says : (l k : ℕ) → 2 ≤ l → k < 65536
    → line_of false l (codes "segment s" ++ decimal k)
    ≡ Ok (record { label = None; statement = Some (statements.Segment (name k) None) })
segment_says l k second small =
    segment_says_of l (name k) (written (digits k)) (ap (λ (t : Text). 115 ∷ t) (sym (decimal_is k small))) second
    (line_bytes (digits k) (are_digits-digits k small)) (few_bytes k small)
    (run_bytes (digits k) (are_digits-digits k small))

segments_say : (n k l x : ℕ) {rest : List Text} {program : List Line} → 2 ≤ l → k + n ≤ 65536
    → Says false (l + 9 * n) rest program
    → Says false l (segments n k x ++ rest) (segment_forms n k l x ++ program)
segments_say zero k l x {rest} {program} second few tail = subst (λ j. Says false j rest program) (omega arith) tail
segments_say (suc n) k l x {rest} {program} second few tail =
    let behind_words : l + 1 + 8 ≡ l + 9 = omega arith in
    let last : l + 9 * suc n ≡ l + 9 + 9 * n = omega arith in
    says (segment_says l k second (omega arith))
    (words_say 8 (l + 1) x (omega arith)
    (rw behind_words
    (segments_say n (k + 1) (l + 9) (number_after 8 x) (omega arith) (omega arith) (rw last at tail))))

-- ---- the program

-- digits, and F after them
then_F : (bytes : Text) → 0 < length bytes → list_all is_run_byte bytes ≡ true
    → parts_of (bytes ++ codes " F") ≡ Some (run bytes ∷ sign 70 ∷ [])
then_F [] some h = absurd (omega arith)
then_F (b ∷ r) some h = run_parts b r (codes " F") h refl

plain_F : (bytes : Text) → list_all is_line_byte bytes ≡ true → list_all is_line_byte (bytes ++ codes " F") ≡ true
plain_F bytes h = list_all-append is_line_byte bytes (codes " F") ∙ rw h refl

stop_line : {words : ℕ} (bytes : Text) → 0 < length bytes → list_all is_line_byte bytes ≡ true → length bytes ≤ 5
    → list_all is_run_byte bytes ≡ true → is_number bytes ≡ true → value bytes ≡ words → words ≤ 1023
    → line_of false 15 (codes "stop: A s1+" ++ (bytes ++ codes " F"))
    ≡ Ok (record { label = Some (codes "stop"); statement = Some (behind_last words) })
stop_line bytes some plain few runs number is small =
    search (rules, plain_F, then_F, le-leb, length-append, by_parts, sign)

stop_says : (words : ℕ) → words ≤ 1023
    → line_of false 15 (codes "stop: A s1+" ++ (decimal words ++ codes " F"))
    ≡ Ok (record { label = Some (codes "stop"); statement = Some (behind_last words) })
stop_says words few =
    let small : words < 65536 = omega arith in
    let ds : List ℕ = digits words in
    let some : 0 < length (written ds) = let e = some_digit words in omega (arith, length-map ds (λ d. 48 + d), e) in
    let runs = run_bytes ds (are_digits-digits words small) in
    subst (λ (bytes : Text). line_of false 15 (codes "stop: A s1+" ++ (bytes ++ codes " F"))
    ≡ Ok (record { label = Some (codes "stop"); statement = Some (behind_last words) }))
    (decimal_is words small)
    (stop_line (written ds) some (line_bytes ds (are_digits-digits words small)) (few_bytes words small) runs
    (a_number (written ds) some (digit_bytes ds (are_digits-digits words small))) (value_is words small) few)

-- the text lines of the program, and of the source
abbrev pub adding : ℕ → List Text
adding words = filled_lines adding_pieces (decimal words ∷ [])

abbrev pub demo_source : ℕ → List Text
demo_source n = adding (8 * n) ++ segments n 1 n ++ codes "enter main" ∷ []

adding_says : (words : ℕ) {rest : List Text} {program : List Line} → words ≤ 1023 → Says false 19 rest program
    → Says false 1 (adding words ++ rest) (adding_lines words ++ program)
unfolding settings
adding_says words few tail =
    says refl (says refl (says refl (says refl (says refl (says refl (says refl (says refl (says refl (says refl
    (says refl (says refl (says refl (says refl
    (says (stop_says words few) (says refl (says refl (says refl tail)))))))))))))))))

enter_says : (l : ℕ) → 2 ≤ l → line_of false l (codes "enter main")
    ≡ Ok (record { label = None; statement = Some (statements.Enter (codes "main")) })
enter_says l second = let first : (l == 1) ≡ false = ne_eqb l 1 (omega (arith, second)) in rw first refl

pub demo_says : (n : ℕ) → n ≤ 112 → Says false 1 (demo_source n) (demo_lines n)
demo_says n few =
    adding_says (8 * n) (omega arith) (segments_say n 1 19 n (lit≤ tt) (omega arith)
    (says (enter_says (19 + 9 * n) (omega arith)) ends))
