-- The source of `demo` is accepted.
use Rattle.ed_sources.proofs.Kit.{decimal, flat_map-append, list_all-append, codes, length-append, Ok, list_all}
use Rattle.ed_sources.proofs.Kit.{and_from, nat_tests, Text, is_line_byte, [], ap, arith, length, List, refl, suc, sym}
use Rattle.ed_sources.proofs.Kit.{true, zero, ℕ, ◌*◌, ◌++◌, ◌+◌, ◌<◌, ◌∙◌, ◌∷◌, ◌≡◌, ◌≤◌, program_of, text_of_lines}
use Rattle.ed_sources.proofs.Kit.{adding_pieces, demo_text, next, number_after, segments, word_lines}
use Rattle.ed_sources.proofs.CallsAccepted.{decimal_plain}
use Rattle.ed_sources.proofs.FilledLines.{filled_is}
use Rattle.ed_sources.proofs.SaidDemo.{adding, demo_lines, demo_says, demo_source}
use Rattle.ed_sources.proofs.TextLines.{program_is, said_lines}
use Rattle.std.proofs.Common.{rules}

-- ---- bytes of lines

words_plain : (n x : ℕ) → list_all (list_all is_line_byte) (word_lines n x) ≡ true
words_plain zero x = refl
words_plain (suc n) x = search (rules, decimal_plain, words_plain n (next x))

segments_plain : (n k x : ℕ) → k + n ≤ 65536 → list_all (list_all is_line_byte) (segments n k x) ≡ true
segments_plain zero k x few = refl
segments_plain (suc n) k x few =
    let rest = segments_plain n (k + 1) (number_after 8 x) (omega arith) in
    search (rules, decimal_plain, list_all-append, and_from, words_plain, rest)

adding_plain : (words : ℕ) → words < 65536 → list_all (list_all is_line_byte) (adding words) ≡ true
adding_plain words small = search (rules, list_all-append, and_from, decimal_plain)

demo_plain : (n : ℕ) → n ≤ 112 → list_all (list_all is_line_byte) (demo_source n) ≡ true
demo_plain n few = grind (arith, nat_tests, list_all-append, and_from, adding_plain, segments_plain)

-- ---- how many lines there are

words_count : (n x : ℕ) → length (word_lines n x) ≡ n
words_count zero x = refl
words_count (suc n) x = let e = words_count n (next x) in omega (arith, e)

segments_count : (n k x : ℕ) → length (segments n k x) ≡ 9 * n
segments_count zero k x = refl
segments_count (suc n) k x = search (rules, words_count, length-append, segments_count n (k + 1) (number_after 8 x))

-- ---- what the source is read as

demo_text_is : (n : ℕ) → demo_text n ≡ text_of_lines (demo_source n)
unfolding demo_text
demo_text_is n =
    let rest : List Text = segments n 1 n ++ codes "enter main" ∷ [] in
    ap (λ (t : Text). t ++ text_of_lines rest) (sym (filled_is adding_pieces (decimal (8 * n) ∷ []) refl))
    ∙ sym (flat_map-append (λ line. line ++ 10 ∷ []) (adding (8 * n)) rest)

pub demo_read : (n : ℕ) → n ≤ 112 → program_of (demo_text n) ≡ Ok (demo_lines n)
demo_read n few =
    let count = segments_count n 1 n in
    let long = length-append (segments n 1 n) (codes "enter main" ∷ []) in
    ap program_of (demo_text_is n)
    ∙ program_is (demo_source n) (demo_lines n) (demo_plain n few) refl
    (said_lines (demo_says n few) (omega (arith, count, long)))
