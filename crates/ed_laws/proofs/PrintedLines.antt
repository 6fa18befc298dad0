-- The lines of a post-mortem, and the words that are read back from them.
use Rattle.ed_laws.proofs.Kit.{slice_index, range_with_len, paper_from, Shift, length-append, unwrap_or, ◌%◌, ◌&&◌, ◌/◌}
use Rattle.ed_laws.proofs.Kit.{and_parts, AreDigits, address_digits, is_even, length_code, number_in, printed_codes}
use Rattle.ed_laws.proofs.Kit.{word_codes, [], ap, append_assoc, arith, Bool, codes, drop, false, get_or, if◌then◌else◌}
use Rattle.ed_laws.proofs.Kit.{inl, inr, List, map, nat_eq, nat_le, nat_lt, refl, rules, Some, subst, suc, sym, true}
use Rattle.ed_laws.proofs.Kit.{true≢false, ℕ, ◌++◌, ◌+◌, ◌<◌, ◌^◌, ◌∙◌, ◌∷◌, ◌≡◌, ◌≤◌, nat_tests, Text, paper}
use Rattle.ed_laws.proofs.Kit.{slice_index_or, zero, cases_lt, ◌||◌}
use Rattle.std.proofs.Common.{position, flat_map}
use Rattle.ed_printer.specs.Paper.{letters_printed, shift_after, struck_bytes}
use Rattle.ed_printer.specs.declared.printer.Shift.TheVariants.{Letters, Figures}
use Rattle.ed_printer.proofs.Silent.{eleven_silent, fifteen_silent}
use Rattle.ed_tapes.specs.Runs.{post_mortem_codes}
use Rattle.ed_laws.specs.PrintedLines.{EachLineIsOfItsWord, IsSameOnPaper, is_silent, printed_line}
use Rattle.ed_laws.proofs.Limits.{after_others}
use Rattle.ed_laws.proofs.ReadBack.{word_codes-laid}

-- ---- tests of all small numbers

abbrev all_below : (ℕ → Bool) → ℕ → Bool
all_below test zero = true
all_below test (suc n) = test n && all_below test n

each_below : (test : ℕ → Bool) (n : ℕ) → all_below test n ≡ true → (f : ℕ) → f < n → test f ≡ true
each_below test zero h f less = absurd (omega arith)
each_below test (suc n) h f less =
    let parts = and_parts (test n) (all_below test n) h in
    elim (cases_lt f n) [
      | inl low ↦ each_below test n parts.1 f low
      | inr high ↦ let last : n ≡ f = omega (arith, less, high) in subst (λ m. test m ≡ true) last parts.0
    ]

-- ---- digits

-- a byte is the one of a digit
abbrev is_one : List ℕ → ℕ → Bool
is_one [] x = false
is_one (b ∷ []) x = nat_eq b x
is_one (b ∷ c ∷ bs) x = false

-- a digit prints itself in figure shift
digit_struck : (d : ℕ) → d < 10 → struck_bytes Figures d ≡ (48 + d) ∷ []
digit_struck d less = search rules

digit_stays : (d : ℕ) → d < 10 → shift_after Figures d ≡ Figures
digit_stays d less = search rules

digits_struck : (ds rest : List ℕ) → AreDigits ds
    → paper_from Figures (ds ++ rest) ≡ map (λ d. 48 + d) ds ++ paper_from Figures rest
digits_struck [] rest are = refl
digits_struck (d ∷ ds) rest are =
    (λ i. digit_struck d are.0 i ++ paper_from (digit_stays d are.0 i) (ds ++ rest))
    ∙ ap (λ (t : Text). (48 + d) ∷ t) (digits_struck ds rest are.1)

-- ---- a line

length_struck : (even : Bool) (rest : List ℕ)
    → paper_from Letters (length_code even ∷ 18 ∷ 24 ∷ rest)
    ≡ (if even then codes "F" else codes "D") ++ (13 ∷ 10 ∷ paper_from Letters rest)
length_struck true rest = refl
length_struck false rest = refl

-- the text of a line, bracketed to the right
abbrev line_on : ℕ → Text → Text
line_on word rest = struck_bytes Letters (word / 4096) ++ (map (λ d. 48 + d) (address_digits (number_in word))
    ++ ((if is_even word then codes "F" else codes "D") ++ (13 ∷ 10 ∷ rest)))

line_struck : (shift : Shift) (word : ℕ) (rest : List ℕ)
    → paper_from shift (word_codes word ++ rest) ≡ line_on word (paper_from Letters rest)
line_struck shift word rest =
    search (rules, word_codes-laid, fifteen_silent, eleven_silent, digits_struck, length_struck)

-- it is the line of the definition
line_is : (word : ℕ) (rest : Text) → line_on word rest ≡ printed_line word ++ rest
line_is word rest = search (rules, append_assoc)

-- the lines of words one after the other
unfoldable printed_lines : List ℕ → ℕ → ℕ → Text
printed_lines words first zero = []
printed_lines words first (suc count) = printed_line (slice_index words first) ++ printed_lines words (first + 1) count

lines_are : (words : List ℕ) (first count : ℕ)
    → printed_lines words first count ≡ flat_map (λ a. printed_line (slice_index words a)) (range_with_len first count)
unfolding printed_lines
lines_are words first zero = refl
lines_are words first (suc count) =
    ap (λ (t : Text). printed_line (slice_index words first) ++ t) (lines_are words (first + 1) count)

lines_struck : (words : List ℕ) (first count : ℕ) (shift : Shift)
    → paper_from shift (printed_codes words first count) ≡ printed_lines words first count
unfolding printed_codes printed_lines
lines_struck words first zero shift = refl
lines_struck words first (suc count) shift =
    let word = slice_index words first in
    line_struck shift word (printed_codes words (first + 1) count)
    ∙ line_is word (paper_from Letters (printed_codes words (first + 1) count))
    ∙ ap (λ (t : Text). printed_line word ++ t) (lines_struck words (first + 1) count Letters)

-- ---- a line is read back

-- F or D, as a byte
abbrev length_byte : Bool → ℕ
length_byte true = 70
length_byte false = 68

abbrev rest_of : ℕ → Text → Text
rest_of word rest = map (λ d. 48 + d) (address_digits (number_in word))
    ++ length_byte (is_even word) ∷ 13 ∷ 10 ∷ rest

laid_out : (word : ℕ) (rest : Text) → line_on word rest ≡ struck_bytes Letters (word / 4096) ++ rest_of word rest
laid_out word rest = search rules

-- the number and the length of a word
rest_back : (v w : ℕ) (more others : Text) → rest_of v more ≡ rest_of w others
    → (v % 4096 ≡ w % 4096) × (more ≡ others)
rest_back v w more others h = search rules

is_equal : (a b : ℕ) → nat_eq a b ≡ true → a ≡ b
is_equal a b h = grind (arith, nat_tests)

-- what a function prints: nothing, or one byte that is no digit and that no other function prints
abbrev no_digit : ℕ → Bool
no_digit byte = nat_lt byte 48 || nat_le 58 byte

abbrev function_in : ℕ → ℕ
function_in byte = unwrap_or (position (λ (bs : List ℕ). is_one bs byte) letters_printed) 0

abbrev is_right : List ℕ → ℕ → Bool
is_right [] f = is_silent f
is_right (b ∷ []) f = no_digit b && nat_eq (function_in b) f
is_right (b ∷ c ∷ bs) f = false

all_right : (f : ℕ) → f < 32 → is_right (struck_bytes Letters f) f ≡ true
all_right = each_below (λ f. is_right (slice_index_or letters_printed f []) f) 32 refl

-- what begins with a digit doesn't begin with such a byte
begins_with_digit : (word : ℕ) (rest : Text) → no_digit (get_or (rest_of word rest) 0 0) ≡ false
begins_with_digit word rest = search (rules, length-append)

line_back : (v w : ℕ) (more others : Text) → v < 2 ^ 17 → w < 2 ^ 17 → line_on v more ≡ line_on w others
    → IsSameOnPaper v w × (more ≡ others)
line_back v w more others l m h =
    by_struck (struck_bytes Letters (v / 4096)) (struck_bytes Letters (w / 4096))
    (all_right (v / 4096) (omega (arith, l))) (all_right (w / 4096) (omega (arith, m)))
    (sym (laid_out v more) ∙ h ∙ laid_out w others)
  where
    by_struck : (bs cs : List ℕ) → is_right bs (v / 4096) ≡ true → is_right cs (w / 4096) ≡ true
        → bs ++ rest_of v more ≡ cs ++ rest_of w others → IsSameOnPaper v w × (more ≡ others)
    by_struck [] [] a b e = let back = rest_back v w more others e in (inr (a, b, back.0), back.1)
    by_struck [] (c ∷ []) a b e =
        let same = ap (λ (t : Text). no_digit (get_or t 0 0)) e in
        absurd (true≢false (sym (and_parts _ _ b).0 ∙ sym same ∙ begins_with_digit v more))
    by_struck (b ∷ []) [] x y e =
        let same = ap (λ (t : Text). no_digit (get_or t 0 0)) e in
        absurd (true≢false (sym (and_parts _ _ x).0 ∙ same ∙ begins_with_digit w others))
    by_struck (b ∷ []) (c ∷ []) x y e =
        let same : b ≡ c = ap (λ (t : Text). get_or t 0 0) e in
        let back = rest_back v w more others (ap (λ (t : Text). drop 1 t) e) in
        let of_v : function_in b ≡ v / 4096 = is_equal (function_in b) (v / 4096) (and_parts (no_digit b) _ x).1 in
        let of_w : function_in c ≡ w / 4096 = is_equal (function_in c) (w / 4096) (and_parts (no_digit c) _ y).1 in
        let functions : v / 4096 ≡ w / 4096 = sym of_v ∙ ap function_in same ∙ of_w in
        let word : v ≡ w = omega (arith, functions, back.0) in
        (inl word, back.1)
    by_struck (b ∷ d ∷ bs) cs x y e = absurd (true≢false (sym x))
    by_struck [] (c ∷ d ∷ cs) x y e = absurd (true≢false (sym y))
    by_struck (b ∷ []) (c ∷ d ∷ cs) x y e = absurd (true≢false (sym y))

lines_back : (v w : List ℕ) (first count : ℕ) → ((i : ℕ) → slice_index v i < 2 ^ 17)
    → ((i : ℕ) → slice_index w i < 2 ^ 17)
    → printed_lines v first count ≡ printed_lines w first count
    → (a : ℕ) → first ≤ a → a < first + count → IsSameOnPaper (slice_index v a) (slice_index w a)
unfolding printed_lines
lines_back v w first zero l m same a low high = absurd (omega arith)
lines_back v w first (suc count) l m same a low high =
    let more = printed_lines v (first + 1) count in
    let others = printed_lines w (first + 1) count in
    let both = line_back (slice_index v first) (slice_index w first) more others (l first) (m first)
    (line_is (slice_index v first) more ∙ same ∙ sym (line_is (slice_index w first) others)) in
    elim (cases_lt first a) [
      | inl later ↦ lines_back v w (first + 1) count l m both.1 a (omega (arith, later)) (omega (arith, high))
      | inr no_later ↦
          let here : first ≡ a = omega (arith, low, no_later) in
          subst (λ i. IsSameOnPaper (slice_index v i) (slice_index w i)) here both.0
    ]

pub each_line_is_of_its_word : EachLineIsOfItsWord
each_line_is_of_its_word = record {
  prints = λ before w s.
      let after = after_others before Letters in
      after.1 (post_mortem_codes (Some w) s)
      ∙ ap (λ (t : Text). paper before ++ t)
      (lines_struck s.store.words w.first w.count after.0 ∙ lines_are s.store.words w.first w.count);
  read = λ w s t one other same.
      lines_back s.store.words t.store.words w.first w.count one.fits other.fits
      (sym (lines_struck s.store.words w.first w.count Letters) ∙ same
      ∙ lines_struck t.store.words w.first w.count Letters);
}
