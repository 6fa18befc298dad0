-- The text of a source that grows by words and segments.
use Rattle.ed_sources.proofs.Kit.{decimal, flat_map-append, append_assoc, codes, Text, append-nil, [], ap, arith, rules}
use Rattle.ed_sources.proofs.Kit.{suc, sym, zero, ℕ, ◌*◌, ◌++◌, ◌+◌, ◌<◌, ◌∙◌, ◌∷◌, ◌≡◌, text_of_lines, demo_text, next}
use Rattle.ed_sources.proofs.Kit.{number_after, number_word, segments, word_lines, refl}
use Rattle.ed_sources.specs.DemoSources.{adding_text}

-- a line, of those that are left
pub one_line : (before line digits rest whole : Text) → line ≡ digits ++ codes "\n"
    → before ++ ((digits ++ 10 ∷ []) ++ rest) ≡ whole
    → (before ++ line) ++ rest ≡ whole
one_line before line digits rest whole is h =
    append_assoc before line rest ∙ ap (λ (t : Text). before ++ (t ++ rest)) is ∙ h

-- the next number of the sequence is one step nearer to the last
pub one_behind : {n m y last : ℕ} (x : ℕ) → n ≡ suc m → y ≡ next x → number_after n x ≡ last
    → number_after m y ≡ last
one_behind {m = m} x less is h = ap (number_after m) is ∙ ap (λ k. number_after k x) (sym less) ∙ h

-- one word fewer is left
pub one_word : {n m y : ℕ} {grown whole : Text} (x : ℕ) (before : Text) → n ≡ suc m → y ≡ next x
    → grown ≡ before ++ (codes "word " ++ decimal (number_word y) ++ codes "\n")
    → before ++ text_of_lines (word_lines n x) ≡ whole → grown ++ text_of_lines (word_lines m y) ≡ whole
one_word {m = m} {whole = whole} x before less is more h =
    let line : Text = codes "word " ++ decimal (number_word (next x)) ++ codes "\n" in
    let grown_is = more ∙ ap (λ k. before ++ (codes "word " ++ decimal (number_word k) ++ codes "\n")) is in
    (λ i. grown_is i ++ text_of_lines (word_lines m (is i)))
    ∙ one_line before line (codes "word " ++ decimal (number_word (next x)))
    (text_of_lines (word_lines m (next x))) whole refl
    (ap (λ k. before ++ text_of_lines (word_lines k x)) (sym less) ∙ h)

-- no word is left
pub no_number : {last : ℕ} (n x : ℕ) → n ≡ 0 → number_after n x ≡ last → x ≡ last
no_number n x none h = ap (λ k. number_after k x) (sym none) ∙ h

pub no_word : {whole : Text} (n x : ℕ) (before : Text) → n ≡ 0 → before ++ text_of_lines (word_lines n x) ≡ whole
    → before ≡ whole
no_word n x before none h =
    sym (append-nil before) ∙ ap (λ k. before ++ text_of_lines (word_lines k x)) (sym none) ∙ h

-- one segment fewer is left
pub one_segment : {n m last : ℕ} {with_line with_words whole : Text} (k x : ℕ) (before : Text) → n ≡ suc m
    → with_line ≡ before ++ (codes "segment s" ++ decimal k ++ codes "\n")
    → with_words ≡ with_line ++ text_of_lines (word_lines 8 x)
    → last ≡ number_after 8 x
    → before ++ text_of_lines (segments n k x) ≡ whole → with_words ++ text_of_lines (segments m (k + 1) last) ≡ whole
one_segment {m = m} {with_line = with_line} {whole = whole} k x before less line words_are end h =
    search (rules, append_assoc, one_line, flat_map-append)

pub no_segment : {n : ℕ} {whole : Text} (k x : ℕ) (before : Text) → n ≡ 0 → before
    ++ text_of_lines (segments n k x) ≡ whole
    → before ≡ whole
no_segment k x before none h =
    sym (append-nil before) ∙ ap (λ j. before ++ text_of_lines (segments j k x)) (sym none) ∙ h

-- the numbers of the sequence
pub behind_low : (n x : ℕ) → x < 65536 → number_after n x < 65536
behind_low zero x small = small
behind_low (suc n) x small = behind_low n (next x) (omega arith)

-- the program, the segments and the entry are the whole source
pub whole_source : {program with_segments with_entry : Text} (n : ℕ) → program ≡ adding_text (8 * n)
    → with_segments ≡ program ++ text_of_lines (segments n 1 n) → with_entry ≡ with_segments ++ codes "enter main\n"
    → with_entry ≡ demo_text n
unfolding demo_text
whole_source n first second third = search (rules, append_assoc, flat_map-append)
