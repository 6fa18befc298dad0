-- The source that `demo` runs (this project's own): it adds up the words of some segments, which come from a sequence
-- of numbers, and prints the sum.
use Rattle.std.specs.Prelude.{ℕ, zero, suc, ◌+◌, ◌*◌, ◌/◌, ◌%◌, List, [], ◌∷◌, ◌++◌, codes, map, sum}
use Rattle.std.specs.Fmt.{decimal}
use Rattle.ed_words.specs.Texts.{Text}
use Rattle.ed_sources.specs.CallSources.{text_of_lines, filled_text}
use Rattle.ed_sources.specs.declared.demo.TheConstants.{ADDING}

-- the number after a given one in the sequence
abbrev pub next : ℕ → ℕ
next x = (1105 * x + 12345) % 65536

-- the number n steps after a given one
abbrev pub number_after : ℕ → ℕ → ℕ
number_after zero x = x
number_after (suc n) x = number_after n (next x)

-- the word of a number of the sequence; it is below 64
abbrev pub number_word : ℕ → ℕ
number_word x = x / 1024

-- the words of the n numbers after a given one
abbrev pub words_after : ℕ → ℕ → List ℕ
words_after zero x = []
words_after (suc n) x = number_word (next x) ∷ words_after n (next x)

-- the words of `demo N`: those of the 8 N numbers after N
abbrev pub demo_words : ℕ → List ℕ
demo_words n = words_after (8 * n) n

-- what `demo N` prints: their sum. It is at most 504 N, so below 65,536 for every N up to 112, as `print` requires
abbrev pub demo_sum : ℕ → ℕ
demo_sum n = sum (demo_words n)

-- the lines of the words of the n numbers after a given one
abbrev pub word_lines : ℕ → ℕ → List Text
word_lines n x = map (λ word. codes "word " ++ decimal word) (words_after n x)

-- n segments of 8 words each, named s and a number from k upwards, with the words of the numbers after a given one
abbrev pub segments : ℕ → ℕ → ℕ → List Text
segments zero k x = []
segments (suc n) k x = (codes "segment s" ++ decimal k) ∷ word_lines 8 x ++ segments n (k + 1) (number_after 8 x)

-- the pieces of the program, and the program for a number of words
abbrev pub adding_pieces : List Text
adding_pieces = map (λ piece. piece.now) ADDING

abbrev pub adding_text : ℕ → Text
adding_text words = filled_text adding_pieces (decimal words ∷ [])

-- the source of `demo N`: the program, N segments with the words of the numbers after N, and the entry
unfoldable pub demo_text : ℕ → Text
demo_text n = adding_text (8 * n) ++ text_of_lines (segments n 1 n ++ codes "enter main" ∷ [])
