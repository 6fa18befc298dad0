-- Letters of a trace, one after the other.
use Rattle.ed_report.proofs.Kit.{append-nil, drop_all, State, [], ap, append_assoc, arith, drop, false, get_or, length}
use Rattle.ed_report.proofs.Kit.{List, refl, sym, ℕ, ◌++◌, ◌+◌, ◌<◌, ◌∙◌, ◌∷◌, ◌≡◌, ◌≤◌, letters_from}
use Rattle.ed_machine.proofs.Names.{add-one, Bool, length-append, suc, zero, function_of, next_word, state_after}
use Rattle.std.proofs.Common.{if◌then◌else◌}
use Rattle.std.proofs.lemmas.List.{at_drop_more}
use Rattle.ed_codes.specs.Spelling.{byte_of}
use Rattle.ed_report.specs.Traces.{functions_after, is_full, line_end, trace_text, traced_letter}

-- one letter more
pub letters_more : (n : ℕ) (fs : List ℕ) (f : ℕ)
    → letters_from n (fs ++ f ∷ []) ≡ letters_from n fs ++ traced_letter (n + length fs + 1) f
letters_more n [] f = let e : n + 0 + 1 ≡ n + 1 = omega arith in rw e (append-nil (traced_letter (n + 1) f))
letters_more n (g ∷ fs) f =
    let e : n + 1 + length fs + 1 ≡ n + length (g ∷ fs) + 1 = omega arith in
    ap (λ t. traced_letter (n + 1) g ++ t)
    (letters_more (n + 1) fs f ∙ ap (λ k. letters_from (n + 1) fs ++ traced_letter k f) e)
    ∙ sym (append_assoc (traced_letter (n + 1) g) (letters_from (n + 1) fs) (traced_letter (n + length (g ∷ fs) + 1) f))

-- a text that has the letters of the first i functions, after the letter of the next one
pub next_lettered : (before : List ℕ) {after whole : List ℕ} (fs : List ℕ) {i f byte : ℕ}
    → before ++ letters_from i (drop i fs) ≡ whole → i < length fs → f ≡ get_or fs i f → byte ≡ byte_of f false
    → (full : Bool) → is_full (i + 1) ≡ full → after ≡ (before ++ byte ∷ []) ++ line_end full
    → after ++ letters_from (i + 1) (drop (i + 1) fs) ≡ whole
next_lettered before {after} {whole} fs {i} {f} start within at letter full ends added =
    rw (added, ← ends, letter, ← start, at_drop_more (letters_from i) fs i f within, ← at) (simp append_assoc)

-- a text that has the letters of all functions, and the end of its last line
pub all_lettered : (text : List ℕ) {whole : List ℕ} (fs : List ℕ) (i : ℕ) (full : Bool)
    → text ++ letters_from i (drop i fs) ≡ letters_from 0 fs → length fs ≤ i → is_full (length fs) ≡ full
    → whole ≡ text ++ (if full then [] else 10 ∷ []) → whole ≡ trace_text fs
all_lettered text {whole} fs i full start over ends last =
    let none = ap (letters_from i) (drop_all i fs over) in
    rw (last, ends, ← start, none, append-nil text) refl

-- the functions of one order more
pub next_functions : (k : ℕ) (s : State)
    → functions_after (k + 1) s ≡ functions_after k s ++ function_of (next_word (state_after k s)) ∷ []
unfolding functions_after
next_functions k s = ap (λ n. functions_after n s) (add-one k)

-- no function
pub no_functions : (s : State) → functions_after 0 s ≡ []
unfolding functions_after
no_functions s = refl

-- one for each order
pub functions_count : (k : ℕ) (s : State) → length (functions_after k s) ≡ k
unfolding functions_after
functions_count zero s = refl
functions_count (suc k) s =
    let before : length (functions_after k s) ≡ k = functions_count k s in
    omega (arith, before, length-append (functions_after k s) (function_of (next_word (state_after k s)) ∷ []))
