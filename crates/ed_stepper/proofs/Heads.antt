-- The first line of a text, and the first part of a line.
use Rattle.ed_stepper.proofs.Kit.{position_or_len, eq-eqb, ne_eqb, drop_all, take_rest, eqb-true, [], ap, arith, Bool}
use Rattle.ed_stepper.proofs.Kit.{drop, false, if◌then◌else◌}
use Rattle.ed_stepper.proofs.Kit.{length, not, refl, suc, sym, take, true, zero, ℕ, ◌+◌, ◌-◌, ◌<◌, ◌==◌, ◌∙◌, ◌∷◌, ◌≡◌}
use Rattle.ed_stepper.proofs.Kit.{◌≤◌, Text, has_end, lines_of, with_byte, without_return, begins_part, is_space}
use Rattle.ed_stepper.proofs.Kit.{parts_between_spaces, line_feed_place, ◌++◌}
use Rattle.ed_syntax.proofs.Kit.{get_or, nat_lt, lt-ltb, take_all}
use Rattle.std.proofs.lemmas.List.{drop_more, take_more}
use Rattle.ed_syntax.proofs.Lines.{keeps_end, no_return, takes_ended, takes_last}
use Rattle.ed_stepper.specs.Private.Fronts.{first_space, stop_of}

pub one_more : (n : ℕ) → 1 + n ≡ suc n
one_more n = omega arith

-- ---- lines

-- there is no line feed before the first
no_end_before : (text : Text) → has_end (take (line_feed_place text) text) ≡ false
no_end_before [] = refl
no_end_before (b ∷ bs) = by_test (b == 10) refl (no_end_before bs)
  where
    by_test : (t : Bool) → (b == 10) ≡ t → has_end (take (line_feed_place bs) bs) ≡ false
        → has_end (take (if not t then 1 + line_feed_place bs else 0) (b ∷ bs)) ≡ false
    by_test true e h = refl
    by_test false e h = let s = one_more (line_feed_place bs) in rw (s, e) h

-- it is there, or nowhere
end_there : (text : Text) → line_feed_place text < length text → get_or text (line_feed_place text) 0 ≡ 10
end_there [] low = absurd (omega arith)
end_there (b ∷ bs) low = by_test (b == 10) refl low (end_there bs)
  where
    by_test : (t : Bool) → (b == 10) ≡ t → (if not t then 1 + line_feed_place bs else 0) < length (b ∷ bs)
        → (line_feed_place bs < length bs → get_or bs (line_feed_place bs) 0 ≡ 10)
        → get_or (b ∷ bs) (if not t then 1 + line_feed_place bs else 0) 0 ≡ 10
    by_test true e l h = eqb-true _ _ e
    by_test false e l h = let s = one_more (line_feed_place bs) in rw s (h (omega arith))

-- without a carriage return just before it
stop_is : (text : Text) (end : ℕ) → end ≤ length text → take (stop_of text end) text ≡ without_return (take end text)
stop_is text zero within = refl
stop_is text (suc k) within =
    let some : nat_lt 0 (suc k) ≡ true = lt-ltb 0 (suc k) (omega arith) in
    let minus : suc k - 1 ≡ k = omega arith in
    rw (some, minus) (by_test (get_or text k 0 == 13) refl)
  where
    pushed : take (suc k) text ≡ take k text ++ get_or text k 0 ∷ []
    pushed = let e : suc k ≡ k + 1 = omega arith in rw e (take_more text k 0 (omega arith))

    by_test : (t : Bool) → (get_or text k 0 == 13) ≡ t
        → take (if t then k else suc k) text ≡ without_return (take (suc k) text)
    by_test true e =
        let thirteen : get_or text k 0 ≡ 13 = eqb-true _ _ e in
        rw (pushed, thirteen) (sym (no_return (take k text)))
    by_test false e = pushed ∙ sym (keeps_end (take k text) (get_or text k 0) e) ∙ ap without_return (sym pushed)

-- a first line that ends
pub line_ended : (text : Text) (end stop : ℕ) → end ≡ line_feed_place text → end < length text → stop ≡ stop_of text end
    → lines_of text ≡ take stop text ∷ lines_of (drop (end + 1) text)
line_ended text end stop place low is =
    let below : line_feed_place text < length text = omega (arith, place, low) in
    rw place (takes_ended text (take stop text) (line_feed_place text) below (no_end_before text) (end_there text below)
    (ap (λ n. take n text) (is ∙ ap (stop_of text) place) ∙ stop_is text (line_feed_place text) (omega arith))).lines

-- a first line that is the whole text
pub first_last : (text : Text) → 0 < length text → length text ≤ line_feed_place text
    → lines_of text ≡ text ∷ lines_of []
first_last text some past =
    (takes_last text some (rw (take_all (line_feed_place text) text past) at (no_end_before text))).lines

-- ---- parts

-- no part begins at a space
none_begun : (text : Text) → begins_part text ≡ false → first_space text ≡ 0
none_begun [] e = refl
none_begun (b ∷ bs) e = rw e refl

-- the part at the front
part_at : (text : Text) → begins_part text ≡ true
    → parts_between_spaces text ≡ take (first_space text) text ∷ parts_between_spaces (drop (first_space text) text)
part_at [] begin = absurd (cc)
part_at (b ∷ bs) begin = by_test (is_space b) refl begin (part_at bs)
  where
    after : (x : Bool) → begins_part bs ≡ x
        → (begins_part bs ≡ true → parts_between_spaces bs ≡ take (first_space bs) bs ∷ parts_between_spaces
        (drop (first_space bs) bs))
        → (if x then with_byte b (parts_between_spaces bs) else (b ∷ []) ∷ parts_between_spaces bs) ≡
        (b ∷ take (first_space bs) bs)
        ∷ parts_between_spaces (drop (first_space bs) bs)
    after true e h = ap (with_byte b) (h e)
    after false e h = let z = none_begun bs e in rw z refl

    by_test : (t : Bool) → is_space b ≡ t → not t ≡ true
        → (begins_part bs ≡ true → parts_between_spaces bs ≡ take (first_space bs) bs ∷ parts_between_spaces
        (drop (first_space bs) bs))
        → parts_between_spaces (b ∷ bs) ≡ take (if not t then 1 + first_space bs else 0) (b ∷ bs) ∷ parts_between_spaces
        (drop (if not t then 1 + first_space bs else 0) (b ∷ bs))
    by_test true e h more = absurd (cc)
    by_test false e h more = let s = one_more (first_space bs) in rw (e, s) (after (begins_part bs) refl more)

-- ---- the place of a byte

-- by its place in what is left of the text: a byte that differs is passed
pub position_or_len-passed : (wanted : ℕ) (text : Text) (i : ℕ) → i < length text → (get_or text i 0 ≡ wanted → ⊥)
    → position_or_len (λ b. b == wanted) (drop i text) ≡ 1 + position_or_len (λ b. b == wanted) (drop (i + 1) text)
position_or_len-passed wanted text i below other =
    rw (drop_more text i 0 below, ne_eqb (get_or text i 0) wanted other) refl

-- and the byte is found
pub position_or_len-found : (wanted : ℕ) (text : Text) (i : ℕ) → i < length text → get_or text i 0 ≡ wanted
    → position_or_len (λ b. b == wanted) (drop i text) ≡ 0
position_or_len-found wanted text i below same =
    rw (drop_more text i 0 below, eq-eqb (get_or text i 0) wanted same) refl

-- or the text has no such byte from there on
pub position_or_len-nowhere : (wanted : ℕ) (text : Text) (i : ℕ) → length text ≤ i
    → position_or_len (λ b. b == wanted) (drop i text) ≡ 0
position_or_len-nowhere wanted text i past = ap (position_or_len (λ b. b == wanted)) (drop_all i text past)

-- a line of no byte has no part
pub no_part : (line : Text) → length line < 1 → parts_between_spaces line ≡ []
no_part [] low = refl
no_part (b ∷ bs) low = absurd (omega (arith, low))

-- a space at the front is skipped
pub space_skipped : (line : Text) → 1 ≤ length line → get_or line 0 0 ≡ 32
    → parts_between_spaces line ≡ parts_between_spaces (take (length line - 1) (drop 1 line))
space_skipped [] some is = absurd (omega (arith, some))
space_skipped (b ∷ bs) some is =
    rw (eq-eqb b 32 is, take_rest (b ∷ bs) 1) refl

-- any other byte begins a part
pub part_taken : (line : Text) (end : ℕ) → 1 ≤ length line → (get_or line 0 0 ≡ 32 → ⊥) → end ≡ first_space line
    → parts_between_spaces line ≡ take end line ∷ parts_between_spaces (drop end line)
part_taken [] end some other is = absurd (omega (arith, some))
part_taken (b ∷ bs) end some other is =
    part_at (b ∷ bs) (rw (ne_eqb b 32 other) refl)
    ∙ ap (λ n. take n (b ∷ bs) ∷ parts_between_spaces (drop n (b ∷ bs))) (sym is)
