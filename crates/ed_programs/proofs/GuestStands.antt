-- At the entry of a source that enters the checking routine the routine is at the start of a turn, with the guest at H.
use Rattle.ed_programs.proofs.Kit.{nat_tests, A_F, Size, Item, Line, is_working, canonicals, entry, routine_word}
use Rattle.ed_programs.proofs.Kit.{table_item, counter_after, operand_number, HasGuest, ap, arith, Bool, false, get_or}
use Rattle.ed_programs.proofs.Kit.{length, List, lit<, map, nat_eq, None, refl, subst, sym, true, ℕ, ◌%◌, ◌*◌, ◌++◌}
use Rattle.ed_programs.proofs.Kit.{◌+◌, ◌/◌, ◌<◌, ◌^◌, ◌||◌, ◌∙◌, ◌≡◌, ◌≤◌, locations, Text, locations_most, short_at}
use Rattle.ed_programs.proofs.Kit.{State, image_word, parameter_store, symbols_of, cost, with_h, guest, entry_state}
use Rattle.ed_programs.proofs.Kit.{first_state, IsAcceptedAs, checker_base, EntersChecker, entry_guest, rules}
use Rattle.ed_link.proofs.Kit.{missing_row, data_after, first_place, punched_items, after_text}
use Rattle.std.proofs.Math.ListN.{get_or-map}
use Rattle.std.proofs.lemmas.List.{get_or-replicate}
use Rattle.ed_words.specs.Words.{address_of, long_of_halves}
use Rattle.ed_codes.proofs.Below.{from_below}
use Rattle.ed_store.specs.Cells.{even, long_at, odd, sandwich_at}
use Rattle.ed_machine.specs.Sound.{IsSound}
use Rattle.ed_machine.proofs.SoundSteps.{sound_after}
use Rattle.ed_notation.specs.Spellings.{text_of}
use Rattle.ed_initial.proofs.Starts.{sound_start}
use Rattle.ed_library.specs.Routines.{routine_item}
use Rattle.ed_link.specs.Tapes.{tape}
use Rattle.ed_link.specs.Words.{LinePlaces, words_of_line}
use Rattle.ed_link.proofs.WordLaws.{each_word_stands}
use Rattle.ed_checker.specs.Checker.{HasImage, check}
use Rattle.ed_headline.proofs.Entries.{each_source}
use Rattle.ed_headline.proofs.EntryWords.{each_entry_store_is}
use Rattle.ed_headline.proofs.PunchedTexts.{text_is_tape}
use Rattle.ed_programs.proofs.GuestNames.{entry_is}

-- ---- the machine that is started on the tape of a source

sound_entry : (z : Size) (source : Text) (lines : List Line) → IsAcceptedAs z source lines
    → IsSound (entry_state z lines)
sound_entry z source lines a =
    subst IsSound (each_source z source lines a).state_is
    (sound_after (cost lines) (first_state z (tape lines))
    (sound_start z (text_of (canonicals (punched_items lines)) ++ after_text (data_after lines)) (tape lines)
    (text_is_tape z source lines a)))

-- ---- the words of the routine

-- the word of an item that ends with F or θ is the same for all parameters
same_word : (ps qs : List ℕ) (base : ℕ) (i : Item) → (nat_eq i.end 17 || nat_eq i.end 18) ≡ true
    → routine_word ps base i ≡ routine_word qs base i
same_word ps qs base i h = grind (arith, nat_tests)

abbrev ends_alone : ℕ → Bool
ends_alone i =
    is_working check i || (nat_eq (routine_item check i).end 17 || nat_eq (routine_item check i).end 18)

-- H is in the word of a working location alone
any_h : (h base i : ℕ) → i < 66 → is_working check i ≡ false
    → image_word check i base (with_h h) ≡ image_word check i base (with_h 0)
any_h h base i l steady =
    let test : ends_alone i ≡ true = from_below ends_alone 66 i refl l in
    same_word (with_h h) (with_h 0) base (routine_item check i) (rw steady at test)

abbrev table_words : ℕ → ℕ → List ℕ
table_words h base = map (λ row. routine_word (with_h h) base (table_item row)) (entry check).items

table_word : (h base i : ℕ) → get_or (table_words h base) i 0 ≡ image_word check i base (with_h h)
unfolding parameter_store
table_word h base i =
    get_or-map (λ row. routine_word (with_h h) base (table_item row)) (entry check).items i missing_row

-- the first word fetches the order at H
fetches : (h base : ℕ) → h < 1024 → image_word check 0 base (with_h h) ≡ A_F + 2 * h
unfolding parameter_store
fetches h base low = omega arith

module _ (z : Size) (source : Text) (lines : List Line) (accepted : IsAcceptedAs z source lines)
    (c : EntersChecker lines) where
  abbrev base : ℕ
  base = checker_base c.before

  abbrev h : ℕ
  h = operand_number (symbols_of lines) None c.first

  abbrev m : State
  m = entry_state z lines

  words_are : words_of_line (symbols_of lines) (counter_after c.before) c.using.statement ≡ table_words h base
  words_are = ap (words_of_line (symbols_of lines) (counter_after c.before)) c.uses

  places : (i : ℕ) → i < 66 → LinePlaces lines c.before c.using (base + i) (get_or (table_words h base) i 0)
  places i l = record {
    index = i;
    below = subst (λ (ws : List ℕ). i < length ws) (sym words_are) l;
    place_is = ap (λ st. first_place st (counter_after c.before) + i) (sym c.uses);
    word_is = ap (λ (ws : List ℕ). get_or ws i 0) (sym words_are);
  }

  word : (i : ℕ) → i < 66 → short_at m.store (base + i) ≡ get_or (table_words h base) i 0
  word i l =
      (each_entry_store_is z source lines accepted).lines_have c.before c.using (base + i) _ c.stands (places i l)

  room : base + 66 ≤ locations z
  room =
      let w = each_word_stands z lines accepted.faultless in
      let there = w.stands c.before c.using (base + 65) _ c.stands (places 65 (lit< tt)) in
      let in_store = (w.within (base + 65) _ there).1 in
      omega (arith, in_store)

  even_base : base % 2 ≡ 0
  even_base = omega arith

  image : HasImage base m
  image i l = record {
    has = λ steady. word i l ∙ table_word h base i ∙ any_h h base i l steady;
  }

  -- the long words of the guest's accumulator are 0
  no_digit : (a : ℕ) → a < 1024 → sandwich_at m.store a ≡ false
  no_digit a low = get_or-replicate 512 (a / 2) false false (omega arith)

  no_long : (k : ℕ) → k % 2 ≡ 0 → k + 1 < 66 → get_or (table_words h base) k 0 ≡ 0
      → get_or (table_words h base) (k + 1) 0 ≡ 0 → long_at m.store (base + k) ≡ 0
  no_long k by_two l low high =
      let size = locations_most z in
      let fits = room in
      let pair = even_base in
      let upper : odd (base + k) ≡ base + (k + 1) = omega (arith, pair, by_two) in
      let lower : even (base + k) ≡ base + k = omega (arith, pair, by_two) in
      let digit = no_digit (base + k) (omega (arith, size, fits, l)) in
      let first : short_at m.store (odd (base + k)) ≡ 0 =
      ap (short_at m.store) upper ∙ word (k + 1) l ∙ high in
      let second : short_at m.store (even (base + k)) ≡ 0 =
      ap (short_at m.store) lower ∙ word k (omega (arith, l)) ∙ low in
      λ i. long_of_halves (first i) (digit i) (second i)

  no_accumulator : (long_at m.store (base + 60) ≡ 0) × (long_at m.store (base + 62) ≡ 0)
      × (long_at m.store (base + 64) ≡ 0)
  no_accumulator = search (rules, no_long, lit<)

  module _ (in_range : h < 1024) where
    first_word : short_at m.store base ≡ A_F + 2 * h
    first_word =
        let here : base ≡ base + 0 = omega arith in
        ap (short_at m.store) here ∙ word 0 (lit< tt) ∙ table_word h base 0 ∙ fetches h base in_range

    address : address_of (short_at m.store base) ≡ h
    address = ap address_of first_word ∙ omega arith

    pub has_guest : HasGuest base m
    has_guest = record {
      even = even_base;
      room = room;
      sound = sound_entry z source lines accepted;
      stands = record {
        counter = entry_is z lines accepted.faultless c;
        acc = refl;
        image = image;
        fetch = first_word ∙ ap (λ n. A_F + 2 * n) (sym address);
        middle = subst (λ x. x < 2 ^ 34) (sym no_accumulator.1) (lit< tt);
        low = subst (λ x. x % 2 ^ 32 ≡ 0) (sym no_accumulator.2) refl;
        low_few = subst (λ x. x < 2 ^ 34) (sym no_accumulator.2) (lit< tt);
      };
    }

    acc_is : long_at m.store (base + 60) * 2 ^ 36 + 4 * long_at m.store (base + 62) + long_at m.store
        (base + 64) / 2 ^ 32 ≡ 0
    acc_is = λ i. no_accumulator.0 i * 2 ^ 36 + 4 * no_accumulator.1 i + no_accumulator.2 i / 2 ^ 32

    pub guest_is : guest base m ≡ entry_guest z lines c.first
    guest_is = λ i. record m { counter = address i; acc = acc_is i; last = None; orders = 0 }
