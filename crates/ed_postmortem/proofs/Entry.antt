-- The entry of the post-mortem's tape.
use Rattle.ed_postmortem.proofs.Kit.{codes, T_F, Size, Item, append_assoc, le-leb, canonicals, digits_of, is_spellable}
use Rattle.ed_postmortem.proofs.Kit.{block, block_cost, [], ap, arith, if◌then◌else◌, length, List, lit<, lit≤, nat_lt}
use Rattle.ed_postmortem.proofs.Kit.{None, Option, refl, Some, subst, sym, true, ℕ, ◌*◌, ◌++◌, ◌+◌, ◌<◌, ◌∙◌, ◌∷◌, ◌≡◌}
use Rattle.ed_postmortem.proofs.Kit.{◌≤◌, locations, locations_least, TapeEntry, over, spelled_rows, count_item, orders}
use Rattle.ed_postmortem.proofs.Kit.{rows_of_text, tape_rows}
use Rattle.ed_notation.proofs.Kit.{EndsSound, RowsReachEntry, WellFormed, is_entry, NotationState, rows_of, IsDirective}
use Rattle.ed_notation.proofs.Kit.{canonical}
use Rattle.ed_words.specs.declared.order_words.TheConstants.{E_F}
use Rattle.ed_notation.specs.Openings.{opening}
use Rattle.ed_notation.proofs.Canonical.{is_written}
use Rattle.ed_notation.proofs.Cuts.{spelled-append, canonicals-append}
use Rattle.ed_notation.proofs.Placing.{placing_all, laid}
use Rattle.ed_notation.proofs.Sound.{sound_well}
use Rattle.ed_notation.proofs.Steps.{Reads, plain, reads_none, reads_one, reads_both, Does-aiming, aiming_entry}
use Rattle.ed_notation.proofs.Steps.{setting_theta, Does-placing, entering_at}

-- the items that rows without a π spell; of one that has begun, its function and its number so far
abbrev parsed : Option (ℕ × ℕ) → List ℕ → List Item
parsed begun [] = []
parsed None (f ∷ rows) = parsed (Some (f, 0)) rows
parsed (Some b) (c ∷ rows) =
    if nat_lt c 10 then parsed (Some (b.0, 10 * b.1 + c)) rows else plain b.0 b.1 c ∷ parsed None rows

-- the items of the orders
abbrev pub listing : List Item
listing = parsed None (rows_of_text orders)

-- the items that aim at the orders' locations, and that enter them
abbrev aims : List Item
aims = plain 5 56 14 ∷ plain 27 0 14 ∷ []

abbrev enters : List Item
enters = plain 3 56 14 ∷ []

-- all items but the last
abbrev before : ℕ → ℕ → List Item
before first count = plain 5 45 14 ∷ count_item first ∷ count_item count ∷ (aims ++ (listing ++ enters))

abbrev last : Item
last = plain 0 0 17

behind_are : rows_of_text (codes "T56KGK" ++ (orders ++ codes "E56KPF"))
    ≡ spelled_rows (canonicals (aims ++ (listing ++ (enters ++ (last ∷ [])))))
behind_are = refl

-- the rows are those of the items
pub rows_are : (first count : ℕ)
    → tape_rows first count ≡ spelled_rows (canonicals (before first count)) ++ (rows_of (canonical last) ++ [])
rows_are first count =
    let f : List ℕ = rows_of (canonical (count_item first)) in
    let c : List ℕ = rows_of (canonical (count_item count)) in
    let rest : List ℕ = spelled_rows (canonicals (aims ++ (listing ++ (enters ++ (last ∷ []))))) in
    let split : (f ++ (c ++ [])) ++ rest ≡ f ++ (c ++ rest) = append_assoc f (c ++ []) rest
    ∙ ap (λ x. f ++ x) (append_assoc c [] rest) in
    let bs : List Item = before first count in
    let whole : spelled_rows (canonicals (bs ++ (last ∷ [])))
    ≡ spelled_rows (canonicals bs) ++ (rows_of (canonical last) ++ []) =
    ap spelled_rows (canonicals-append bs (last ∷ [])) ∙ spelled-append (canonicals bs) (canonicals (last ∷ [])) in
    ap (λ x. rows_of_text (codes "T45K") ++ ((f ++ (c ++ [])) ++ x)) behind_are
    ∙ ap (λ x. rows_of_text (codes "T45K") ++ x) split
    ∙ whole

pub parameter_spellable : (n : ℕ) → n ≤ 1024 → is_spellable (count_item n) ≡ true
parameter_spellable n h = rw (le-leb n 32767 (omega arith)) refl

module _ (z : Size) (words : List ℕ) (first count : ℕ) (f_fits : first ≤ 1024) (c_fits : count ≤ 1024) where
  -- the two words that the head places
  abbrev pub parameters : List (ℕ × ℕ)
  parameters = (46, 2 * count) ∷ (45, 2 * first) ∷ []

  abbrev at_head : NotationState
  at_head = record { directive = T_F + 2 * 56; theta = 112; placed = parameters }

  low : (a : ℕ) → a < 512 → a < locations z
  low a h = omega (arith, locations_least z)

  -- T 45 K, the parameters, T 56 K and G K
  head : Reads z words (opening words) (plain 5 45 14 ∷ count_item first ∷ count_item count ∷ aims) at_head
      (148 + 9 * (length (digits_of first) + length (digits_of count)))
  head =
      let theta : ℕ = (opening words).theta in
      let n3 : NotationState = record { directive = T_F + 2 * 47; theta = theta; placed = parameters } in
      let n4 : NotationState = record { directive = T_F + 2 * 56; theta = theta; placed = parameters } in
      let r5 = reads_one z words (plain 27 0 14) refl
      (setting_theta z words n4 56 (lit≤ tt) refl)
      (reads_none z words at_head) in
      let r4 = reads_one z words (plain 5 56 14) refl (Does-aiming z words n3 56 (lit≤ tt)) r5 in
      let r3 = reads_one z words (count_item count) (parameter_spellable count c_fits)
      (Does-placing z words 46 refl refl (lit≤ tt) (low 46 (lit< tt)) (omega arith)) r4 in
      let r2 = reads_one z words (count_item first) (parameter_spellable first f_fits)
      (Does-placing z words 45 refl refl (lit≤ tt) (low 45 (lit< tt)) (omega arith)) r3 in
      let r1 = reads_one z words (plain 5 45 14) refl
      (Does-aiming z words (opening words) 45 (lit≤ tt)) r2 in
      record {
        are_read = r1.are_read;
        are_sound = r1.are_sound;
        folds = r1.folds;
        costs_are = r1.costs_are ∙ omega arith;
      }

  -- the words of the post-mortem, as the tape places them
  abbrev pub words_placed : List ℕ
  words_placed = block (over parameters words) 112 listing

  abbrev pub placed_all : List (ℕ × ℕ)
  placed_all = laid 56 words_placed parameters

  abbrev at_orders : NotationState
  at_orders = record { directive = T_F + 2 * 140; theta = 112; placed = placed_all }

  abbrev pub at_last : NotationState
  at_last = record { directive = E_F + 2 * 56; theta = 112; placed = placed_all }

  places : Reads z words at_head listing at_orders (block_cost listing)
  places = placing_all (over parameters words) 56 listing refl refl (lit≤ tt) (omega (arith, locations_least z))
      (λ j l. refl)

  -- E 56 K
  entry_set : Reads z words at_orders enters at_last 40
  entry_set =
      reads_one z words (plain 3 56 14) refl (aiming_entry z words at_orders 56 (lit≤ tt)) (reads_none z words at_last)

  abbrev pub items_cost : ℕ
  items_cost = 148 + 9 * (length (digits_of first) + length (digits_of count)) + (block_cost listing + 40)

  all_read : Reads z words (opening words) (before first count) at_last items_cost
  all_read =
      reads_both z words head (reads_both z words places entry_set)

  abbrev pub entry : TapeEntry
  entry = record {
    at = 56;
    word = 0;
    cost = 9 + items_cost + 19;
    rows = length (spelled_rows (canonicals (before first count))) + length (rows_of (canonical last));
    notation = at_last;
    last = last;
    rest = [];
  }

  pub comes : RowsReachEntry words (opening words) 9 (tape_rows first count) entry
  comes = record {
    before = canonicals (before first count);
    last = canonical last;
    are_read = all_read.are_read;
    is_written = is_written last refl;
    notation_is = sym all_read.folds;
    is_entry = refl;
    rows_are = rows_are first count;
    last_is = refl;
    at_is = refl;
    word_is = refl;
    cost_is = ap (λ k. 9 + k + 19) (sym all_read.costs_are);
    read_is = refl;
  }

  pub well : WellFormed z words (opening words) (tape_rows first count)
  well =
      let e = entering_at z words at_last 56 refl (lit≤ tt) (low 56 (lit< tt)) in
      let set : IsDirective 20568 = omega arith in
      subst (WellFormed z words (opening words)) (sym (rows_are first count)) (
      sound_well (canonicals (before first count)) [] set all_read.are_read all_read.are_sound
      (is_written last refl) (ap (λ (n : NotationState). is_entry n last) all_read.folds ∙ e.enters)
      (subst (λ (n : NotationState). EndsSound z words n (canonical last)) (sym all_read.folds) e.sound))
