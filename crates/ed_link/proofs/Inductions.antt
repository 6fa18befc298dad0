-- The tape of an accepted source reaches its linked program.
use Rattle.ed_link.proofs.Kit.{max, min, reverse, E_F, Size, AreSpellable, Item, [], append_assoc, arith}
use Rattle.ed_link.proofs.Kit.{Bool, false, if◌then◌else◌, inl, length, List, None, Option, refl, Some}
use Rattle.ed_link.proofs.Kit.{true, unwrap_or, ℕ, ◌*◌, ◌++◌, ◌+◌, ◌<◌, ◌∷◌, ◌≡◌, ◌≤◌, list_all, and_parts}
use Rattle.ed_link.proofs.Kit.{leb-true, locations, locations_most, NotationState, SourceCause, SourceFault, Setting}
use Rattle.ed_link.proofs.Kit.{Statement, Enter, Fetch, Text, is_line, catalogue, is_ready, find, place_on}
use Rattle.ed_link.proofs.Kit.{LocationCounter, Definition, is_none, not, or_later, after_statement, any_enter}
use Rattle.ed_link.proofs.Kit.{cause_of, extent, extent_at, fault_from, has_no_routine, is_enter, is_misplaced}
use Rattle.ed_link.proofs.Kit.{LinesBefore, overlaps, past_of, reach, sets, sets_otherwise, entered_place, entry_from}
use Rattle.ed_link.proofs.Kit.{placed_from, theta_from, item_with, items_of, punched_from, Extent}
use Rattle.ed_link.specs.FaultTests.{is_rows}
use Rattle.std.proofs.lemmas.Bool.{not-false, or_parts, ltb-false}
use Rattle.ed_notation.proofs.Steps.{Enters, aiming_entry, entering_at}
use Rattle.ed_lines.specs.Programs.{is_statement}
use Rattle.ed_lines.specs.declared.program.Line.{Line as SourceLine}
use Rattle.ed_lines.proofs.Meaning.{statement_fact}
use Rattle.ed_symbols.specs.NameTests.{enters_unknown, naming_fault_from as names_from}
use Rattle.ed_symbols.specs.Places.{routine_places as places_of}
use Rattle.ed_link.proofs.Closed.{some_items, are_known}
use Rattle.ed_link.proofs.Lines.{IsReady, IsUse, IsSound, Line-sound, lt_same}
use Rattle.ed_link.proofs.Passes.{Passes, stays, goes, Passes-join}
use Rattle.ed_link.proofs.Spelled.{aiming_spelled, AreSpellable-joined, line_spelled}
use Rattle.ed_link.proofs.Uses.{reverse-append_both}
use Rattle.ed_link.proofs.Kit.{Order, Number, Long, Rows, ap, is_some, same_Some, sym, ◌&&◌, ◌||◌, ◌∙◌}

-- what the absence of a fault says of a line

none_of : (b : Bool) (cause : SourceCause) (rest : Option SourceCause) → (if b then Some cause else rest) ≡ None
    → (b ≡ false) × (rest ≡ None)
none_of true cause rest h = cc
none_of false cause rest h = (refl, h)

-- neither the line nor a later one has a fault
later_of : (n : ℕ) (cause : Option SourceCause) (rest : Option SourceFault) → or_later n cause rest ≡ None
    → (cause ≡ None) × (rest ≡ None)
later_of n None rest h = (refl, h)
later_of n (Some cause) rest h = cc

-- locations that a line may take: those of the store after the parameters
abbrev pub IsClear : Size → Extent → Type 0
IsClear z e = (overlaps e (extent 0 44) ≡ false) × (overlaps e (extent 44 56) ≡ false)
    × (overlaps e (extent (locations z) e.after) ≡ false)

pub record IsFaultless (z : Size) (symbols : List Definition) (has_enter : Bool) (past : LinesBefore) (l : SourceLine)
    (s : LocationCounter) :
    Type 0 where
  pub clear : IsClear z (reach symbols l.statement s)
  pub routine : has_no_routine l.statement ≡ false
  pub settings : sets_otherwise l.statement ≡ false
  pub misplaced : is_misplaced past.entered has_enter l ≡ false

-- a line without a fault
pub IsFaultless-no_cause : (z : Size) (symbols : List Definition) (has_enter : Bool) (past : LinesBefore)
    (l : SourceLine)
    (s : LocationCounter)
    → cause_of z symbols has_enter past l s ≡ None
    → IsFaultless z symbols has_enter past l s
IsFaultless-no_cause z symbols has_enter past l s h =
    let a9 = none_of _ _ _ h in let a10 = none_of _ _ _ a9.1 in let a11 = none_of _ _ _ a10.1
    in let a12 = none_of _ _ _ a11.1 in
    let a13 = none_of _ _ _ a12.1 in let a14 = none_of _ _ _ a13.1 in let a15 = none_of _ _ _ a14.1
    in let a16 = none_of _ _ _ a15.1 in
    record { clear = (a10.0, a11.0, a12.0); routine = a14.0; settings = a15.0; misplaced = a16.0 }

-- locations without a fault
fits : (z : Size) (a b : ℕ) → a < b → IsClear z (extent a b) → (56 ≤ a) × (b ≤ locations z)
fits z a b some clear =
    let below : min b 44 ≤ max a 0 = ltb-false _ _ clear.0 in
    let beside : min b 56 ≤ max a 44 = ltb-false _ _ clear.1 in
    let above : min b b ≤ max a (locations z) = ltb-false _ _ clear.2 in
    (omega arith, omega arith)

-- a `text` has a row
some_rows : (two : Bool) (label : Option (List ℕ)) (n : ℕ) (codes : _)
    → is_line two (record { number = n; label = label; statement = Some (Text codes) }) ≡ true
    → 0 < length codes.items
some_rows two None n codes h = leb-true 1 (length codes.items) (and_parts _ _ h).0
some_rows two (Some name) n codes h = leb-true 1 (length codes.items) (and_parts _ _ (and_parts _ _ h).1).0

-- a line's statement has a form
pub formed_statement : (two : Bool) (n : ℕ) (label : Option (List ℕ)) (st : Option Statement)
    → is_line two (record { number = n; label = label; statement = st }) ≡ true
    → (x : Statement) → st ≡ Some x → is_statement two x ≡ true
formed_statement two n label None h x e = cc
formed_statement two n None (Some y) h x e = rw (← same_Some y x e) h
formed_statement two n (Some name) (Some y) h x e = rw (← same_Some y x e) (and_parts _ _ (and_parts _ _ h).1).1

module _ (tables : list_all is_ready catalogue ≡ true) (z : Size) where
  -- a `use` without a fault has what its items need
  is_use : (text : List ℕ) (ts : List Setting) (base : ℕ) (found : Option ℕ) → find text ≡ found
      → is_none found ≡ false → not (sets ts found) ≡ false → IsClear z (extent base (base + places_of found))
      → IsUse z ts base found
  is_use text ts base None e n s clear = cc
  is_use text ts base (Some r) e n s clear =
      let some = some_items tables text r e in
      let f = fits z base _ (omega (arith, some)) clear in
      (some, f.0, f.1, are_known ts tables text r e (not-false _ s))

  -- so has every line without a fault that is not an `enter`
  sound_line : {symbols : List Definition} {has_enter : Bool} {past : LinesBefore} {n : ℕ} {label : Option (List ℕ)}
      {s : LocationCounter}
      (two : Bool) (st : Option Statement) → is_line two (record { number = n; label = label; statement = st }) ≡ true
      → IsFaultless z symbols has_enter past (record { number = n; label = label; statement = st }) s
      → is_enter st ≡ false
      → IsSound z s st
  sound_line {s = s} two (Some (Order g o long)) formed f e = fits z s.place (s.place + 1) (omega arith) f.clear
  sound_line {s = s} two (Some (Number w)) formed f e = fits z s.place (s.place + 1) (omega arith) f.clear
  sound_line {n = n} {label = label} {s = s} two (Some (Text codes)) formed f e =
      let some = some_rows two label n codes formed in
      let g = fits z s.place _ (omega (arith, some)) f.clear in
      (some, g.0, g.1)
  sound_line {s = s} two (Some (Long v)) formed f e = fits z s.place _ (omega arith) f.clear
  sound_line {s = s} two (Some (Fetch routine name ts)) formed f e =
      is_use routine ts.items _ _ refl f.routine f.settings f.clear
  sound_line two (Some (Enter name)) formed f e = cc
  sound_line two st formed f e = tt

-- after the `enter` line

record IsBehind (symbols : List Definition) (theta : ℕ) (s : LocationCounter) (lines : List SourceLine) : Type 0 where
  items : punched_from symbols s lines ≡ []
  placed : placed_from symbols s lines ≡ []
  theta_is : theta_from theta s lines ≡ theta

-- a line after the `enter` line that is not `data` has a fault
misplaced : (x : Bool) → ((x || true) && true) ≡ false → ⊥
misplaced true h = cc
misplaced false h = cc

-- an `enter` line without a fault is the first one
pub first_enter : (entry : Option ℕ) (has_enter : Bool) (l : SourceLine)
    → is_misplaced (is_some entry) has_enter l ≡ false → is_enter l.statement ≡ true → entry ≡ None
first_enter None has_enter l m e = refl
first_enter (Some p) has_enter l m e = absurd (late l.label l.statement m e)
  where
    late : (label : Option (List ℕ)) (st : Option Statement)
        → ((is_some label || is_some st) && not (is_rows st)) ≡ false → is_enter st ≡ true → ⊥
    late label (Some (Enter name)) m e = misplaced (is_some label) m
    late label st m e = cc

-- a line after the `enter` line gives nothing
after_line : {symbols : List Definition} {theta : ℕ} {s : LocationCounter} {n : ℕ} {label : Option (List ℕ)}
    {lines : List SourceLine}
    (st : Option Statement) → is_misplaced true true (record { number = n; label = label; statement = st }) ≡ false
    → IsBehind symbols theta (after_statement st s) lines
    → IsBehind symbols theta s (record { number = n; label = label; statement = st } ∷ lines)
after_line {s = s} None m b =
    let q = lt_same s.place in record { items = b.items; placed = b.placed; theta_is = rw q b.theta_is }
after_line {s = s} (Some (Rows codes)) m b =
    let q = lt_same s.place in record { items = b.items; placed = b.placed; theta_is = rw q b.theta_is }
after_line {label = label} (Some st) m b = absurd (misplaced (is_some label) m)

-- nor do all later lines
behind : {symbols : List Definition} {theta : ℕ} {s : LocationCounter} (z : Size) (has_enter : Bool)
    (past : LinesBefore)
    (lines : List SourceLine) → past.entered ≡ true
    → fault_from z symbols has_enter past s lines ≡ None → IsBehind symbols theta s lines
behind z has_enter past [] e h = record { items = refl; placed = refl; theta_is = refl }
behind {symbols} {theta} {s} z has_enter past (l ∷ lines) e h =
    let a = later_of l.number _ _ h in
    let f = IsFaultless-no_cause z symbols has_enter past l s a.0 in
    after_line l.statement (rw e at f.misplaced)
    (behind {s = after_statement l.statement s} z has_enter _ lines (rw e refl) a.1)

-- the induction over the lines

pub record Ends (z : Size) (words : List ℕ) (symbols : List Definition) (theta : ℕ) (s : LocationCounter)
    (notation : NotationState)
    (lines : List SourceLine)
    : Type 0 where
  pub before : List Item
  pub items : punched_from symbols s lines ≡ before ++ (item_with 0 0 false 17 ∷ [])
  pub spelled : AreSpellable before
  pub last : NotationState
  pub passes : Passes z words notation before last
  pub enters : Enters z words last (entry_from symbols lines)
  pub directive : last.directive ≡ E_F + 2 * entry_from symbols lines
  pub theta_is : last.theta ≡ theta_from theta s lines
  pub placed : last.placed ≡ reverse (placed_from symbols s lines) ++ notation.placed

-- a line that is not an `enter` leaves the entry to the later lines
entry_later : (symbols : List Definition) (st : Option Statement) (later : ℕ) → is_enter st ≡ false
    → entered_place symbols st later ≡ later
entry_later symbols (Some (Enter name)) later h = cc
entry_later symbols st later h = refl

-- the location of an `enter` without a fault
placed_entry : (z : Size) (found : Option ℕ) → is_none found ≡ false → IsClear z (extent_at found)
    → (56 ≤ unwrap_or found 0) × (unwrap_or found 0 + 1 ≤ locations z)
placed_entry z None e clear = cc
placed_entry z (Some q) e clear = fits z q (q + 1) (omega arith) clear

-- lines from a location counter onwards that have their forms and no fault; one of them is the first `enter`
pub record AreFaultless (z : Size) (symbols : List Definition) (has_enter two : Bool) (past : LinesBefore)
    (earlier : List Definition)
    (s : LocationCounter) (lines : List SourceLine) : Type 0 where
  pub formed : list_all (is_line two) lines ≡ true
  pub sound : fault_from z symbols has_enter past s lines ≡ None
  pub named : names_from symbols earlier s lines ≡ None
  pub before : past.entered ≡ false
  pub enter : any_enter lines ≡ true

module _ {z : Size} {words : List ℕ} {symbols : List Definition} {has_enter : Bool}
    (tables : list_all is_ready catalogue ≡ true)
    (whole : length words ≡ 1024) (two : Bool) where
  -- a line that is not an `enter` line
  going : {l : SourceLine} {lines : List SourceLine} {past : LinesBefore} {s : LocationCounter}
      {notation : NotationState} {theta : ℕ}
      → IsFaultless z symbols has_enter past l s → is_enter l.statement ≡ false → is_line two l ≡ true
      → IsReady theta s notation
      → ((next : NotationState) (t : ℕ) → IsReady t (after_statement l.statement s) next
      → Ends z words symbols t (after_statement l.statement s) next lines)
      → Ends z words symbols theta s notation (l ∷ lines)
  going {l} {lines} {s = s} {notation} {theta} f e formed ready more =
      let st = l.statement in
      let is = items_of symbols s st in
      let sound = sound_line tables z two st formed f e in
      let are = line_spelled tables z symbols s st
      (λ x e. (two, statement_fact two x (formed_statement two l.number l.label st formed x e))) sound ready.base in
      let a = Line-sound {z = z} {words = words} ready whole symbols st sound are in
      let r = more a.last _ a.ready in
      let q = entry_later symbols st (entry_from symbols lines) e in
      record {
        before = is ++ r.before;
        items = rw (r.items, append_assoc) refl;
        spelled = AreSpellable-joined is r.before are r.spelled;
        last = r.last;
        passes = Passes-join a.passes r.passes;
        enters = rw q r.enters;
        directive = rw q r.directive;
        theta_is = r.theta_is;
        placed = rw (r.placed, a.placed, reverse-append_both) refl;
      }

  -- the `enter` line
  entering : {n : ℕ} {label : Option (List ℕ)} {lines : List SourceLine} {past : LinesBefore} {s : LocationCounter}
      {notation : NotationState}
      {theta : ℕ} (name : List ℕ)
      → IsFaultless z symbols has_enter past (record { number = n; label = label; statement = Some (Enter name) }) s
      → is_none (place_on symbols None name) ≡ false → IsReady theta s notation → IsBehind symbols theta s lines
      → Ends z words symbols theta s notation (record {
        number = n;
        label = label;
        statement =
            Some (Enter name);
      } ∷ lines)
  entering {s = s} {notation} name f known ready b =
      let p = unwrap_or (place_on symbols None name) 0 in
      let g = placed_entry z _ known f.clear in
      let m = locations_most z in
      let last : NotationState = record notation { directive = E_F + 2 * p } in
      record {
        before = item_with 3 p false 14 ∷ [];
        items = ap (λ (is : List Item). item_with 3 p false 14 ∷ item_with 0 0 false 17 ∷ is) b.items;
        spelled = aiming_spelled p (omega (arith, m, g.1));
        last = last;
        passes = goes (aiming_entry z words notation p (omega (arith, g.1))) (inl refl) stays;
        enters = entering_at z words last p refl (omega (arith, g.0)) (omega (arith, g.1));
        directive = refl;
        theta_is = let q = lt_same s.place in rw q (ready.theta_is ∙ sym b.theta_is);
        placed = ap (λ ps. reverse ps ++ notation.placed) (sym b.placed);
      }

  ends_at : {n : ℕ} {label : Option (List ℕ)} {lines : List SourceLine} {past : LinesBefore} {s : LocationCounter}
      {notation : NotationState}
      {theta : ℕ} (st : Option Statement)
      → IsFaultless z symbols has_enter past (record { number = n; label = label; statement = st }) s
      → is_line two (record { number = n; label = label; statement = st }) ≡ true → enters_unknown symbols st ≡ false
      → IsReady theta s notation
      → (is_enter st ≡ false → (next : NotationState) (t : ℕ) → IsReady t (after_statement st s) next
      → Ends z words symbols t (after_statement st s) next lines)
      → (is_enter st ≡ true → IsBehind symbols theta (after_statement st s) lines)
      → Ends z words symbols theta s notation (record { number = n; label = label; statement = st } ∷ lines)
  ends_at (Some (Enter name)) f formed known ready more rest = entering name f known ready (rest refl)
  ends_at st f formed known ready more rest = going f refl formed ready (more refl)

  pub Ends-faultless : {past : LinesBefore} {earlier : List Definition} {s : LocationCounter} {notation : NotationState}
      {theta : ℕ} (lines : List SourceLine)
      → AreFaultless z symbols has_enter two past earlier s lines → IsReady theta s notation
      → Ends z words symbols theta s notation lines
  Ends-faultless [] are ready = let none = are.enter in cc
  Ends-faultless {past} {earlier} {s} {notation} {theta} (l ∷ lines) are ready =
      let e = are.before in
      let a = later_of l.number _ _ are.sound in
      let b = later_of l.number _ _ are.named in
      let c6 = none_of _ _ _ b.0 in
      let c7 = none_of _ _ _ c6.1 in
      let formed = and_parts _ _ are.formed in
      let known = or_parts _ _ c7.0 in
      ends_at l.statement (IsFaultless-no_cause z symbols has_enter past l s a.0) formed.0 known.1 ready
      (λ g next t r. Ends-faultless {past = past_of past l s} lines (record {
        formed = formed.1;
        sound = a.1;
        named = b.1;
        before = rw (e, g) refl;
        enter = rw g at are.enter;
      }) r) (λ g. behind z has_enter _ lines (rw (e, g) refl) a.1)
