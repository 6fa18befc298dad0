-- The fault of the first line that has one.
use Rattle.ed_symbols.proofs.Kit.{SourceCause, SourceFault, At, Line, ap, Bool, drop, get_or, None, Option}
use Rattle.ed_symbols.proofs.Kit.{length, List, refl, Some, sym, ℕ, ◌++◌, ◌+◌, ◌<◌, ◌∙◌, ◌∷◌, ◌≡◌, ◌≤◌}
use Rattle.ed_symbols.proofs.Kit.{at_drop_all, drop_more, after_statement, line_definitions}
use Rattle.ed_symbols.proofs.Kit.{defines_again, naming_cause, naming_fault_from}
use Rattle.ed_symbols.proofs.Kit.{LocationCounter, Definition}
use Rattle.std.proofs.Math.Seq.{drop-cons}

-- a line with a fault, at an index, is the first one among those from that index upwards
pub is_least_at : (symbols earlier : List Definition) (s : LocationCounter) {lines read : List Line} {i : ℕ} {l : Line}
    {again : Bool}
    {cause : SourceCause}
    → read ≡ lines → i < length read → l ≡ get_or read i l
    → again ≡ defines_again earlier l s → naming_cause symbols again l s ≡ Some cause
    → naming_fault_from symbols earlier s (drop i lines) ≡ Some (At l.number cause)
is_least_at symbols earlier s {read = read} {i = i} {l = l} whole inside is same found =
    rw (sym whole, drop-cons read i l inside, sym is) (rw (sym same, found) refl)

-- a line without a fault, at an index, leaves it to the lines after it
pub goes_on : (symbols earlier : List Definition) (s : LocationCounter) {more : List Definition} {s' : LocationCounter}
    {lines read : List Line} {i : ℕ} {l : Line} {again : Bool} {wanted : Option SourceFault}
    → read ≡ lines → i < length read → l ≡ get_or read i l
    → again ≡ defines_again earlier l s → naming_cause symbols again l s ≡ None
    → more ≡ earlier ++ line_definitions l s → s' ≡ after_statement l.statement s
    → naming_fault_from symbols earlier s (drop i lines) ≡ wanted
    → naming_fault_from symbols more s' (drop (i + 1) lines) ≡ wanted
goes_on symbols earlier s {more} {s'} {lines} {read} {i} {l} whole inside is same none added after before =
    let rest = drop (i + 1) lines in
    let here : drop i lines ≡ l ∷ rest =
    rw (sym whole) (drop_more read i l inside ∙ ap (λ (x : Line). x ∷ drop (i + 1) read) (sym is)) in
    let next : naming_fault_from symbols earlier s (l ∷ rest)
    ≡ naming_fault_from symbols (earlier ++ line_definitions l s) (after_statement l.statement s) rest =
    rw (sym same, none) refl in
    rw (added, after)
    (sym next ∙ ap (λ (xs : List Line). naming_fault_from symbols earlier s xs) (sym here) ∙ before)

-- after the last line there is no fault
pub none_left : (symbols earlier : List Definition) (s : LocationCounter) {lines read : List Line} {i : ℕ}
    {wanted : Option SourceFault}
    → read ≡ lines → length read ≤ i → naming_fault_from symbols earlier s (drop i lines) ≡ wanted → None ≡ wanted
none_left symbols earlier s {lines} {read} {i} whole past before =
    sym (at_drop_all (λ (xs : List Line). naming_fault_from symbols earlier s xs) read i past)
    ∙ ap (λ (xs : List Line). naming_fault_from symbols earlier s (drop i xs)) whole ∙ before
