-- A source that is linked has no fault, and its tape reaches its linked program.
use Rattle.ed_link.proofs.Kit.{Size, AreSpellable, ap, Bool, List, None, replicate, subst, sym, true, ℕ, ◌∙◌, ◌≡◌}
use Rattle.ed_link.proofs.Kit.{list_all, length-replicate, Line, map, AreNumbered, is_line, catalogue, is_ready}
use Rattle.ed_link.proofs.Kit.{resolution, Definition, first_counter, IsLinked, any_enter, fault, labels, entry_from}
use Rattle.ed_link.proofs.Kit.{linked_words, placed_from, symbols_of, IsBuilt, IsFinished, punched_from}
use Rattle.ed_link.proofs.Kit.{punched_items, table_of, word_at, words_from, linked_places, Built, Linked, Placed}
use Rattle.ed_link.proofs.Accepted.{accepted_law, can_be_spelled}
use Rattle.ed_link.proofs.FaultLaw.{fault_law}
use Rattle.ed_link.proofs.Maps.{places_are, words_are}

-- lines that are built have no fault, if no name has one and there is an `enter`
accepted : {z : Size} {lines : List Line} {symbols : List Definition} {has_enter : Bool} {b : Built}
    → symbols ≡ symbols_of lines → has_enter ≡ any_enter lines → (resolution lines).fault ≡ None → has_enter ≡ true
    → IsBuilt z symbols has_enter lines b → fault z lines ≡ None
accepted {z} {lines} {symbols} {has_enter} h a names there built = cc

-- the items of lines that are built
items_are : {z : Size} {lines : List Line} {symbols : List Definition} {has_enter : Bool} {b : Built}
    → symbols ≡ symbols_of lines → IsBuilt z symbols has_enter lines b → b.items.items ≡ punched_items lines
items_are {lines = lines} h built = built.items ∙ ap (λ (x : List Definition). punched_from x first_counter lines) h

-- they can be spelled
pub built_spelled : {z : Size} {lines : List Line} {symbols : List Definition} {has_enter : Bool} {b : Built}
    (two : Bool) → list_all is_ready catalogue ≡ true → list_all (is_line two) lines ≡ true
    → symbols ≡ symbols_of lines → has_enter ≡ any_enter lines → (resolution lines).fault ≡ None → has_enter ≡ true
    → IsBuilt z symbols has_enter lines b → AreSpellable b.items.items
built_spelled {z} {lines} two tables formed h a names there built =
    subst AreSpellable (sym (items_are h built))
    (can_be_spelled tables z two lines (accepted h a names there built) formed (replicate 1024 0)
    (length-replicate {A = ℕ} 1024 0))

-- what the code has built from lines without a fault is the answer of linking
pub IsLinked-finished : {z : Size} {lines : List Line} {symbols : List Definition} {has_enter : Bool}
    {b : Built} {k : Linked}
    (two : Bool)
    → list_all is_ready catalogue ≡ true → AreNumbered lines → list_all (is_line two) lines ≡ true
    → symbols ≡ symbols_of lines → has_enter ≡ any_enter lines → (resolution lines).fault ≡ None → has_enter ≡ true
    → IsBuilt z symbols has_enter lines b → IsFinished symbols b k → IsLinked z lines k
unfolding linked_places
IsLinked-finished {z} {lines} {symbols} {has_enter} {b} {k} two tables numbered formed h a names there built f =
    let none : fault z lines ≡ None = accepted h a names there built in
    let words : k.words.items ≡ words_from 0 (table_of (linked_words lines)) =
    f.words ∙ ap (λ t. words_from 0 t)
    (built.table ∙ ap (λ (x : List Definition). table_of (placed_from x first_counter lines)) h) in
    record {
      accepted = (fault_law z lines numbered).accepted none;
      items = f.items ∙ items_are h built;
      places = ap (map (λ (p : Placed). p.place)) words ∙ places_are (linked_words lines);
      words = λ a l. ap (λ (x : List Placed). word_at x a) words ∙ words_are (linked_words lines) a l;
      entry = f.entry ∙ built.entry ∙ ap (λ (x : List Definition). entry_from x lines) h;
      after = f.after ∙ built.after;
      labels = f.labels ∙ ap (λ (x : List Definition). labels x) h;
      loads = λ words whole. accepted_law tables z two lines none formed words whole;
    }
