-- The bytes of a text that `format!` made.
use Rattle.ed_report.proofs.Kit.{string_bytes, Vec, Global, NoMemory, short_at, order_text, State, [], append_assoc}
use Rattle.ed_report.proofs.Kit.{codes, IfOk, List, Ok, Result, sym, ℕ, ◌++◌, ◌∙◌, ◌∷◌, ◌≡◌, decimal}
use Rattle.std.proofs.Common.{Err, Some, IfSome, IsOkAnd, String}
use Rattle.std.specs.declared.alloc.AllocError.{AllocError}
use Rattle.ed_machine.specs.declared.ending.Ending.TheVariants.{NoOrder}
use Rattle.ed_report.specs.Notes.{at_after, ending_line}

-- the bytes are what `format!` wrote
pub IfOk-told : (text : Result (String Global) AllocError) (r : Result (Vec ℕ Global) NoMemory) (wrote wanted : List ℕ)
    → wrote ≡ wanted → IfOk r (λ bytes. IsOkAnd text (λ s. bytes.items ≡ string_bytes s))
    → IfOk text (λ s. IfSome (Some wrote) (λ w. string_bytes s ≡ w)) → IfOk r (λ bytes. bytes.items ≡ wanted)
IfOk-told text (Err e) wrote wanted same taken made = tt
IfOk-told (Ok s) (Ok bytes) wrote wanted same taken made = taken ∙ made ∙ same
IfOk-told (Err e) (Ok bytes) wrote wanted same taken made = absurd taken

-- five pieces of a text, added from the right and from the left
five_pieces : (a b c d e : List ℕ) → a ++ (b ++ (c ++ (d ++ e))) ≡ a ++ b ++ c ++ d ++ e
five_pieces a b c d e =
    sym (append_assoc (a ++ b ++ c) d e ∙ append_assoc (a ++ b) c (d ++ e) ∙ append_assoc a b (c ++ (d ++ e)))

-- six pieces
pub six_pieces : (a b c d e f : List ℕ) → a ++ (b ++ (c ++ (d ++ (e ++ f)))) ≡ a ++ b ++ c ++ d ++ e ++ f
six_pieces a b c d e f = five_pieces a b c d (e ++ f) ∙ sym (append_assoc (a ++ b ++ c ++ d) e f)

no_order_pieces : (counter orders : ℕ) (text : List ℕ)
    → codes "no order at " ++ (decimal counter
    ++ (codes " after " ++ (decimal orders ++ (codes ": " ++ (text ++ 10 ∷ [])))))
    ≡ at_after (codes "no order") counter orders ++ codes ": " ++ text ++ 10 ∷ []
no_order_pieces counter orders text = simp append_assoc

-- what is written of a run that reached no order is its line
pub no_order_wrote : (s : State) (counter orders : ℕ) (text : List ℕ) → counter ≡ s.counter → orders ≡ s.orders
    → text ≡ order_text (short_at s.store s.counter)
    → codes "no order at " ++ (decimal counter
    ++ (codes " after " ++ (decimal orders ++ (codes ": " ++ (text ++ 10 ∷ [])))))
    ≡ ending_line NoOrder s
no_order_wrote s counter orders text c o t =
    rw (c, o, t) (no_order_pieces s.counter s.orders (order_text (short_at s.store s.counter)))

-- the line of an ending by another name that is the same, and by another counter and count
pub IfOk-named : (r : Result (Vec ℕ Global) NoMemory) (s : State) (more : List ℕ)
    {name same : List ℕ} {counter orders : ℕ}
    → IfOk r (λ bytes. bytes.items ≡ name ++ codes " " ++ decimal counter ++ codes " after " ++ decimal orders ++ more)
    → name ≡ same → counter ≡ s.counter → orders ≡ s.orders
    → IfOk r (λ bytes. bytes.items
    ≡ same ++ codes " " ++ decimal s.counter ++ codes " after " ++ decimal s.orders ++ more)
IfOk-named r s more line name counter orders = rw (← name, ← counter, ← orders) line
