-- Replies with an outcome that is stated: from one of an input and back, and that no memory was found, passed on by
-- `?`.
use Rattle.ed_top.proofs.Kit.{Answer, ForInput, Vec, Global, Settings, of_input, of_made, Rejection, Refused, Reply, []}
use Rattle.ed_top.proofs.Kit.{Err, IfOk, IsErr, IsErrAnd, Ok, refl, Result, subst, ℕ, ◌≡◌, Text, Outcome, refusal}
use Rattle.ed_top.proofs.Kit.{Replies, OfSource, run_outcome}
use Rattle.ed_words.specs.declared.memory.NoMemory.{NoMemory}
use Rattle.ed_tapes.specs.Replies.{Refuses}
use Rattle.ed_headline.specs.Sources.{of_source}
use Rattle.ed_tapes.specs.declared.reply.Rejection.TheVariants.{Memory}
use Rattle.ed_top.specs.Calls.{of_made_source}
use Rattle.std.proofs.Common.{rules}

-- if no memory is found for a reply, there is an outcome all the same
pub none_replied : (answers : Outcome → Type 0) (r : Result Reply Rejection)
    → IsErr r × IsErrAnd r (λ handed. handed ≡ Memory) → (o : Outcome) × answers o → Replies (of_made answers) [] r
none_replied answers (Ok reply) is some = absurd (cc)
none_replied answers (Err Memory) is some = (some.0, some.1, tt)
none_replied answers (Err (Refused reply)) is some = absurd (cc)

-- a rejection with a line, or the one for memory if none was found for the line
pub line_replied : (answers : Outcome → Type 0) (line : Result (Vec ℕ Global) NoMemory) (text : Text) (e : Rejection)
    → IfOk line (λ v. v.items ≡ text) → IfOk line (λ v. Refuses v.items e) → (IsErr line → e ≡ Memory)
    → answers (refusal text) → Replies (of_made answers) [] (Err e)
line_replied answers (Ok v) text (Refused reply) is refuses none some = search rules
line_replied answers (Ok v) text Memory is refuses none some = (refusal text, some, tt)
line_replied answers (Err e) text (Refused reply) is refuses none some = let bad = none refl in absurd (cc)
line_replied answers (Err e) text Memory is refuses none some = (refusal text, some, tt)

-- a rejection passed on by `?`
pub handed_on : (answers : Outcome → Type 0) (r : Result Reply Rejection) (e : Rejection)
    → Replies (of_made answers) [] (Err e) → IsErr r × IsErrAnd r (λ handed. handed ≡ e)
    → Replies (of_made answers) [] r
handed_on answers (Ok reply) e replies is = absurd (cc)
handed_on answers (Err handed) e replies is = search rules

-- what a reply says of one answer, it says of another that allows what the first allows
pub replies_more : (a b : Answer) (i j : Text) (r : Result Reply Rejection)
    → ((P : Outcome → Type 0) → ForInput a i P → ForInput b j P) → Replies a i r → Replies b j r
replies_more a b i j (Ok reply) more replies = more _ replies
replies_more a b i j (Err (Refused reply)) more replies = more _ replies
replies_more a b i j (Err Memory) more replies = more _ replies

-- an outcome of an input is one that is stated of it
pub as_made : (answers : Text → Outcome → Type 0) (input : Text) (r : Result Reply Rejection)
    → Replies (of_input answers) input r → Replies (of_made (answers input)) [] r
as_made answers input r = replies_more (of_input answers) (of_made (answers input)) input [] r (λ P p. p)

-- a reply to a source that was made is its answer
pub made_replied : (s : Settings) (text input : Text) (r : Result Reply Rejection) → input ≡ text
    → Replies (of_source s.size (run_outcome s)) input r → Replies (of_made_source s text) [] r
made_replied s text input r is =
    replies_more (of_source s.size (run_outcome s)) (of_made_source s text) input [] r
    (λ P p. (p.0, subst (λ (t : Text). OfSource s.size (run_outcome s) t p.0) is p.1, p.2))
