-- From what a command wrote on `out` to the outcome of a tape's text.
use Rattle.ed_devices.proofs.Kit.{WriteStop, Failed, Memory, Answer, known, of_input, of_made, ForInput, Rejection, Reply}
use Rattle.ed_devices.proofs.Kit.{[], Err, List, Ok, Result, ℕ, ◌≡◌, Text, reading, rows, exactly, of_rows}
use Rattle.ed_devices.proofs.Kit.{Outcome, Gives, Replies, Device, Carried, Rest, none_written}
use Rattle.ed_devices.specs.Stages.{WritesReply, WritesText}
use Rattle.ed_tapes.specs.declared.reply.Rejection.TheVariants as rejection
use Rattle.std.proofs.Common.{rules}

for_more : (answer : Answer) (input : Text) (P Q : Outcome → Type 0) → ((o : Outcome) → P o → Q o) → ForInput answer
    input P → ForInput answer input Q
for_more (known o) input P Q more p = more o p
for_more (of_made answers) input P Q more p = (p.0, p.1, more p.0 p.2)
for_more (of_input answers) input P Q more p = (p.0, p.1, more p.0 p.2)

-- a text that was written is carried out
text_carried : (answer : Answer) (input : Text) (reply : Reply) (out : Device) (r : Result Rest WriteStop)
    → ForInput answer input (Gives reply) → WritesText reply out r → Carried answer input out r
text_carried answer input reply out (Ok rest) replies w = search (rules, for_more)
text_carried answer input reply out (Err Failed) replies w = search (rules, for_more)
text_carried answer input reply out (Err Memory) replies w = absurd w

-- and so is a reply, whether it refuses the input or not
pub reply_carried : (answer : Answer) (input : Text) (reply : Result Reply Rejection) (out : Device)
    (r : Result Rest WriteStop)
    → Replies answer input reply → WritesReply reply out r → Carried answer input out r
reply_carried answer input (Ok reply) out r replies w = text_carried answer input reply out r replies w
reply_carried answer input (Err (rejection.Refused reply)) out r replies w = search (rules, text_carried)
reply_carried answer input (Err rejection.Memory) out (Ok rest) replies w = absurd w
reply_carried answer input (Err rejection.Memory) out (Err Failed) replies w = absurd w
reply_carried answer input (Err rejection.Memory) out (Err Memory) replies w = search (rules, for_more, none_written)

-- what was written for one answer is for another that allows what the first allows
carried_more : (a b : Answer) (i j : Text) (out : Device) (r : Result Rest WriteStop)
    → ((P : Outcome → Type 0) → ForInput a i P → ForInput b j P) → Carried a i out r → Carried b j out r
carried_more a b i j out (Ok rest) more c = (c.0, more _ c.1, c.2)
carried_more a b i j out (Err Failed) more c = (c.0, more _ c.1)
carried_more a b i j out (Err Memory) more c = (c.0, more _ c.1)

-- what was written of the rows as it came is that of the text
pub rows_carried : (f : List ℕ → Outcome) (input : Text) (codes : List ℕ) (out : Device) (r : Result Rest WriteStop)
    → reading input ≡ rows codes
    → Carried (known (f codes)) [] out r → Carried (of_rows (exactly f)) input out r
rows_carried f input codes out r is = search (rules, carried_more)

-- the same if a relation says which outcome rows have
pub rows_carried_by : (answers : List ℕ → Outcome → Type 0) (input : Text) (codes : List ℕ) (out : Device)
    (r : Result Rest WriteStop)
    → reading input ≡ rows codes → Carried (of_input (λ _. answers codes)) [] out r
    → Carried (of_rows answers) input out r
rows_carried_by answers input codes out r is = search (rules, carried_more)
