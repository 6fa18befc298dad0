-- From the reply of a command and what was written of it on `out` to the outcome of the command.
use Rattle.ed_io.specs.declared.stop.WriteStop.{WriteStop}
use Rattle.ed_tapes.specs.declared.reply.Rejection.{Rejection}
use Rattle.ed_tapes.specs.declared.reply.Reply.{Reply}
use Rattle.ed_devices.specs.declared.devices.Rest.{Rest}
use Rattle.ed_top.proofs.Kit.{Answer, known, of_made, [], Result, subst, sym, ◌≡◌, Text, Outcome, Replies}
use Rattle.ed_top.proofs.Kit.{Device, Carried}
use Rattle.ed_devices.specs.Stages.{WritesReply}
use Rattle.ed_devices.proofs.Writing.{reply_carried}
use Rattle.ed_top.proofs.Made.{replies_more}
use Rattle.std.proofs.Common.{rules}

-- of a command with this answer
pub Carried-written : {answer due : Answer} (input : Text) (reply : Result Reply Rejection) (out : Device)
    (r : Result Rest WriteStop) → answer ≡ due → Replies due input reply → WritesReply reply out r
    → Carried answer input out r
Carried-written {due} input reply out r is replies w =
    subst (λ (a : Answer). Carried a input out r) (sym is) (reply_carried due input reply out r replies w)

-- of a command that reads no input
pub known_carried : {answer : Answer} {due : Outcome} (input : Text) (reply : Result Reply Rejection) (out : Device)
    (r : Result Rest WriteStop) → answer ≡ known due → Replies (known due) [] reply → WritesReply reply out r
    → Carried answer input out r
known_carried {due} input reply out r is replies w =
    Carried-written input reply out r is (replies_more (known due) (known due) [] input reply (λ P p. p) replies) w

-- and with an outcome that is stated
pub made_carried : {answer : Answer} {answers : Outcome → Type 0} (input : Text) (reply : Result Reply Rejection)
    (out : Device) (r : Result Rest WriteStop) → answer ≡ of_made answers → Replies (of_made answers) [] reply
    → WritesReply reply out r → Carried answer input out r
made_carried {answers} input reply out r is replies w = search (rules, Carried-written, replies_more)
