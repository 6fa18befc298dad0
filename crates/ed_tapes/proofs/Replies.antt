-- From what a command gives to the outcome of a tape's text.
use Rattle.ed_tapes.proofs.Kit.{IsErr, IsErrAnd, no_row, open_comment, Reading, Err, Ok, Result, Text, List, refl}
use Rattle.ed_tapes.proofs.Kit.{subst, sym, ℕ, ◌∙◌, ◌≡◌, reading, rows, exactly, of_rows, OfReading, Outcome, refusal}
use Rattle.ed_tapes.proofs.Kit.{Gives, Replies, Rejection, Reply, [], append-nil, Ending, ending_line, Option, paper}
use Rattle.ed_tapes.proofs.Kit.{post_mortem_codes, ran_outcome, rules, RunEnd, State, status_of, Window}
use Rattle.ed_tapes.proofs.Kit.{with_post_mortem, ◌++◌}
use Rattle.ed_codes.specs.declared.tape.TextFault.TheVariants.{NoRow, OpenComment}
use Rattle.ed_report.specs.Notes.{text_fault_line}
use Rattle.ed_tapes.specs.Answer.{Answer}
use Rattle.ed_tapes.specs.Replies.{RefusesText}
use Rattle.ed_tapes.specs.declared.reply.Rejection.TheVariants.{Memory, Refused}

-- every list of rows has an outcome, and only one
pub record HasOne (answers : List ℕ → Outcome → Type 0) : Type 0 where
  pub some : (codes : List ℕ) → (o : Outcome) × answers codes o
  pub once : (codes : List ℕ) (o other : Outcome) → answers codes o → answers codes other → o ≡ other

pub exactly_one : (f : List ℕ → Outcome) → HasOne (exactly f)
exactly_one f = record { some = λ codes. (f codes, refl); once = λ codes o other p q. sym p ∙ q }

-- so every text has one
pub text_outcome : (answers : List ℕ → Outcome → Type 0) → HasOne answers → (q : Reading)
    → (o : Outcome) × OfReading answers q o × Unit {0}
text_outcome answers one (rows codes) = let h = one.some codes in (h.0, h.1, tt)
text_outcome answers one (no_row place byte) = (refusal (text_fault_line (NoRow place byte)), refl, tt)
text_outcome answers one (open_comment place) = (refusal (text_fault_line (OpenComment place)), refl, tt)

-- the reply to a text's rows is the reply to the text
at_reading : (answers : List ℕ → Outcome → Type 0) (q : Reading) (codes : List ℕ) (o : Outcome) → q ≡ rows codes
    → answers codes o
    → OfReading answers q o
at_reading answers q codes o is a = subst (λ (r : Reading). OfReading answers r o) (sym is) a

-- if the rows have one outcome
pub rows_replied : (answers : List ℕ → Outcome → Type 0) (input : Text) {codes seen : List ℕ} (reply : Reply)
    → reading input ≡ rows codes → seen ≡ codes
    → (o : Outcome) × answers seen o × Gives reply o → Replies (of_rows answers) input (Ok reply)
rows_replied answers input {codes} reply is same gives = (
  gives.0,
  at_reading answers (reading input) codes gives.0 is (subst (λ (x : List ℕ). answers x gives.0) same gives.1),
  gives.2,
)

-- if a function gives it
pub exactly_replied : (f : List ℕ → Outcome) (input : Text) (codes : List ℕ) (reply : Reply)
    → reading input ≡ rows codes → Gives reply (f codes) → Replies (of_rows (exactly f)) input (Ok reply)
exactly_replied f input codes reply is gives =
    (f codes, at_reading (exactly f) (reading input) codes (f codes) is refl, gives)

-- the refusal of a text is the reply to it
pub refused_at : (answers : List ℕ → Outcome → Type 0) (q : Reading) (reply : Reply) → RefusesText q (Refused reply)
    → (o : Outcome) × OfReading answers q o × Gives reply o
refused_at answers (rows codes) reply r = absurd r
refused_at answers (no_row place byte) reply r = (refusal (text_fault_line (NoRow place byte)), refl, r)
refused_at answers (open_comment place) reply r = (refusal (text_fault_line (OpenComment place)), refl, r)

pub Replies-rejected : (answers : List ℕ → Outcome → Type 0) (input : Text) (e : Rejection) → HasOne answers
    → RefusesText (reading input) e → Replies (of_rows answers) input (Err e)
Replies-rejected answers input (Refused reply) one refuses = refused_at answers (reading input) reply refuses
Replies-rejected answers input Memory one refuses = text_outcome answers one (reading input)

-- what holds of a rejection holds of it if it is passed on by `?`
pub passed_on : (answer : Answer) (input : Text) (r : Result Reply Rejection) (e : Rejection)
    → Replies answer input (Err e) → IsErr r × IsErrAnd r (λ handed. handed ≡ e) → Replies answer input r
passed_on answer input (Ok reply) e replied is = absurd is.1
passed_on answer input (Err handed) e replied is =
    subst (λ (x : Rejection). Replies answer input (Err x)) (sym is.1) replied

-- a rejection passed on by `?` is the reply to a text
pub refusal_replied : (answers : List ℕ → Outcome → Type 0) (input : Text) (r : Result Reply Rejection) (e : Rejection)
    → HasOne answers → RefusesText (reading input) e → IsErr r × IsErrAnd r (λ handed. handed ≡ e)
    → Replies (of_rows answers) input r
refusal_replied answers input r e one refuses =
    passed_on (of_rows answers) input r e (Replies-rejected answers input e one refuses)

-- if no memory is found, there is an outcome all the same
pub none_replied : (answers : List ℕ → Outcome → Type 0) (input : Text) (r : Result Reply Rejection) → HasOne answers
    → IsErr r × IsErrAnd r (λ handed. handed ≡ Memory) → Replies (of_rows answers) input r
none_replied answers input r one =
    passed_on (of_rows answers) input r Memory (text_outcome answers one (reading input))

-- ---- the reply of a run

pub ran_gives : (window : Option Window) (before : Text) {note : Text} (r : RunEnd) {ending : Ending} {state : State}
    {codes : List ℕ} {reply : Reply}
    → ending ≡ r.ending → state ≡ r.state → codes ≡ r.codes → note ≡ before ++ ending_line ending state
    → Gives reply (record {
      out = paper (codes ++ post_mortem_codes window state);
      note = note;
      status = status_of ending;
    })
    → Gives reply (ran_outcome before (with_post_mortem window r))
ran_gives window before {note} r {ending} {state} {codes} {reply} e s c n gives = search rules

-- without a post-mortem
pub ran_gives_alone : (r : RunEnd) {ending : Ending} {state : State} {codes : List ℕ} {reply : Reply}
    → ending ≡ r.ending → state ≡ r.state → codes ≡ r.codes
    → Gives reply (record {
      out = paper (codes ++ []);
      note = ending_line ending state;
      status = status_of ending;
    })
    → Gives reply (ran_outcome [] r)
ran_gives_alone r {reply = reply} e s c gives = search (rules, append-nil, ran_gives)
