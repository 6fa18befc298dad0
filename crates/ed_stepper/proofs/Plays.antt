-- Lines of a script, one after the other.
use Rattle.ed_stepper.proofs.Kit.{is_none, append-nil, unwrap_or, [], ap, append_assoc, arith, Bool, Err, false, inl}
use Rattle.ed_stepper.proofs.Kit.{inr, length, length-append, List, nat_eq, None, refl, Some, subst, sym, true, ℕ, ◌++◌}
use Rattle.ed_stepper.proofs.Kit.{◌+◌, ◌∙◌, ◌∷◌, ◌≡◌, ◌≤◌, ◌⊎◌, Text, lines_of, bad_from, bad_line, commands_of}
use Rattle.ed_stepper.proofs.Kit.{line_commands, session_command, IsScript, after_text_of, is_too_far, left_by, LeftBy}
use Rattle.ed_stepper.proofs.Kit.{play, writes, Stand, SessionCommand, Nothing, Option}
use Rattle.std.proofs.Common.{◌||◌}
use Rattle.std.proofs.lemmas.Bool.{eqb-false, or_parts}
use Rattle.ed_words.proofs.Choices.{if_means}
use Rattle.ed_stepper.specs.Private.Lines.{LineEnds, fault_on}
use Rattle.ed_stepper.specs.Scripts.{GoesTooFar, Played, TooFar, ScriptEnds}
use Rattle.ed_stepper.specs.declared.moves.BackFault.{BackFault}
use Rattle.ed_stepper.specs.declared.moves.BackFault.TheVariants as back

-- what lines that ran completely wrote, and the session after them
abbrev whole_play : Text → Stand → Played
whole_play text t = record { text = text; stand = t; refused = None }

-- lines after others that ran completely
play_more : (ran more : List SessionCommand) (k : ℕ) (s t : Stand) (text : Text) → play k ran s ≡ whole_play text t
    → play k (ran ++ more) s ≡ after_text_of text (play (k + length ran) more t)
play_more [] more k s t text is =
    let none : [] ≡ text = ap (λ (p : Played). p.text) is in
    let same : s ≡ t = ap (λ (p : Played). p.stand) is in
    let e : k + 0 ≡ k = omega arith in
    rw e (λ i. after_text_of (none i) (play k more (same i)))
play_more (c ∷ ran) more k s t text is = by_test (is_too_far c s) refl (play_more ran more (k + 1) (left_by c s) t)
  where
    rest : Played
    rest = play (k + 1) ran (left_by c s)

    by_test : (b : Bool) → is_too_far c s ≡ b
        → ((before : Text) → rest ≡ whole_play before t
        → play (k + 1) (ran ++ more) (left_by c s) ≡ after_text_of before
        (play (k + 1 + length ran) more t))
        → play k (c ∷ (ran ++ more)) s ≡ after_text_of text (play (k + length (c ∷ ran)) more t)
    by_test true e before_rest =
        let far : TooFar = record { line = k; done = s.done } in
        let now : play k (c ∷ ran) s ≡ record { text = []; stand = s; refused = Some far } = rw e refl in
        let bad : Some far ≡ None = sym (ap (λ (p : Played). p.refused) now) ∙ ap (λ (p : Played). p.refused) is in
        cc
    by_test false e before_rest =
        let now : after_text_of (writes c s) rest ≡ whole_play text t = sym (rw e refl) ∙ is in
        let text_is : writes c s ++ rest.text ≡ text = ap (λ (p : Played). p.text) now in
        let before : rest ≡ whole_play rest.text t =
        (λ i. record { text = rest.text; stand = (now i).stand; refused = (now i).refused }) in
        let ih = before_rest rest.text before in
        let count : k + 1 + length ran ≡ k + length (c ∷ ran) = omega arith in
        let end : Played = play (k + length (c ∷ ran)) more t in
        rw e (ap (after_text_of (writes c s)) (ih ∙ ap (λ n. after_text_of rest.text (play n more t)) count)
        ∙ (λ i. record end {
          text =
              (sym (append_assoc (writes c s) rest.text end.text) ∙ ap (λ x. x ++ end.text) text_is) i;
        }))

-- the lines of a script so far ran completely, and none of the others is bad
pub record Playing (script : Text) (s : Stand) (line : ℕ) (rest text : Text) (t : Stand) : Type 0 where
  pub ran : List SessionCommand
  pub whole : commands_of script ≡ ran ++ commands_of rest
  pub left : play 1 ran s ≡ record { text = text; stand = t; refused = None }
  pub number : line ≡ 1 + length ran
  pub good : bad_from line (lines_of rest) ≡ None
  pub few : line ≤ 1001

pub playing_first : (script text : Text) (s : Stand) → bad_line script ≡ None → text ≡ []
    → Playing script s 1 script text s
playing_first script text s good none = record {
  ran = [];
  whole = refl;
  left = λ i. record { text = sym none i; stand = s; refused = None };
  number = refl;
  good = good;
  few = omega arith;
}

-- a bad line is not among them
good_first : (line : ℕ) (bytes : Text) (rest : List Text) → bad_from line (bytes ∷ rest) ≡ None
    → (nat_eq line 1001 ≡ false) × (bad_from (line + 1) rest ≡ None)
good_first line bytes rest = if_means
    (λ (o : Option ℕ). o ≡ None → (nat_eq line 1001 ≡ false) × (bad_from (line + 1) rest ≡ None))
    (nat_eq line 1001 || is_none (session_command bytes)) _ _ (λ e h. cc) (λ e h. ((or_parts _ _ e).0, h))

-- the lines so far have run
pub playing_left : {script : Text} {s : Stand} {line : ℕ} {rest text : Text} {t : Stand}
    → Playing script s line rest text t → LeftBy (commands_of script) s t
playing_left {rest = rest} p = record {
  ran = p.ran;
  rest = commands_of rest;
  whole = p.whole;
  none_refused = ap (λ (q : Played). q.refused) p.left;
  stand = ap (λ (q : Played). q.stand) p.left;
}

module _ {script : Text} {s : Stand} {line : ℕ} {rest text : Text} {t : Stand}
    (p : Playing script s line rest text t) where
  -- all of them have
  pub playing_done : rest ≡ [] → play 1 (commands_of script) s ≡ record { text = text; stand = t; refused = None }
  playing_done none =
      ap (λ cs. play 1 cs s) (p.whole ∙ ap (λ r. p.ran ++ commands_of r) none) ∙ play_more p.ran [] 1 s t text p.left
      ∙ (λ i. record { text = append-nil text i; stand = t; refused = None })

  -- there is a next one
  module _ (more : Text) {bytes : Text} (is : lines_of rest ≡ bytes ∷ lines_of more) where
    good : (nat_eq line 1001 ≡ false) × (bad_from (line + 1) (lines_of more) ≡ None)
    good = good_first line bytes (lines_of more) (sym (ap (bad_from line) is) ∙ p.good)

    module _ {c : SessionCommand} (command : session_command bytes ≡ Some c) where
      -- the commands that are left begin with it
      begins_with : commands_of rest ≡ c ∷ commands_of more
      begins_with =
          ap line_commands is
          ∙ ap (λ o. unwrap_or o Nothing ∷ commands_of more) command

      -- it has run
      pub playing_next : {grown written : Text} {u : Stand}
          → (is_too_far c t ≡ false) × (written ≡ writes c t) × (u ≡ left_by c t) → grown ≡ text ++ written
          → Playing script s (line + 1) more grown u
      playing_next does grows =
          let far = does.0 in
          record {
            ran = p.ran ++ c ∷ [];
            whole = p.whole ∙ ap (λ cs. p.ran ++ cs) begins_with
                ∙ sym (append_assoc p.ran (c ∷ []) (commands_of more));
            left = play_more p.ran (c ∷ []) 1 s t text p.left ∙ rw far (λ i. record {
              text = (ap (λ w. text ++ w) (append-nil (writes c t) ∙ sym does.1) ∙ sym grows) i;
              stand = sym does.2 i;
              refused = None;
            });
            number = omega (arith, p.number, length-append p.ran (c ∷ []));
            good = good.1;
            few = let other = eqb-false line 1001 good.0 in omega (arith, p.few);
          }

      -- it goes back too far
      pub playing_far : {done : ℕ} {u : Stand} → (is_too_far c t ≡ true) × (done ≡ t.done) × (u ≡ t)
          → GoesTooFar (commands_of script) s u line done
      playing_far does =
          let far = does.0 in
          let whole : play 1 (commands_of script) s ≡ record {
            text = text ++ [];
            stand = t;
            refused = Some (record { line = 1 + length p.ran; done = t.done });
          } =
          ap (λ cs. play 1 cs s) (p.whole ∙ ap (λ cs. p.ran ++ cs) begins_with)
          ∙ play_more p.ran (c ∷ commands_of more) 1 s t text p.left ∙ rw far refl in
          record {
            refused = ap (λ (q : Played). q.refused) whole
                ∙ (λ i. Some (record { line = sym p.number i; done = sym does.1 i }));
            stand = ap (λ (q : Played). q.stand) whole ∙ sym does.2;
          }

      -- memory ran out before or after it ran
      pub playing_memory : {u : Stand} → (u ≡ t) ⊎ ((is_too_far c t ≡ false) × (u ≡ left_by c t))
          → LeftBy (commands_of script) s u
      playing_memory (inl same) = subst (λ x. LeftBy (commands_of script) s x) (sym same) (playing_left p)
      playing_memory (inr does) =
          playing_left (playing_next {grown = text ++ writes c t} {written = writes c t} (does.0, refl, does.1) refl)

      -- it has a fault
      pub playing_fault : IsScript script (commands_of script) → (e : BackFault) (u : Stand) → LineEnds c t (Err e) u
          → ScriptEnds script s (Err (fault_on line e)) u
      playing_fault good_is (back.TooFar done) u does = (commands_of script, good_is, playing_far does)
      playing_fault good_is back.Memory u does = (commands_of script, good_is, playing_memory does)
