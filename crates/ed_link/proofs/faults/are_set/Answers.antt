use Rattle.ed_link.proofs.Kit.{ap, Bool, drop, List, sym, ℕ, ◌&&◌, ◌+◌, ◌∙◌, list_all, is_some, set_to}
use Rattle.ed_link.proofs.Loops.{at_item, at_end}
use Rattle.ed_link.proofs.faults.are_set.Goals as goal

pub returns-then-is_none : goal.returns-then-is_none
returns-then-is_none c =
    let l = c.loop-letter in
    let all : List ℕ → Bool = λ (xs : List ℕ). list_all (λ c'. is_some (set_to c.args.settings.now c')) xs in
    let letter = c.value.ensures.is ∙ c.letter-item.is in
    let set : ℕ → Bool = λ (x : ℕ). is_some (set_to c.args.settings.now x) in
    at_item all c.args.letters.now l.letter-index c.letter-item.result _ c.loop-letter-test.true l.invariant
    (ap (λ (b : Bool). b && all (drop (l.letter-index + 1) c.args.letters.now))
    (sym c.if-is_none.ensures ∙ ap is_some c.setting.ensures ∙ ap set letter))

pub loop-letter-preserved : goal.loop-letter-preserved
loop-letter-preserved c =
    let l = c.loop-letter in
    let all : List ℕ → Bool = λ (xs : List ℕ). list_all (λ c'. is_some (set_to c.args.settings.now c')) xs in
    let letter = c.value.ensures.is ∙ c.letter-item.is in
    let set : ℕ → Bool = λ (x : ℕ). is_some (set_to c.args.settings.now x) in
    at_item all c.args.letters.now l.letter-index c.letter-item.result _ c.loop-letter-test.true l.invariant
    (ap (λ (b : Bool). b && all (drop (l.letter-index + 1) c.args.letters.now))
    (sym c.if-is_none.ensures ∙ ap is_some c.setting.ensures ∙ ap set letter))

pub returns : goal.returns
returns c =
    at_end (λ (xs : List ℕ). list_all (λ c'. is_some (set_to c.args.settings.now c')) xs) c.args.letters.now
    c.loop-letter.letter-index c.loop-letter-test.false c.loop-letter.invariant
