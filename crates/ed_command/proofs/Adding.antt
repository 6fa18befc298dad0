-- The command of the program, made of its options in turn and of its words.
use Rattle.ed_command.proofs.Kit.{Rule, App, app_of, rule_of, Arg, Command, ap₂, Bor, drop, fold, get_or, List}
use Rattle.ed_command.proofs.Kit.{map, at_drop_all, at_drop_more, Text, ap, false, length, Some, sym, ℕ, ◌+◌, ◌<◌, ◌∙◌}
use Rattle.ed_command.proofs.Kit.{◌≡◌, ◌≤◌, app, kept_rule, option_rule, with_option, words_rule}
use Rattle.clap.specs.Words.{AddsArg, with_rule}
use Rattle.ed_command.specs.Rules.{options_app}

-- with the options that are left, the command is the one with all of them
abbrev pub IsWithout : List (Bor Text) → Command → Type 0
IsWithout names command = fold with_option (app_of command) (map (λ n. n.now) names) ≡ options_app

-- an option of a name, from an argument of that name
pub option_made : (name : Bor Text) (begun : Arg) {option : Arg} → rule_of begun ≡ kept_rule name.now
    → begun.global ≡ false → option ≡ record begun { long = Some name }
    → (rule_of option ≡ option_rule name.now) × (option.global ≡ false)
option_made name begun is plain long = (
  ap rule_of long ∙ ap (λ (r : Rule). record r { long = Some name.now }) is,
  ap (λ (a : Arg). a.global) long ∙ plain,
)

-- one more option
pub one_added : (names : List (Bor Text)) (i : ℕ) (d : Bor Text) (old new : Command) (a : Arg) → i < length names
    → AddsArg old a new → a.global ≡ false → rule_of a ≡ option_rule (get_or names i d).now
    → IsWithout (drop i names) old → IsWithout (drop (i + 1) names) new
one_added names i d old new a below adds here rule same =
    ap (λ (b : App). fold with_option b (map (λ n. n.now) (drop (i + 1) names)))
    (adds.shape here ∙ ap (with_rule (app_of old)) rule)
    ∙ sym (at_drop_more (λ (xs : List (Bor Text)). fold with_option (app_of old) (map (λ n. n.now) xs)) names i d below)
    ∙ same

-- the words after the options
pub words_added : (names : List (Bor Text)) (i : ℕ) (old new : Command) (a : Arg) → length names ≤ i
    → IsWithout (drop i names) old → a.global ≡ false → rule_of a ≡ words_rule → AddsArg old a new → app_of new ≡ app
words_added names i old new a past same here rule adds =
    let all =
    sym (at_drop_all (λ (xs : List (Bor Text)). fold with_option (app_of old) (map (λ n. n.now) xs)) names i past)
    ∙ same in
    adds.shape here ∙ ap₂ with_rule all rule
