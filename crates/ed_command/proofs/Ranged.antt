-- The numbers of a command that words are lie in their ranges.
use Rattle.ed_command.proofs.Kit.{if◌then◌else◌, List, nat_lt, Option, option_and_then, option_map, subst, ◌&&◌}
use Rattle.ed_command.proofs.Kit.{◌∷◌, after_first, before_first, list_any, number, number_within, Text}
use Rattle.ed_command.proofs.Kit.{Size, [], arith, Bool, false, None, refl, Some, sym, true, ℕ, ◌+◌, ◌<◌, ◌≡◌, ◌≤◌}
use Rattle.ed_command.proofs.Kit.{nat_tests, call_of, command, command_of, division, line_named, lines}
use Rattle.ed_command.proofs.Kit.{TableLine, with_only, all_settings, limit_of, option_value, Options, post_mortem_of}
use Rattle.ed_command.proofs.Kit.{resumes_of, is_comma, window, window_named, Action}
use Rattle.std.proofs.Common.{◌*◌, IfSome, nat_le, rules}
use Rattle.std.specs.List.{AllByRecursion}
use Rattle.ed_words.specs.Decimals.{in_range}
use Rattle.ed_words.specs.Sizes.{locations}
use Rattle.ed_run.specs.SettingRanges.{AreSettingsInRange, IsFromTo, IsWindowOf}
use Rattle.ed_run.specs.declared.settings.Settings.{Settings}
use Rattle.ed_run.specs.declared.settings.Window.{Window}
use Rattle.ed_library.specs.CallRanges.{IsCallInRange}
use Rattle.ed_library.specs.declared.call.Call.{Call}
use Rattle.ed_library.specs.declared.call.Call.TheVariants.{Divide}
use Rattle.ed_command.specs.Lines.{alone, one_number, with_division}
use Rattle.ed_command.specs.Ranges.{IsActionInRange, IsInRange}
use Rattle.ed_command.specs.declared.command.Command.{Command}
use Rattle.ed_command.specs.declared.command.Action.TheVariants as doing

-- ---- what holds of the value in an option

mapped : {A B : Type 0} (P : A → Type 0) (Q : B → Type 0) (f : A → B) (o : Option A) → ((a : A) → P a → Q (f a))
    → IfSome o P
    → IfSome (option_map f o) Q
mapped P Q f (Some a) more h = more a h
mapped P Q f None more h = tt

if_true : {A : Type 0} (P : A → Type 0) (c : Bool) (o : Option A) → (c ≡ true → IfSome o P)
    → IfSome (if c then o else None) P
if_true P true o h = h refl
if_true P false o h = tt

-- ---- numbers

within_by : (least most : ℕ) (n : Option ℕ) → IfSome (option_and_then (in_range least most) n) (IsFromTo least most)
within_by least most (Some n) =
    if_true _ (nat_le least n && nat_le n most) (Some n) (λ e. (grind (arith, nat_tests), grind (arith, nat_tests)))
within_by least most None = tt

read_within : (least most : ℕ) (text : Text) → IfSome (number_within least most text) (IsFromTo least most)
read_within least most text = within_by least most (number text)

one_within : (least most : ℕ) (arguments : List Text) → IfSome (one_number least most arguments) (IsFromTo least most)
one_within least most (text ∷ []) = read_within least most text
one_within least most arguments = tt

-- ---- options

set_to : {A : Type 0} (P : A → Type 0) (default : A) (read : Text → Option A) (values : List Text) → P default
    → ((text : Text) → IfSome (read text) P) → IfSome (option_value default read values) P
set_to P default read [] usual given = usual
set_to P default read (value ∷ []) usual given = given value
set_to P default read values usual given = tt

in_window : (z : Size) (first count : Option ℕ) → IfSome (window z first count) (IsWindowOf z)
in_window z (Some first) (Some count) =
    if_true _ (nat_le 144 first && nat_le (first + count) (locations z)) (Some _)
    (λ e. (grind (arith, nat_tests), grind (arith, nat_tests)))
in_window z first count = tt

-- the window, if there is one
abbrev HasWindow : Size → Option Window → Type 0
HasWindow z w = IfSome w (IsWindowOf z)

window_set : (z : Size) (o : Options) → IfSome (post_mortem_of z o) (HasWindow z)
window_set z o =
    set_to (HasWindow z) None (λ text. option_map Some (window_named z text)) o.post_mortems tt
    (λ text. mapped (IsWindowOf z) (HasWindow z) Some (window_named z text) (λ w h. h)
    (if_true _ (list_any is_comma text) _
    (λ _. in_window z (number (before_first is_comma text)) (number (after_first is_comma text)))))

all_set : (z : Size) (limit resumes : Option ℕ) (window : Option (Option Window)) → IfSome limit (IsFromTo 1 100000000)
    → IfSome resumes (IsFromTo 0 1000) → IfSome window (HasWindow z)
    → IfSome (all_settings z limit resumes window) AreSettingsInRange
all_set z (Some l) (Some r) (Some w) l_in r_in w_in = record { limit = l_in; resumes = r_in.1; window = w_in }
all_set z limit resumes window l_in r_in w_in = tt

settings_by : (o : Options) (z : Option Size)
    → IfSome (option_and_then (λ z. all_settings z (limit_of o) (resumes_of o) (post_mortem_of z o)) z)
    AreSettingsInRange
settings_by o (Some z) =
    all_set z _ _ _ (set_to _ 10000000 _ o.limits (search rules) (read_within 1 100000000))
    (set_to _ 0 _ o.resumes (search rules) (read_within 0 1000)) (window_set z o)
settings_by o None = tt

-- ---- arguments

division_in : (n by : Option ℕ) → IfSome by (IsFromTo 1 32767) → IfSome (division n by) IsCallInRange
division_in (Some n) (Some by) h =
    if_true IsCallInRange (nat_lt n (65536 * by)) (Some (Divide n by))
    (λ e. record { positive = h.0; divisor = h.1; less = grind (arith, nat_tests) })
division_in n by h = tt

divide_in : (numbers : List Text) → IfSome (with_division numbers) IsCallInRange
divide_in (n ∷ by ∷ []) = division_in (number n) (number_within 1 32767 by) (read_within 1 32767 by)
divide_in numbers = tt

no_number_in : {A : Type 0} (P : A → Type 0) (a : A) (arguments : List Text) → P a → IfSome (alone a arguments) P
no_number_in P a [] h = h
no_number_in P a arguments h = tt

-- a call of one number
short_in : (made : ℕ → Call) (numbers : List Text) → ((n : ℕ) → n ≤ 65535 → IsCallInRange (made n))
    → IfSome (option_map made (one_number 0 65535 numbers)) IsCallInRange
short_in made numbers more = mapped _ IsCallInRange made _ (λ n h. more n h.1) (one_within 0 65535 numbers)

-- one of two
either_in : {A : Type 0} (P : A → Type 0) (c : Bool) (first second : Option A) → IfSome first P → IfSome second P
    → IfSome (if c then first else second) P
either_in P true first second f s = f
either_in P false first second f s = s

-- a number of a call is at most 65,535
below : (n : ℕ) → n ≤ 65535 → n < 65536
below n h = omega arith

call_in : (arguments : List Text) → IfSome (call_of arguments) IsCallInRange
call_in [] = tt
call_in (name ∷ numbers) = search (rules, either_in, if_true, short_in, below, no_number_in, divide_in)

-- ---- lines

-- each action that a line makes of arguments has its numbers in range
abbrev IsLineInRange : TableLine → Type 0
IsLineInRange l = (arguments : List Text) → IfSome (l.action arguments) IsActionInRange

asked_in : (arguments : List Text) → IfSome (option_map doing.Call (call_of arguments)) IsActionInRange
asked_in arguments = mapped IsCallInRange IsActionInRange doing.Call (call_of arguments) (λ c h. h) (call_in arguments)

demo_in : (arguments : List Text) → IfSome (option_map doing.Demo (one_number 1 112 arguments)) IsActionInRange
demo_in arguments = mapped _ IsActionInRange doing.Demo _ (λ n h. h) (one_within 1 112 arguments)

all_in : AllByRecursion IsLineInRange lines
all_in = search (rules, no_number_in, asked_in, demo_in)

named_in : (ls : List TableLine) (word : Text) → AllByRecursion IsLineInRange ls
    → IfSome (line_named ls word) IsLineInRange
named_in [] word all = tt
named_in (l ∷ ls) word all = either_in IsLineInRange _ (Some l) _ all.0 (named_in ls word all.1)

command_by : (action : Option Action) (settings : Option Settings) → IfSome action IsActionInRange
    → IfSome settings AreSettingsInRange → IfSome (command action settings) IsInRange
command_by (Some a) (Some s) a_in s_in = record { action = a_in; settings = s_in }
command_by action settings a_in s_in = tt

line_by : (l : Option TableLine) (o : Options) (arguments : List Text) → IfSome l IsLineInRange
    → IfSome (option_and_then (λ l. with_only l.options o (l.action arguments)) l) IsInRange
line_by (Some l) o arguments h = search (rules, if_true, command_by, settings_by, (h arguments))
line_by None o arguments h = tt

command_in_range : (words : List Text) (o : Options) → IfSome (command_of words o) IsInRange
command_in_range [] o = tt
command_in_range (word ∷ arguments) o = line_by (line_named lines word) o arguments (named_in lines word all_in)

-- so has the command that was found
pub found_in_range : (words : List Text) (o : Options) (found : Option Command) → found ≡ command_of words o
    → IfSome found IsInRange
found_in_range words o found is = subst (λ (c : Option Command). IfSome c IsInRange) (sym is) (command_in_range words o)
