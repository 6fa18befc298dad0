-- The arguments of a command, its size of the store, and the lines of the table as the program holds them.
use Rattle.ed_command.proofs.Kit.{Bor, codes, drop, get_or, if◌then◌else◌, List, map, Option, option_and_then}
use Rattle.ed_command.proofs.Kit.{option_map, slice_index_or, ◌∷◌, bytes_eq, at_drop_all, at_drop_more}
use Rattle.ed_command.proofs.Kit.{bytes_eq-Decides, number, number_within, Text, [], arith, Bool, false, length, None}
use Rattle.ed_command.proofs.Kit.{refl, Some, sym, true, ℕ, ◌+◌, ◌<◌, ◌∙◌, ◌≡◌, ◌≤◌, NewLine, line_in, call_of}
use Rattle.ed_command.proofs.Kit.{command, command_of, division, line_named, lines, TableLine, with_only, option_value}
use Rattle.ed_command.proofs.Kit.{Options, settings_of, Action}
use Rattle.std.proofs.Common.{◌≢◌, ◌-◌, take}
use Rattle.std.proofs.lemmas.Bool.{false_from_ne_true}
use Rattle.std.proofs.lemmas.List.{take_all}
use Rattle.ed_words.specs.declared.size.Size.TheVariants.{Full}
use Rattle.ed_command.proofs.Lookups.{either_way}
use Rattle.ed_command.specs.Held.{action_by, call_with}
use Rattle.ed_command.specs.Settings.{has_only}
use Rattle.ed_command.specs.Windows.{size_named}
use Rattle.ed_command.specs.declared.command.Action.TheVariants.{Demo}
use Rattle.ed_command.specs.declared.lines.LineAction.{LineAction}
use Rattle.ed_command.specs.declared.lines.LineAction.TheVariants.{Alone, Demo as Demonstrates}
use Rattle.ed_command.specs.declared.lines.TableLine as held

-- ---- calls

differs : (x y : Text) → x ≢ y → bytes_eq x y ≡ false
differs x y h = false_from_ne_true _ (λ e. h ((bytes_eq-Decides x y).0 e))

-- a name alone is a call only if it is `newline`
pub name_alone : (arguments : List (Bor Text)) (x : Bor Text) → 1 ≤ length arguments → length arguments < 2
    → (slice_index_or arguments 0 x).now ≢ codes "newline" → call_of (map (λ a. a.now) arguments) ≡ None
name_alone (name ∷ []) x least most h = simp (differs name.now _ h, either_way)
name_alone arguments x least most h = absurd (omega arith)

-- a name and two numbers are a call only if it is `divide`
pub two_numbers : (arguments : List (Bor Text)) (x : Bor Text) → 3 ≤ length arguments → length arguments < 4
    → (slice_index_or arguments 0 x).now ≢ codes "divide" → call_of (map (λ a. a.now) arguments) ≡ None
two_numbers (name ∷ n ∷ by ∷ []) x least most h = simp (differs name.now _ h, either_way)
two_numbers arguments x least most h = absurd (omega arith)

-- no arguments, and too many
pub no_name : (arguments : List (Bor Text)) → length arguments < 1 → call_of (map (λ a. a.now) arguments) ≡ None
no_name [] most = refl
no_name arguments most = absurd (omega arith)

-- `newline`
pub newline_alone : (arguments : List (Bor Text)) (x : Bor Text) → 1 ≤ length arguments → length arguments < 2
    → (slice_index_or arguments 0 x).now ≡ codes "newline"
    → call_of (map (λ a. a.now) arguments) ≡ Some NewLine
newline_alone (name ∷ []) x least most is = rw is refl
newline_alone arguments x least most is = absurd (omega arith)

-- `divide`
pub call_of-divided : (arguments : List (Bor Text)) (x : Bor Text) → 3 ≤ length arguments → length arguments < 4
    → (slice_index_or arguments 0 x).now ≡ codes "divide"
    → call_of (map (λ a. a.now) arguments)
    ≡ division (number (slice_index_or arguments 1 x).now) (number_within 1 32767 (slice_index_or arguments 2 x).now)
call_of-divided (name ∷ n ∷ by ∷ []) x least most is = rw is refl
call_of-divided arguments x least most is = absurd (omega arith)

-- a name whose calls take one number, or another name
one_number_by : (name n : Text) (o : Option ℕ) {c d : Bool} → bytes_eq name (codes "newline") ≡ c
    → bytes_eq name (codes "divide") ≡ d → number_within 0 65535 n ≡ o
    → call_of (name ∷ n ∷ []) ≡ option_and_then (call_with name) o
one_number_by name n None e f is = simp (is, either_way)
one_number_by name n (Some k) {c = true} e f is = rw ((bytes_eq-Decides name _).0 e) refl
one_number_by name n (Some k) {c = false} {d = true} e f is = rw ((bytes_eq-Decides name _).0 f) refl
one_number_by name n (Some k) {c = false} {d = false} e f is = rw (is, e, f) refl

-- a name and one number
pub one_number_after : (arguments : List (Bor Text)) (x : Bor Text) (o : Option ℕ) → 2 ≤ length arguments
    → length arguments < 3 → o ≡ number_within 0 65535 (slice_index_or arguments 1 x).now
    → call_of (map (λ a. a.now) arguments) ≡ option_and_then (call_with (slice_index_or arguments 0 x).now) o
one_number_after (name ∷ n ∷ []) x o least most is = one_number_by name.now n.now o refl refl (sym is)
one_number_after arguments x o least most is = absurd (omega arith)

-- too many numbers
pub many_numbers : (arguments : List (Bor Text)) → 4 ≤ length arguments → call_of (map (λ a. a.now) arguments) ≡ None
many_numbers (name ∷ n ∷ by ∷ more ∷ others) least = simp either_way
many_numbers arguments least = absurd (omega arith)

-- ---- actions

-- an action that takes no argument
pub alone_by : (action : LineAction) (known : Action) (arguments : List (Bor Text)) → action ≡ Alone known
    → length arguments < 1 → action_by action (map (λ a. a.now) arguments) ≡ Some known
alone_by action known [] is most = rw is refl
alone_by action known (argument ∷ others) is most = absurd (omega (arith, most))

pub not_alone : (action : LineAction) (known : Action) (arguments : List (Bor Text)) → action ≡ Alone known
    → 1 ≤ length arguments → action_by action (map (λ a. a.now) arguments) ≡ None
not_alone action known [] is least = absurd (omega (arith, least))
not_alone action known (argument ∷ others) is least = rw is refl

-- the number of `demo`
pub demo_by : (action : LineAction) (arguments : List (Bor Text)) (x : Bor Text) (o : Option ℕ) → action ≡ Demonstrates
    → 1 ≤ length arguments → length arguments < 2 → o ≡ number_within 1 112 (slice_index_or arguments 0 x).now
    → option_map Demo o ≡ action_by action (map (λ a. a.now) arguments)
demo_by action (text ∷ []) x o is least most number = rw (is, number) refl
demo_by action arguments x o is least most number = absurd (omega arith)

pub demo_of_none : (action : LineAction) (arguments : List (Bor Text)) → action ≡ Demonstrates → length arguments < 1
    → action_by action (map (λ a. a.now) arguments) ≡ None
demo_of_none action [] is most = rw is refl
demo_of_none action (text ∷ others) is most = absurd (omega (arith, most))

pub demo_of_many : (action : LineAction) (arguments : List (Bor Text)) → action ≡ Demonstrates → 2 ≤ length arguments
    → action_by action (map (λ a. a.now) arguments) ≡ None
demo_of_many action (text ∷ more ∷ others) is least = rw is refl
demo_of_many action arguments is least = absurd (omega (arith, least))

-- ---- the size of the store

-- one value that is no size of the store
pub no_size : (values : List (Bor Text)) (x : Bor Text) → 1 ≤ length values → length values < 2
    → (slice_index_or values 0 x).now ≢ codes "512" → (slice_index_or values 0 x).now ≢ codes "1024"
    → option_value Full size_named (map (λ v. v.now) values) ≡ None
no_size (value ∷ []) x least most h k = simp (differs value.now _ h, differs value.now _ k)
no_size values x least most h k = absurd (omega arith)

-- ---- lines

-- the command of a line that was found
line_taken : (t : Option TableLine) (l : TableLine) → Some l ≡ t → (o : Options) (arguments : List Text)
    → has_only l.options o ≡ true
    → option_and_then (λ l. with_only l.options o (l.action arguments)) t ≡ command (l.action arguments) (settings_of o)
line_taken t l e o arguments h = rw (← e) (simp h)

-- the command of the words, by the line that the first of them begins
pub command_found : (words : List (Bor Text)) (x : Bor Text) (line : held.TableLine) (o : Options) → 1 ≤ length words
    → option_map line_in (Some line) ≡ line_named lines (slice_index_or words 0 x).now
    → has_only (map (λ n. n.now) line.options.now) o ≡ true
    → command_of (map (λ w. w.now) words) o
    ≡ command (action_by line.action (map (λ a. a.now) (take (length words - 1) (drop 1 words)))) (settings_of o)
command_found [] x line o least is h = absurd (omega (arith, least))
command_found (word ∷ arguments) x line o least is h =
    rw (take_all (length (word ∷ arguments) - 1) arguments (omega arith)) (line_taken _ _ is o _ h)

-- at a line of the table, in a search from the first one on: it is the one that begins with the word, or a later one is
pub at_line : (ls : List held.TableLine) (i : ℕ) (d : held.TableLine) (word : Text) (c : Bool) → i < length ls
    → line_named (map line_in (drop i ls)) word ≡ line_named lines word → bytes_eq word (get_or ls i d).word.now ≡ c
    → (if c then Some (line_in (get_or ls i d)) else line_named (map line_in (drop (i + 1) ls)) word)
    ≡ line_named lines word
at_line ls i d word c below same is =
    let here =
    sym (at_drop_more (λ (xs : List held.TableLine). line_named (map line_in xs) word) ls i d below) ∙ same in
    rw (← is) here

-- past the last of them
pub no_line : (ls : List held.TableLine) (i : ℕ) (word : Text) → length ls ≤ i
    → line_named (map line_in (drop i ls)) word ≡ line_named lines word → None ≡ line_named lines word
no_line ls i word past same =
    sym (at_drop_all (λ (xs : List held.TableLine). line_named (map line_in xs) word) ls i past) ∙ same
