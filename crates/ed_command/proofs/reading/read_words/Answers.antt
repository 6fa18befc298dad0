use Rattle.ed_command.proofs.Kit.{map, option_and_then, string_bytes, list_all, ap, false, None, ◌∙◌, ◌≡◌}
use Rattle.ed_command.proofs.Kit.{is_plain_or_long}
use Rattle.std.proofs.Common.{rules}
use Rattle.ed_command.specs.Lines.{command_in, command_line}
use Rattle.ed_command.proofs.Filtered.{all_map, refused_parts}
use Rattle.ed_command.proofs.reading.read_words.Goals as goal

pub returns-then-not-are_plain_or_long-clause-is : goal.returns-then-not-are_plain_or_long-clause-is
unfolding command_line
returns-then-not-are_plain_or_long-clause-is c =
    let strange : list_all is_plain_or_long (map string_bytes c.args.words.now) ≡ false =
    all_map is_plain_or_long string_bytes c.args.words.now ∙ search rules in
    ap (option_and_then command_in) (refused_parts (map string_bytes c.args.words.now) strange None)

pub matches_of-requires : goal.matches_of-requires
matches_of-requires c = all_map is_plain_or_long string_bytes c.args.words.now ∙ search rules

pub returns-in_err-matches-clause-is : goal.returns-in_err-matches-clause-is
unfolding command_line
returns-in_err-matches-clause-is c = search rules

pub returns-clause-is : goal.returns-clause-is
unfolding command_line
returns-clause-is c = search rules
