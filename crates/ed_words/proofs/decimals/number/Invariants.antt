use Rattle.std.proofs.Common.{◌≡◌, ◌<◌, ◌^◌, take, true}
use Rattle.std.specs.List.{list_all}
use Rattle.ed_words.specs.Decimals.{is_digit, value}
use Rattle.ed_words.proofs.decimals.number.Given as goal

abbrev pub invariant-loop-byte : goal.invariant-loop-byte
invariant-loop-byte l = record {
  value : l.value ≡ value (take l.byte-index l.text);
  digits : list_all is_digit (take l.byte-index l.text) ≡ true;
  bound : l.value < 10 ^ l.byte-index;
}
