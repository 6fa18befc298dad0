use Rattle.ed_link.proofs.Kit.{arith, append-nil, length-set}
use Rattle.std.proofs.lemmas.Grind.{take_at_read}
use Rattle.std.proofs.lemmas.List.Concat.{flat_map-append}
use Rattle.ed_link.proofs.Lengths.{put_push}
use Rattle.ed_link.proofs.words.put_presets.Goals as goal

pub loop-letter-preserved : goal.loop-letter-preserved
loop-letter-preserved c = grind (arith, take_at_read, flat_map-append, append-nil, length-set, put_push)
