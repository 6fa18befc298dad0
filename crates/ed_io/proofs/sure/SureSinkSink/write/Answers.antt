use Rattle.ed_io.proofs.Kit.{arith, length, refl, sym, ◌+◌, ◌-◌, ◌∙◌, ◌≡◌, ◌≤◌, take_all}
use Rattle.std.proofs.Common.{length-append}
use Rattle.ed_io.proofs.Memory.{first_bytes, gains_whole, is_over_now, is_over_still}
use Rattle.ed_io.proofs.sure.SureSinkSink.write.Goals as goal

pub returns-then-free-piece : goal.returns-then-free-piece
returns-then-free-piece c =
    let here = c.self.inside in
    let few : length here.bytes.items ≤ here.room = omega arith in
    let free : here.room - c.len.result ≡ here.room - length here.bytes.items = omega arith in
    rw (← c.self.view_is) (record {
      within = omega arith;
      some = λ l. l;
      bytes = tt;
      cause = record { later = omega arith; failed = tt };
      faults = refl;
      sure = refl;
      whole = refl;
      room = refl;
      kept = rw free at c.keep.ensures.items ∙ first_bytes here.room here.bytes.items c.args.piece.now few;
      over = is_over_now here.is_over here.room (length here.bytes.items + length c.args.piece.now)
          (omega arith);
    })

pub returns-else-free-piece : goal.returns-else-free-piece
returns-else-free-piece c =
    let here = c.self.inside in
    let free : length here.bytes.items + length c.args.piece.now ≤ here.room = omega arith in
    let items = c.keep-else-free-piece.ensures.items in
    rw (← c.self.view_is) (record {
      within = omega arith;
      some = λ l. l;
      bytes = gains_whole here.is_over here.bytes.items _ c.args.piece.now items;
      cause = record { later = omega arith; failed = tt };
      faults = refl;
      sure = refl;
      whole = refl;
      room = refl;
      kept = items ∙ sym (take_all here.room _ (omega (arith, length-append here.bytes.items c.args.piece.now)));
      over = is_over_still here.is_over here.room (length here.bytes.items + length c.args.piece.now)
          free;
    })
