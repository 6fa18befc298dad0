-- What `punch` writes is the tape that `run` runs.
use Rattle.ed_laws.proofs.Kit.{inl, refl, replicate, ℕ}
use Rattle.ed_headline.proofs.Kit.{arrival, length-replicate}
use Rattle.ed_laws.specs.PunchedTapes.{EachPunchedIsRun}
use Rattle.ed_headline.proofs.EachSource.{each_source as comes_to}
use Rattle.ed_headline.proofs.PunchedTexts.{text_is_tape}

pub each_punched_is_run : EachPunchedIsRun
each_punched_is_run s source lines accepted =
    let loads = comes_to s.size source lines accepted (replicate 1024 0) (length-replicate {A = ℕ} 1024 0) in
    record {
      reads = text_is_tape s.size source lines accepted;
      out_is = refl;
      status_is = refl;
      checked = inl (record {
        well = loads.0;
        entry = arrival (replicate 1024 0) lines;
        comes = loads.1;
        outcome = refl;
      });
    }
