use Rattle.ed_run.proofs.Kit.{first_once}
use Rattle.ed_run.proofs.Ends.{ran_ends, run_left}
use Rattle.ed_run.proofs.Later.{ran_later}
use Rattle.ed_run.proofs.Places.{at_limit, at_block, at_stop}
use Rattle.ed_run.proofs.running.run.Goals as goal

pub returns-clause-run_end : goal.returns-clause-run_end
returns-clause-run_end c = run_left c.run_orders.ensures

pub returns-clause-law : goal.returns-clause-law
returns-clause-law c = record {
  ends = ran_ends;
  once = λ limit resumes room s j k d e. first_once;
  at_limit = λ limit resumes room s. at_limit limit resumes;
  at_block = λ limit resumes room k s e. at_block limit resumes;
  at_stop = λ limit resumes room j s. at_stop limit resumes;
  later = ran_later;
}
