use Rattle.ed_interlude.proofs.Kit.{err_from_is_err_and, [], refl, sym, gains_none}
use Rattle.ed_interlude.proofs.part.write_line.Goals as goal

pub returns : goal.returns
returns g c = record {
  whole = λ text made.
      let made_of = rw c.in_ok-line.was at made in
      rw (sym made_of, sym c.deref.ensures.value) c.in_ok-write_all.ensures.whole;
  memory = tt;
  faults = c.in_ok-write_all.ensures.faults;
}

pub returns-in_err-line : goal.returns-in_err-line
returns-in_err-line g c =
    let p = err_from_is_err_and c.from_residual.result c.from_residual.ensures.1 in
    rw (p.1, p.2) (record {
      whole = λ text made. record { part = []; rest = text; whole = refl; gains = gains_none _ };
      memory = λ _. refl;
      faults = refl;
    })

pub returns-in_err-write_all : goal.returns-in_err-write_all
returns-in_err-write_all g c =
    let r = c.from_residual-in_err-write_all in
    let p = err_from_is_err_and r.result r.ensures.1 in
    rw (p.1, p.2) (record {
      whole = λ text made.
          let made_of = rw c.in_ok-line.was at made in
          rw (sym made_of, sym c.deref.ensures.value) c.in_err-write_all.ensures.whole;
      memory = λ e. absurd (cc);
      faults = c.in_err-write_all.ensures.faults;
    })
