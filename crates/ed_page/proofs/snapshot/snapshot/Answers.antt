use Rattle.ed_page.proofs.Kit.{rules, Size, IsReached, locations, refl, subst, sym, ◌<◌, ◌∙◌}
use Rattle.ed_page.proofs.OnTheWay.{IsFirst-begun, fit_counter, fit_last, fit_multiplier, fit_rows, fit_words, is_first}
use Rattle.ed_page.proofs.OnTheWay.{most_places, shown_state, way_reached}
use Rattle.ed_page.proofs.RowCodes.{are_after, codes_after}
use Rattle.ed_page.proofs.snapshot.snapshot.Goals as goal

pub store_of-requires-clause-fit : goal.store_of-requires-clause-fit
store_of-requires-clause-fit c = fit_words c.requires.picture c.requires.words

pub codes_of-requires : goal.codes_of-requires
codes_of-requires c = are_after _ c.args.rows.now c.requires.picture.way.rows_are

pub of_number-requires : goal.of_number-requires
of_number-requires c = fit_multiplier c.requires.picture

pub overflow_cast-parts : goal.overflow_cast-parts
overflow_cast-parts c = search (rules, fit_counter, most_places)

pub overflow_sub-read : goal.overflow_sub-read
overflow_sub-read c = fit_rows c.requires.picture

pub overflow_cast-registers : goal.overflow_cast-registers
overflow_cast-registers c = search (rules, fit_last)

pub reached-requires-clause-is : goal.reached-requires-clause-is
reached-requires-clause-is c =
    let p = c.requires.picture in
    let k = p.way.orders in
    let first = IsFirst-begun p in
    subst IsReached
    (sym (shown_state first k _ p.way.pictured c.size_of.ensures
    c.in_ok-store_of.ensures c.acc_of.ensures c.of_number.ensures refl
    (c.in_ok-tape.ensures ∙ codes_after _ c.args.rows.now)
    c.new.ensures.none c.new.ensures.some refl))
    (way_reached first k)

pub reached-requires-clause-counter : goal.reached-requires-clause-counter
reached-requires-clause-counter c =
    subst (λ (z : Size). c.args.registers.now.counter < locations z) (sym c.size_of.ensures)
    (fit_counter c.requires.picture)

pub returns : goal.returns
returns c first begins k pictures =
    c.reached.ensures
    ∙ shown_state (is_first c.requires.picture.way.rows_are begins) k _ pictures c.size_of.ensures
    c.in_ok-store_of.ensures c.acc_of.ensures c.of_number.ensures refl
    (c.in_ok-tape.ensures ∙ codes_after _ c.args.rows.now)
    c.new.ensures.none c.new.ensures.some refl
