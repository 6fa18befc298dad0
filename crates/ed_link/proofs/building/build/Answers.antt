use Rattle.ed_link.proofs.Kit.{append_assoc, ap, arith, drop, is_some, length-append, Line, refl, sym, ◌+◌, ◌∙◌, ◌∷◌}
use Rattle.ed_link.proofs.Kit.{◌≡◌, drop_more}
use Rattle.ed_link.proofs.Kit.{[], append-nil, data_after, entry_from, fault_from, List, placed_from, punched_from}
use Rattle.ed_link.proofs.Kit.{put_all, unwrap_or, ◌++◌, LinesBefore, Option, SourceCause, or_later, past_of}
use Rattle.ed_link.proofs.Kit.{after_statement}
use Rattle.std.proofs.lemmas.List.{at_drop_all}
use Rattle.ed_link.proofs.Bounds.{items_few}
use Rattle.ed_link.proofs.Lengths.{empty_length, put_all_append, put_all_length}
use Rattle.ed_link.proofs.Inductions.{IsFaultless-no_cause, first_enter}
use Rattle.ed_link.proofs.LineLoop.{base_under, reach_fits}
use Rattle.ed_link.proofs.building.build.Goals as goal

pub loop-line-init : goal.loop-line-init
loop-line-init c =
    let s = c.in_ok-built.ensures in
    let counter = c.first-counter.ensures in
    record {
      fault = rw (s.4, s.2, counter) refl;
      items_are = rw (counter, s.0) refl;
      table_is = rw (counter, s.1) refl;
      size = rw s.1 empty_length;
      rows_are = rw s.3 refl;
      entry_is = rw s.2 refl;
      place = rw counter (omega arith);
      segments = rw counter (omega arith);
      base = rw counter (omega arith);
      few_items = rw s.0 (omega arith);
      few_rows = rw s.3 (omega arith);
    }

pub loop-line-preserved : goal.loop-line-preserved
loop-line-preserved c =
    let d = c.loop-line.invariant in
    let added = c.in_ok-add_line.ensures in
    let counter = c.after_statement-counter.ensures in
    let l = c.line-item.result in
    let few = items_few c.args.symbols.now c.loop-line.counter l.statement added.few_items in
    let base = base_under l.statement c.loop-line.counter d.base in
    let q : drop c.loop-line.line-index c.args.lines.now ≡ l ∷ drop (c.loop-line.line-index + 1) c.args.lines.now =
    drop_more c.args.lines.now c.loop-line.line-index l c.loop-line-test.true
    ∙ ap (λ (x : Line). x ∷ drop (c.loop-line.line-index + 1) c.args.lines.now) (sym c.line-item.is) in
    record {
      fault = rw (added.extents, added.entered, counter.is) (rw (q, ← c.in_default.ensures) at d.fault);
      items_are = rw (added.items, counter.is, append_assoc) (rw q at d.items_are);
      table_is = rw (added.table, counter.is, put_all_append) (rw q at d.table_is);
      size = rw (added.table, put_all_length) d.size;
      rows_are = rw (added.after, append_assoc) (rw q at d.rows_are);
      entry_is = added.entry _ ∙ (rw q at d.entry_is);
      place = omega (arith, d.place, counter.place);
      segments = omega (arith, d.segments, counter.segments);
      base = rw counter.is base;
      few_items = rw (added.items, length-append) (omega (arith, d.few_items, few));
      few_rows = rw (added.after, length-append) (omega (arith, d.few_rows, added.few_rows));
    }

pub add_line-requires-clause-fits : goal.add_line-requires-clause-fits
add_line-requires-clause-fits c =
    reach_fits c.args.size c.args.symbols.now c.args.has_enter
    (record { extents = c.loop-line.built.extents.items; entered = is_some c.loop-line.built.entry }) c.line-item.result
    c.loop-line.counter
    (sym c.in_default.ensures)

pub add_line-requires-clause-first : goal.add_line-requires-clause-first
add_line-requires-clause-first c =
    let past : LinesBefore =
    record { extents = c.loop-line.built.extents.items; entered = is_some c.loop-line.built.entry } in
    first_enter c.loop-line.built.entry c.args.has_enter c.line-item.result
    (IsFaultless-no_cause c.args.size c.args.symbols.now c.args.has_enter past c.line-item.result c.loop-line.counter
    (sym c.in_default.ensures)).misplaced

pub returns : goal.returns
returns c =
    let d = c.loop-line.invariant in
    let built = c.loop-line.built in
    let none : [] ≡ drop c.loop-line.line-index c.args.lines.now =
    sym (at_drop_all (λ (xs : List Line). xs) c.args.lines.now c.loop-line.line-index c.loop-line-test.false) in
    record {
      accepted = sym d.fault ∙ ap (λ (x : List Line). fault_from c.args.size c.args.symbols.now c.args.has_enter
          (record { extents = built.extents.items; entered = is_some built.entry }) c.loop-line.counter x) (sym none);
      items = sym (append-nil built.items.items)
          ∙ ap (λ (x : List Line). built.items.items ++ punched_from c.args.symbols.now c.loop-line.counter x) none
          ∙ d.items_are;
      table = ap (λ (x : List Line). put_all built.table.items
          (placed_from c.args.symbols.now c.loop-line.counter x)) none ∙ d.table_is;
      size = d.size;
      entry = ap (λ (x : List Line). unwrap_or built.entry (entry_from c.args.symbols.now x)) none ∙ d.entry_is;
      after = sym (append-nil built.after.items)
          ∙ ap (λ (x : List Line). built.after.items ++ data_after x) none ∙ d.rows_are;
      few_items = omega (arith, d.few_items, c.loop-line.auto.line-index-end, c.requires);
      few_rows = omega (arith, d.few_rows, c.loop-line.auto.line-index-end, c.requires);
    }

pub returns-in-Some : goal.returns-in-Some
returns-in-Some c =
    let d = c.loop-line.invariant in
    let i = c.loop-line.line-index in
    let l = c.line-item.result in
    let counter = c.loop-line.counter in
    let past : LinesBefore =
    record { extents = c.loop-line.built.extents.items; entered = is_some c.loop-line.built.entry } in
    let rest = drop (i + 1) c.args.lines.now in
    let q : drop i c.args.lines.now ≡ l ∷ rest = drop_more c.args.lines.now i l c.loop-line-test.true
    ∙ ap (λ (x : Line). x ∷ rest) (sym c.line-item.is) in
    sym d.fault ∙ ap (λ (x : List Line). fault_from c.args.size c.args.symbols.now c.args.has_enter past counter x) q
    ∙ ap (λ (x : Option SourceCause). or_later l.number x
    (fault_from c.args.size c.args.symbols.now c.args.has_enter (past_of past l counter)
    (after_statement l.statement counter) rest)) (sym c.in-Some.ensures)
