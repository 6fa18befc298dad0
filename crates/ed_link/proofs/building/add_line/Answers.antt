use Rattle.ed_link.proofs.Kit.{[], List, ◌++◌, ◌∙◌, ◌∷◌, Extent}
use Rattle.std.proofs.lemmas.Result.{on_ok_weaker}
use Rattle.ed_link.proofs.Steps.{entry_fits}
use Rattle.ed_link.proofs.building.add_line.Goals as goal

pub entry_after-built-requires : goal.entry_after-built-requires
entry_after-built-requires c = record {
  first = c.requires.first;
  fits = entry_fits c.args.symbols.now c.args.counter c.args.statement.now c.requires.fits;
}

pub extent_of-requires : goal.extent_of-requires
extent_of-requires c = record { place = c.requires.place; segments = c.requires.segments }

pub put_line-requires : goal.put_line-requires
put_line-requires c = record { table = c.requires.table; place = c.requires.place; fits = c.requires.fits }

pub push_line-requires : goal.push_line-requires
push_line-requires c = record { place = c.requires.place; base = c.requires.base; fits = c.requires.fits }

pub returns : goal.returns
returns c =
    let pushed = c.push_line.ensures.items in record {
      items = pushed;
      table = on_ok_weaker c.push_line.result (λ p. c.put_line.ensures) pushed;
      after = on_ok_weaker c.push_line.result (λ p. c.in_ok-push_rows.ensures.rows) pushed;
      entry = on_ok_weaker c.push_line.result (λ p. c.entry_after-built.ensures.is) pushed;
      entered = on_ok_weaker c.push_line.result (λ p. c.entry_after-built.ensures.some) pushed;
      few_items = c.push_line.ensures.few;
      few_rows = on_ok_weaker c.push_line.result (λ p. c.in_ok-push_rows.ensures.few) pushed;
      extents = on_ok_weaker c.push_line.result (λ p. ◌∙◌ {A = List Extent} c.in_ok-push.ensures.items
          (λ i. c.args.built.now.extents.items ++ c.extent_of.ensures i ∷ [])) pushed;
    }
