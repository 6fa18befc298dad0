use Rattle.ed_link.specs.declared.linked.Placed.{Placed}
use Rattle.ed_headline.proofs.Kit.{ap, map}
use Rattle.ed_link.proofs.Places.{places_below}
use Rattle.ed_answers.proofs.Sources.{listing_gives}
use Rattle.ed_answers.proofs.source.list_linked.Goals as goal

pub list_words-requires : goal.list_words-requires
list_words-requires c =
    let place = λ (p : Placed). p.place in
    places_below c.args.size c.requires.0 c.args.linked.now (map place c.deref.result.now) c.requires.1
    (ap (map place) c.deref.ensures.value)

pub returns : goal.returns
returns c =
    listing_gives _ c.args.linked.now _ _ c.list_words.result c.in_ok-machine.ensures.entry c.deref.ensures.value
    c.list_words.ensures
