use Rattle.ed_headline.proofs.Kit.{Text, List, subst, sym, ℕ, ◌<◌, ◌∙◌, done, Gives}
use Rattle.std.proofs.Common.{All}
use Rattle.ed_answers.proofs.source.list_words.Goals as goal

pub listing-requires : goal.listing-requires
listing-requires c =
    subst (λ (xs : List ℕ). All (λ a. a < 1024) xs) (sym (c.deref.ensures.value ∙ c.in_ok-places.ensures)) c.requires

pub returns : goal.returns
returns c =
    subst (λ (t : Text). Gives c.done.result (done t))
    (rw (c.store.ensures, c.deref.ensures.value, c.in_ok-places.ensures) at c.in_ok-listing.ensures) c.done.ensures
