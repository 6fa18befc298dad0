use Rattle.ed_page.proofs.items.Notation.take.Goals as goal

pub placing-requires : goal.placing-requires
placing-requires c = record { number = c.requires.number; theta = c.requires.bound.1 }

pub place-requires : goal.place-requires
place-requires c = c.requires.bound.0

pub take_zed-requires : goal.take_zed-requires
take_zed-requires c = record { number = c.requires.number; bound = c.requires.bound }

pub take_kay-requires : goal.take_kay-requires
take_kay-requires c = record { number = c.requires.number; bound = c.requires.bound }
