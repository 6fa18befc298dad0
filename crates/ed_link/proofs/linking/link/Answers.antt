use Rattle.ed_link.proofs.Kit.{◌∙◌}
use Rattle.ed_symbols.proofs.NameLaw.{fault_found}
use Rattle.ed_link.proofs.FaultLaw.{answer_has_fault}
use Rattle.ed_link.proofs.WordLaws.{each_word_stands}
use Rattle.ed_link.proofs.linking.link.Goals as goal

pub returns-clause-fault : goal.returns-clause-fault
returns-clause-fault c =
    answer_has_fault c.args.size c.args.program.now.lines.items c.args.program.now.numbered _ c.link_names.ensures.fault

pub returns-clause-words : goal.returns-clause-words
returns-clause-words c = each_word_stands

pub returns-in_err-places-clause-words : goal.returns-in_err-places-clause-words
returns-in_err-places-clause-words c = each_word_stands

pub link_names-requires-clause-names : goal.link_names-requires-clause-names
link_names-requires-clause-names c =
    c.fault.ensures ∙ fault_found _ c.args.program.now.numbered _ c.in_ok-places.ensures.fault
