use Rattle.ed_symbols.proofs.Kit.{drop, ◌≡◌, definition_of}
use Rattle.ed_symbols.proofs.symbols.find_definition.Given as goal

-- the definition is the first among those that are left
abbrev pub invariant-loop-definition : goal.invariant-loop-definition
invariant-loop-definition l = definition_of l.segment l.name (drop l.definition-index l.symbols)
    ≡ definition_of l.segment l.name l.symbols
