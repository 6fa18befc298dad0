use Rattle.ed_symbols.proofs.Kit.{list_any, drop, ◌||◌, ◌≡◌, is_no_address, is_unknown, operand_of}
use Rattle.ed_symbols.proofs.faults.settings_cause.Given as goal

-- the same for the settings that are left, and for those so far
abbrev pub invariant-loop-setting : goal.invariant-loop-setting
invariant-loop-setting l =
    (list_any (λ t. is_unknown l.symbols l.segment (operand_of t)) (drop l.setting-index l.settings)
    ≡ list_any (λ t. is_unknown l.symbols l.segment (operand_of t)) l.settings)
    × ((l.outside || list_any (λ t. is_no_address l.symbols l.segment (operand_of t)) (drop l.setting-index l.settings))
    ≡ list_any (λ t. is_no_address l.symbols l.segment (operand_of t)) l.settings)
