use Rattle.ed_link.proofs.Kit.{refl, ◌∙◌}
use Rattle.ed_link.proofs.Causes.{first_cause-same, list_any-overlaps, if_else-none, if_else-some}
use Rattle.ed_lines.specs.declared.fault.SourceCause.TheVariants as causes
use Rattle.ed_link.proofs.faults.cause_of.Goals as goal

pub returns-then-overlaps-3 : goal.returns-then-overlaps-3
returns-then-overlaps-3 c =
    rw (← c.reach-reach.ensures, ← c.if-is_outside.ensures, ← c.if-overlaps.ensures, ← c.if-overlaps-2.ensures)
    (rw (← (c.from.ensures ∙ c.value.ensures.is), ← c.if-overlaps-3.ensures) refl)

pub returns-then-overlaps_any : goal.returns-then-overlaps_any
returns-then-overlaps_any c =
    first_cause-same c.if-is_outside.ensures c.reach-reach.ensures c.if-overlaps.ensures c.if-overlaps-2.ensures
    (c.from.ensures ∙ c.value.ensures.is) c.if-overlaps-3.ensures
    (list_any-overlaps c.if-overlaps_any.ensures c.extent_of.ensures c.deref.ensures.value) refl

pub returns-in-Some : goal.returns-in-Some
returns-in-Some c =
    first_cause-same c.if-is_outside.ensures c.reach-reach.ensures c.if-overlaps.ensures c.if-overlaps-2.ensures
    (c.from.ensures ∙ c.value.ensures.is) c.if-overlaps-3.ensures
    (list_any-overlaps c.if-overlaps_any.ensures c.extent_of.ensures c.deref.ensures.value)
    (if_else-some _ _ causes.NoSuchRoutine causes.Parameters _ _ c.in-Some.ensures)

pub returns-then-is_misplaced : goal.returns-then-is_misplaced
returns-then-is_misplaced c =
    first_cause-same c.if-is_outside.ensures c.reach-reach.ensures c.if-overlaps.ensures c.if-overlaps-2.ensures
    (c.from.ensures ∙ c.value.ensures.is) c.if-overlaps-3.ensures
    (list_any-overlaps c.if-overlaps_any.ensures c.extent_of.ensures c.deref.ensures.value)
    (if_else-none _ _ causes.NoSuchRoutine causes.Parameters _ c.in_default.ensures
    (rw (← c.is_some.ensures, ← c.if-is_misplaced.ensures) refl))

pub returns-then-has_sandwich : goal.returns-then-has_sandwich
returns-then-has_sandwich c =
    first_cause-same c.if-is_outside.ensures c.reach-reach.ensures c.if-overlaps.ensures c.if-overlaps-2.ensures
    (c.from.ensures ∙ c.value.ensures.is) c.if-overlaps-3.ensures
    (list_any-overlaps c.if-overlaps_any.ensures c.extent_of.ensures c.deref.ensures.value)
    (if_else-none _ _ causes.NoSuchRoutine causes.Parameters _ c.in_default.ensures
    (rw (← c.is_some.ensures, ← c.if-is_misplaced.ensures, ← c.if-has_sandwich.ensures) refl))

pub returns-else-has_sandwich : goal.returns-else-has_sandwich
returns-else-has_sandwich c =
    first_cause-same c.if-is_outside.ensures c.reach-reach.ensures c.if-overlaps.ensures c.if-overlaps-2.ensures
    (c.from.ensures ∙ c.value.ensures.is) c.if-overlaps-3.ensures
    (list_any-overlaps c.if-overlaps_any.ensures c.extent_of.ensures c.deref.ensures.value)
    (if_else-none _ _ causes.NoSuchRoutine causes.Parameters _ c.in_default.ensures
    (rw (← c.is_some.ensures, ← c.if-is_misplaced.ensures, ← c.if-has_sandwich.ensures) refl))
