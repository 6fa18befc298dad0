-- The numbers of the causes of faults, and that there is one least fault.
use Rattle.ed_lines.proofs.Kit.{ap, if◌then◌else◌, nat_eq, sym, ℕ, ◌∙◌, ◌≡◌, ◌≤◌}
use Rattle.ed_lines.proofs.Kit.{number_of, SourceCause, rules}
use Rattle.ed_lines.specs.Causes.{IsLeastFault}
use Rattle.ed_lines.specs.declared.fault.SourceCause.TheVariants as causes

-- the cause with a number
abbrev numbered : ℕ → SourceCause
numbered n =
    if nat_eq n 1 then causes.BadByte else if nat_eq n 2 then causes.LongLine
    else if nat_eq n 3 then causes.NotAStatement else if nat_eq n 4 then causes.NumberRange
    else if nat_eq n 5 then causes.TooManyLines else if nat_eq n 6 then causes.LabelTwice
    else if nat_eq n 7 then causes.LabelUnknown else if nat_eq n 8 then causes.AddressRange
    else if nat_eq n 9 then causes.OutsideSegment else if nat_eq n 10 then causes.LoaderStore
    else if nat_eq n 11 then causes.ParameterStore else if nat_eq n 12 then causes.StoreEnd
    else if nat_eq n 13 then causes.Overlap else if nat_eq n 14 then causes.NoSuchRoutine
    else if nat_eq n 15 then causes.Parameters else if nat_eq n 16 then causes.Enter
    else causes.SandwichDigit

numbered_back : (c : SourceCause) → numbered (number_of c) ≡ c
numbered_back c = search rules

pub same_cause : (a b : SourceCause) → number_of a ≡ number_of b → a ≡ b
same_cause a b e = sym (numbered_back a) ∙ (ap (λ n. numbered n) e ∙ numbered_back b)

pub number_of-most : (c : SourceCause) → number_of c ≤ 17
number_of-most c = search rules

pub number_of-least : (c : SourceCause) → 1 ≤ number_of c
number_of-least c = search rules

-- two least faults are the same
pub one_least : {Has : ℕ → SourceCause → Type 0} {k m : ℕ} {c d : SourceCause} → IsLeastFault Has k c
    → IsLeastFault Has m d → (k ≡ m) × (c ≡ d)
one_least f g = search (rules, same_cause)
