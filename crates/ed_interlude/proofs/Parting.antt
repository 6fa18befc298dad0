-- A part has one fault or one entry.
use Rattle.ed_interlude.proofs.Kit.{TapeCause, arith, Bool, false, if◌then◌else◌, inl, inr, nat_eq, refl, true, ℕ, ◌≡◌}
use Rattle.ed_interlude.proofs.Kit.{◌≢◌, ◌⊎◌, State, TapeEntry, IsDirective, opening, reading_is_rules, first_part}
use Rattle.ed_interlude.proofs.Kit.{HasFault, LeadsTo, TapePart, IsReturned, reopening}
use Rattle.std.proofs.lemmas.Bool.{eqb-false}
use Rattle.ed_notation.specs.Reading.{ReadingIsRules}
use Rattle.ed_interlude.specs.Parts.{base_of, notation_of}
use Rattle.ed_interlude.proofs.Resumed.{is_directive}
use Rattle.ed_notation.proofs.Verdicts as verdicts

-- the directive under which a part begins is an order P, E or T
abbrev pub Opens : TapePart → Type 0
Opens p = IsDirective (notation_of p).directive

pub first_opens : (s : State) → Opens (first_part s)
first_opens s = let set : IsDirective 20568 = omega arith in set

pub part_opens : (p : TapePart) → (p.number ≢ 1 → IsReturned p.state) → Opens p
part_opens p home = by_number (nat_eq p.number 1) refl
  where
    by_number : (b : Bool) → nat_eq p.number 1 ≡ b
        → IsDirective (if b then opening p.state.store.words else reopening p.state).directive
    by_number true is = let set : IsDirective 20568 = omega arith in set
    by_number false is = is_directive p.state (home (eqb-false p.number 1 is)).leaves

pub home_opens : (p : TapePart) → IsReturned p.state → Opens p
home_opens p home = part_opens p (λ e. home)

rules : (p : TapePart) → Opens p → ReadingIsRules p.state.size p.state.store.words (notation_of p) (base_of p)
    p.state.tape
rules p opens = reading_is_rules p.state.size p.state.store.words (notation_of p) (base_of p) p.state.tape opens

pub fault_or_entry : (p : TapePart) → Opens p
    → ((row : ℕ) × (cause : TapeCause) × HasFault p row cause) ⊎ ((e : TapeEntry) × LeadsTo p e)
fault_or_entry p opens =
    elim (rules p opens).either [
      | inl h ↦ inr (h.1.0, record { well = h.0; comes = h.1.1 })
      | inr h ↦ inl h
    ]

pub not_both : (p : TapePart) (row : ℕ) (cause : TapeCause) (e : TapeEntry) → HasFault p row cause → LeadsTo p e → ⊥
not_both p row cause e fault leads = leads.well row cause fault.is

pub entry_once : (p : TapePart) (e f : TapeEntry) → Opens p → LeadsTo p e → LeadsTo p f → e ≡ f
entry_once p e f opens a b = verdicts.entry_once (rules p opens) a.well a.comes b.comes

pub fault_once : (p : TapePart) (row other : ℕ) (cause rule : TapeCause) → Opens p → HasFault p row cause
    → HasFault p other rule
    → (row ≡ other) × (cause ≡ rule)
fault_once p row other cause rule opens a b = verdicts.fault_once (rules p opens) a b
