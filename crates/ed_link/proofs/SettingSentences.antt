-- The same for the fault S15, which is about the settings of a `use`.
use Rattle.ed_link.proofs.Kit.{Contains, eq-eqb, All-contains, AllPass-from_list_all, [], ap, arith, Bool, length}
use Rattle.ed_link.proofs.Kit.{List, nat_eq, None, Option, refl, Some, sym, true, ℕ, ◌∙◌, ◌∷◌, ◌≡◌, list_all}
use Rattle.ed_link.proofs.Kit.{and_parts, eqb-true, Line, Setting, Statement, Fetch, map, and_from, length-map, entry}
use Rattle.ed_link.proofs.Kit.{find, is_some, not, list_any, not_true, Ties, true_not, sets, sets_otherwise, set_to}
use Rattle.std.proofs.lemmas.List.Elements.{Contains-append_right}
use Rattle.std.proofs.lemmas.List.Folds.{Any-from_list_any, list_any-from_Any}
use Rattle.ed_link.specs.Faults.{letter_set, SetExactly, SetsOtherwise}
use Rattle.ed_link.proofs.Kit.{rules}

set_any : (ts : List Setting) (c : ℕ) → is_some (set_to ts c) ≡ list_any (λ x. nat_eq x c) (map letter_set ts)
set_any [] c = refl
set_any (t ∷ ts) c = search (rules, set_any ts c)

set_in : (ts : List Setting) (c : ℕ) → is_some (set_to ts c) ≡ true → Contains (map letter_set ts) c
set_in ts c h = search (rules, Any-from_list_any, set_any, eqb-true)

in_set : (ts : List Setting) (c : ℕ) → Contains (map letter_set ts) c → is_some (set_to ts c) ≡ true
in_set ts c h = search (rules, set_any, list_any-from_Any, eq-eqb)

all_by : (p : ℕ → Bool) (cs : List ℕ) → ((c : ℕ) → Contains cs c → p c ≡ true) → list_all p cs ≡ true
all_by p [] h = refl
all_by p (c ∷ cs) h = and_from (p c) _ (h c (0, omega arith, refl))
    (all_by p cs (λ d m. h d (Contains-append_right (c ∷ []) cs d m)))

exact : (ts : List Setting) (r : ℕ) → Ties (sets ts (Some r)) (SetExactly (entry r).parameters (map letter_set ts))
exact ts r =
    let test : ℕ → Bool = λ c. is_some (set_to ts c) in
    let ps = (entry r).parameters in
    record {
      says = λ h. let p = and_parts _ _ h in record {
        as_many = length-map ts letter_set ∙ eqb-true (length ts) (length ps) p.0;
        each = λ c m. set_in ts c (All-contains (λ x. test x ≡ true) ps c (AllPass-from_list_all test ps p.1) m);
      };
      tests = λ h. and_from _ _ (eq-eqb (length ts) (length ps) (sym (length-map ts letter_set) ∙ h.as_many))
          (all_by test ps (λ c m. in_set ts c (h.each c m)));
    }

otherwise_says : (st : Option Statement) → sets_otherwise st ≡ true → SetsOtherwise st
otherwise_says (Some (Fetch routine name ts)) h = known (find routine) refl h
  where
    known : (o : Option ℕ) → find routine ≡ o → not (sets ts.items o) ≡ true
        → SetsOtherwise (Some (Fetch routine name ts))
    known None e g = cc
    known (Some r) e g = (r, e, λ x. not_true (sets ts.items (Some r)) g ((exact ts.items r).tests x))
otherwise_says st h = cc

otherwise_tests : (st : Option Statement) → SetsOtherwise st → sets_otherwise st ≡ true
otherwise_tests (Some (Fetch routine name ts)) h = ap (λ o. not (sets ts.items o)) h.1
    ∙ true_not _ (λ x. h.2 ((exact ts.items h.0).says x))
otherwise_tests st h = absurd h

pub Ties-s15 : (l : Line) → Ties (sets_otherwise l.statement) (SetsOtherwise l.statement)
Ties-s15 l = record { says = otherwise_says l.statement; tests = otherwise_tests l.statement }
