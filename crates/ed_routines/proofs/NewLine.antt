-- `newline`, from the library's table to what it does.
use Rattle.ed_routines.proofs.Kit.{E_F, Leads, length_patched, patched, [], length, List, refl, rules, Some, ℕ, ◌*◌}
use Rattle.ed_routines.proofs.Kit.{◌+◌, ◌∷◌, ◌≡◌, locations_most, State, newline, Keeps, Returned, caller, IsLoadedAt}
use Rattle.ed_machine.proofs.Kit.Newline.{IsCalled, cells, newline as newline_leads}
use Rattle.ed_routines.proofs.Called.{IsWithin, get_or-kept}

module _ {parameters : List ℕ} {b top : ℕ} {s : State} (all : length s.store.words ≡ 1024)
    (o : IsLoadedAt newline parameters b s) (within : IsWithin 7 b 0 top s) where
  called : IsCalled s b (caller s) top
  called = search rules

  abbrev pub link : ℕ
  link = E_F + 2 * (caller s + 2)

  abbrev pub last : State
  last = record s {
    store = record { words = patched 0 s.store.words b (cells b link); sandwich = s.store.sandwich };
    acc = 0;
    counter = caller s + 2;
    last = Some 24;
    orders = s.orders + 5;
  }

  pub all_last : length last.store.words ≡ 1024
  all_last = search (rules, locations_most, length_patched)

  pub leads_to : Leads 5 s (18 ∷ 24 ∷ []) last
  leads_to = newline_leads s b (caller s) top called all

  module _ (t : State) (e : t ≡ last) where
    pub returned : Returned 5 s.tape (Some 24) s t
    returned = rw e refl

    pub keeps : Keeps newline b s t
    keeps = rw e (record {
      words = λ i other. get_or-kept [] other s.store.words (cells b link) refl refl called.holds;
    })
