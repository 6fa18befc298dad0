-- Lines whose locations are after those of all earlier lines have no fault.
use Rattle.ed_programs.proofs.Kit.{Size, array, Definition, are_below, ExtentList, past, place_on, even_from, arith}
use Rattle.ed_programs.proofs.Kit.{false, length, List, None, Option, refl, Some, true, ℕ, ◌+◌, ◌≡◌, ◌≤◌, locations}
use Rattle.ed_programs.proofs.Kit.{Text, counter, said}
use Rattle.ed_link.proofs.Kit.{is_none, find, routine_places, cause_of, sets}
use Rattle.ed_lines.specs.declared.program.Setting.{Setting}
use Rattle.ed_link.proofs.Extents.{list_any-apart, fits_store}
use Rattle.ed_lines.specs.declared.program.Statement.TheVariants as statements

-- ---- lines after a program: a block of words, a routine of the library, and the entry

module _ (z : Size) (symbols : List Definition) (extents : ExtentList) where
  pub block_sound : (l p b g : ℕ) (label : Option Text) (rows : List ℕ) → 56 ≤ p → p + length rows ≤ locations z
      → are_below p extents ≡ true
      → cause_of z symbols true (past extents) (said l label (statements.Text (array rows))) (counter p b g) ≡ None
  block_sound l p b g label rows low fits below =
      let s = fits_store (locations z) p (p + length rows) low fits in
      let loader = s.loader in let parameters = s.parameters in let store = s.store in
      let others = list_any-apart p p (p + length rows) extents (omega arith) below in
      rw (loader, parameters, store, others) refl

  pub use_sound : (l p b g : ℕ) (routine name : Text) (settings : List Setting) → 56 ≤ p
      → even_from p + routine_places (find routine) ≤ locations z → are_below p extents ≡ true
      → is_none (find routine) ≡ false → sets settings (find routine) ≡ true → cause_of z symbols true (past extents)
      (said l None (statements.Fetch routine name (array settings))) (counter p b g) ≡ None
  use_sound l p b g routine name settings low fits below known set =
      let s = fits_store (locations z) (even_from p) (even_from p + routine_places (find routine)) (omega arith) fits in
      let loader = s.loader in let parameters = s.parameters in let store = s.store in
      let others = list_any-apart p (even_from p) (even_from p + routine_places (find routine)) extents
      (omega arith) below in
      rw (loader, parameters, store, others, known, set) refl

  pub enter_sound : (l q b g e : ℕ) (name : Text) → place_on symbols None name ≡ Some e → 56 ≤ e → e + 1 ≤ locations z
      → are_below q extents ≡ true
      → cause_of z symbols true (past extents) (said l None (statements.Enter name))
      (record { place = q; base = b; segments = g; inside = false }) ≡ None
  enter_sound l q b g e name place low fits below =
      let s = fits_store (locations z) e (e + 1) low fits in
      let loader = s.loader in let parameters = s.parameters in let store = s.store in
      let others = list_any-apart q q q extents (omega arith) below in
      rw (place, loader, parameters, store, others) refl
