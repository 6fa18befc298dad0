-- The search for a routine by its name.
use Rattle.std.proofs.Common.{◌≡◌, ◌<◌, ◌≤◌, ℕ, ◌+◌, true, false, List, length, drop, Some, None}
use Rattle.std.specs.Str.{bytes_eq}
use Rattle.std.proofs.lemmas.List.{at_drop_all, drop_more}
use Rattle.ed_library.specs.Entries.{catalogue, entry, no_entry}
use Rattle.ed_library.specs.Routines.{find_from}

-- a routine of another name is passed over
pub passed_over : (text : List ℕ) (r : ℕ) → r < length catalogue → bytes_eq (entry r).name text ≡ false
    → find_from text r (drop r catalogue) ≡ find_from text (r + 1) (drop (r + 1) catalogue)
passed_over text r below other = rw (drop_more catalogue r no_entry below) (simp other)

-- a routine of this name is found
pub find_from-found : (text : List ℕ) (r : ℕ) → r < length catalogue → bytes_eq (entry r).name text ≡ true
    → find_from text r (drop r catalogue) ≡ Some r
find_from-found text r below same = rw (drop_more catalogue r no_entry below) (simp same)

-- none is found after the last routine
pub none_left : (text : List ℕ) (r : ℕ) → length catalogue ≤ r → find_from text r (drop r catalogue) ≡ None
none_left text r past = at_drop_all (find_from text r) catalogue r past
