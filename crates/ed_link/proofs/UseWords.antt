-- The words of a `use`, by what the code puts.
use Rattle.ed_link.proofs.Kit.{List, Option, Some, ℕ, ◌++◌, ◌≡◌, Setting, map, entry, routine_word, table_item}
use Rattle.ed_link.proofs.Kit.{Definition, image, parameters, placed_words, presets, put_all}
use Rattle.ed_link.proofs.Lengths.{put_all_append}

-- the parameters and then the routine are the words of the `use`
pub use_words : {before behind : List (Option ℕ)} {r : ℕ} {found : Option ℕ} {ps : List ℕ} (table : List (Option ℕ))
    (symbols : List Definition) (ts : List Setting) (base : ℕ)
    → behind ≡ put_all before (placed_words base (map (λ row. routine_word ps base (table_item row)) (entry r).items))
    → ps ≡ parameters symbols ts
    → before ≡ put_all table (presets symbols ts) → Some r ≡ found
    → behind ≡ put_all table (presets symbols ts ++ image symbols ts base found)
use_words {before} {behind} {r} {ps = ps} table symbols ts base h p q f =
    rw (← f, h, p, q, put_all_append)
