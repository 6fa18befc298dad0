-- The answers of linking, by the definitions of the linked program, the punched tape and the faults.
use Rattle.std.specs.Prelude.{◌≡◌, ℕ, ◌<◌, map, List}
use Rattle.ed_words.specs.declared.size.Size.{Size}
use Rattle.ed_lines.specs.declared.program.Line.{Line}
use Rattle.ed_lines.specs.declared.fault.SourceFault.{SourceFault}
use Rattle.ed_lines.specs.declared.fault.SourceFault.TheVariants.{At, Memory}
use Rattle.ed_link.specs.declared.linked.Linked.{Linked}
use Rattle.ed_link.specs.Linked.{data_after, symbols_of, entry_of}
use Rattle.ed_link.specs.Punch.{punched_items}
use Rattle.ed_link.specs.Faults.{HasNoFault, IsMeaningFault}
use Rattle.ed_link.specs.Tables.{word_at}
use Rattle.ed_link.specs.Words.{linked_places, linked_word}
use Rattle.ed_link.specs.Labels.{labels}
use Rattle.ed_link.specs.Tapes.{ReachesLinkedEntry}

-- if an answer is a fault of meaning, it is the source's
abbrev pub HasMeaningFault : Size → List Line → SourceFault → Type 0
HasMeaningFault z lines (At k c) = IsMeaningFault z lines k c
HasMeaningFault z lines Memory = Unit {0}

-- the linked program of a source without a fault, and its tape
pub record IsLinked (z : Size) (lines : List Line) (k : Linked) : Type 0 where
  pub accepted : HasNoFault z lines
  pub items : k.items.items ≡ punched_items lines
  -- the words of the linked program, in ascending order of location
  pub places : map (λ p. p.place) k.words.items ≡ linked_places lines
  pub words : (place : ℕ) → place < 1024 → word_at k.words.items place ≡ linked_word lines place
  pub entry : k.entry ≡ entry_of lines
  pub after : k.after.items ≡ data_after lines
  pub labels : k.labels.items ≡ labels (symbols_of lines)
  -- from every store, reading the tape gives the linked program
  pub loads : ReachesLinkedEntry z lines
