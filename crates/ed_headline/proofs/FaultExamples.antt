-- Worked sources: the text, and the fault or the acceptance that the law gives from the computed answer.
use Rattle.ed_headline.proofs.Kit.{Size, Full, Small, program_of, SourceCause, At, Line, Number, Order, codes, Err, Ok}
use Rattle.ed_headline.proofs.Kit.{Result, settings, IsMeaningFault, [], false, inl, List, None, refl, Some, ℕ, ◌++◌}
use Rattle.ed_headline.proofs.Kit.{◌∷◌, ◌≡◌, fault}
use Rattle.std.proofs.Common.{lit≤}
use Rattle.ed_syntax.specs.Reading.Sources.{Fault}
use Rattle.ed_lines.specs.declared.program.Statement.TheVariants.{Segment}
use Rattle.ed_link.specs.Faults.{HasNoFault, LineHasCause}
use Rattle.ed_headline.proofs.EachSource.{read_law}
use Rattle.ed_lines.specs.declared.fault.SourceCause.TheVariants as causes

-- the lines of a text that is read
abbrev lines_in : Result (List Line) Fault → List Line
lines_in (Ok lines) = lines
lines_in (Err e) = []

abbrev pub source : List ℕ → List Line
source text = lines_in (program_of text)

refused : (z : Size) (text : List ℕ) {k : ℕ} {c : SourceCause} → program_of text ≡ Ok (source text)
    → fault z (source text) ≡ Some (At k c) → IsMeaningFault z (source text) k c
refused z text {k} {c} e h = (read_law z text (source text) e).refused k c h

taken : (z : Size) (text : List ℕ) → program_of text ≡ Ok (source text) → fault z (source text) ≡ None
    → HasNoFault z (source text)
taken z text e h = (read_law z text (source text) e).accepted h

-- a source that is accepted
accepted : HasNoFault Full (source (codes "segment main\nhere: Z F\nenter here\n"))
accepted = taken Full (codes "segment main\nhere: Z F\nenter here\n") refl refl

-- no `enter`: at the number of lines plus 1
no_enter_is : IsMeaningFault Full (source (codes "segment main\nhere: Z F\n")) 3 causes.Enter
no_enter_is = refused Full (codes "segment main\nhere: Z F\n") refl refl

-- one line with S6 and S7; S6 is the fault
again_is : IsMeaningFault Full (source (codes "segment main\nmain: A x F\nenter main\n")) 2 causes.LabelTwice
again_is = refused Full (codes "segment main\nmain: A x F\nenter main\n") refl refl

-- a line that overlaps an earlier one, before a later unknown name
abbrev over : List ℕ
over = codes "segment main at 60\nZ F\nsegment t at 59\nword 1\nword 2\nenter x\n"

over_is : IsMeaningFault Full (source over) 5 causes.Overlap
over_is = refused Full over refl refl

-- the last location of the small store, and the one after it
abbrev half : List ℕ
half = codes "segment main at 511\nZ F\nZ F\nenter main\n"

half_is : IsMeaningFault Small (source half) 3 causes.StoreEnd × HasNoFault Full (source half)
half_is = (refused Small half refl refl, taken Full half refl refl)

-- below location 44 and below 56, and an order outside every segment
low_is : IsMeaningFault Full (source (codes "segment main at 43\nZ F\nenter main\n")) 2 causes.LoaderStore
low_is = refused Full (codes "segment main at 43\nZ F\nenter main\n") refl refl

outside_is : IsMeaningFault Full (source (codes "Z F\n")) 1 causes.OutsideSegment
outside_is = refused Full (codes "Z F\n") refl refl

-- a `use` of no routine, one that sets no parameter of two, and one that sets a letter twice
abbrev used : List ℕ → List ℕ
used line = codes "segment main\nx: Z F\n" ++ line ++ codes "\nenter x\n"

uses :
    IsMeaningFault Full (source (used (codes "use tool as t"))) 3 causes.NoSuchRoutine
    × IsMeaningFault Full (source (used (codes "use print as p"))) 3 causes.Parameters
    × IsMeaningFault Full (source (used (codes "use print as p with H=x, H=x"))) 3 causes.Parameters
    × HasNoFault Full (source (used (codes "use print as p with H=x")))
    × IsMeaningFault Full (source (used (codes "use print as p with H=x-57"))) 3 causes.AddressRange
    × IsMeaningFault Full (source (used (codes "use print as p with H=y"))) 3 causes.LabelUnknown
unfolding settings
uses = (
  refused Full (used (codes "use tool as t")) refl refl,
  refused Full (used (codes "use print as p")) refl refl,
  refused Full (used (codes "use print as p with H=x, H=x")) refl refl,
  taken Full (used (codes "use print as p with H=x")) refl refl,
  refused Full (used (codes "use print as p with H=x-57")) refl refl,
  refused Full (used (codes "use print as p with H=y")) refl refl,
)

-- version 2: a sandwich digit; a local name seen from another segment
abbrev second : List ℕ → List ℕ → List ℕ
second line last = codes "version 2\nsegment main\n_c: Z F\nsegment t\n" ++ line ++ codes "\nenter main\n" ++ last

version_two :
    IsMeaningFault Full (source (second (codes "_c: long 131072") [])) 5 causes.SandwichDigit
    × IsMeaningFault Full (source (second (codes "A _c F") [])) 5 causes.LabelUnknown
    × HasNoFault Full (source (second (codes "_c: long 5") (codes "data \"1F\"")))
    × IsMeaningFault Full (source (second (codes "data \"1F\"") [])) 5 causes.Enter
    × IsMeaningFault Full (source (second (codes "_c: long 5") (codes "enter t"))) 7 causes.Enter
version_two = (
  refused Full (second (codes "_c: long 131072") []) refl refl,
  refused Full (second (codes "A _c F") []) refl refl,
  taken Full (second (codes "_c: long 5") (codes "data \"1F\"")) refl refl,
  refused Full (second (codes "data \"1F\"") []) refl refl,
  refused Full (second (codes "_c: long 5") (codes "enter t")) refl refl,
)

-- the last location of the parameters
parameters_is : IsMeaningFault Full (source (codes "segment main at 55\nZ F\nenter main\n")) 2 causes.ParameterStore
parameters_is = refused Full (codes "segment main at 55\nZ F\nenter main\n") refl refl

-- by hand, without the law: an order at location 43, and an order at 60 over one that an earlier line placed there
abbrev at_place : ℕ → Line
at_place p = record { number = 1; label = None; statement = Some (Segment (codes "main") (Some p)) }

abbrev stop : ℕ → Line
stop n = record { number = n; label = None; statement = Some (Order 13 (Number 0) false) }

low_by_hand : LineHasCause Full (at_place 43 ∷ stop 2 ∷ []) (at_place 43 ∷ []) (stop 2) causes.LoaderStore
low_by_hand = (43, inl (lit≤ tt, lit≤ tt), lit≤ tt, lit≤ tt)

over_by_hand : LineHasCause Full (at_place 60 ∷ stop 2 ∷ at_place 60 ∷ stop 4 ∷ [])
    (at_place 60 ∷ stop 2 ∷ at_place 60 ∷ []) (stop 4) causes.Overlap
over_by_hand = (
  60,
  (lit≤ tt, lit≤ tt),
  at_place 60 ∷ [],
  stop 2,
  record { after = at_place 60 ∷ []; lines_are = refl },
  (lit≤ tt, lit≤ tt),
)
