-- The versions of the source language (this project's own rule).
use Rattle.std.specs.Prelude.{Bool, true, false}
use Rattle.ed_syntax.specs.declared.version.Version.{Version}
use Rattle.ed_syntax.specs.declared.version.Version.TheVariants.{One, Two}

-- whether a version is the second
abbrev pub is_second : Version → Bool
is_second One = false
is_second Two = true
