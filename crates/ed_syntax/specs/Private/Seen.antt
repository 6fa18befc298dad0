-- The parts of the code, as those of the definition.
use Rattle.ed_syntax.specs.Parts as spec
use Rattle.ed_syntax.specs.declared.parts.Part.{Part}
use Rattle.ed_syntax.specs.declared.parts.Part.TheVariants.{Run, Sign, Quoted}

-- a part by its bytes
abbrev pub part : Part → spec.LinePart
part (Run r) = spec.run r.now
part (Sign b) = spec.sign b
part (Quoted q) = spec.quoted q.now
