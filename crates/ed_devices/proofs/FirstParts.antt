-- The empty text is a prefix of any text.
use Rattle.ed_tapes.proofs.Kit.{[], refl, Text}
use Rattle.ed_devices.specs.Devices.{Device, Wrote, WrotePart}

pub none_written : (d : Device) (text : Text) → Wrote d [] → WrotePart d text
none_written d text w = record { part = []; rest = text; whole = refl; gains = w }
