-- How a source is read, as a computation: its parts, the form of a line, its lines up to the first fault of form. Proofs
-- compute by it what a fixed line says. `ed_syntax/proofs/SourceLaws.antt` ties it to the relation that the contracts
-- cite, so nobody has to read it to know what is claimed.
pub mod Parts
pub mod Grammar
pub mod Sources
