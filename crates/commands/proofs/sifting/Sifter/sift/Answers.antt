-- A slice of u8 consists of bytes.
use Rattle.reading.proofs.Basics.ByteLaws.{slice_bytes}
use Rattle.commands.proofs.sifting.Sifter.sift.Goals as goal

pub returns-clause-bytes : goal.returns-clause-bytes
returns-clause-bytes g c = slice_bytes c.args.scans.now c.type_inv.scans
