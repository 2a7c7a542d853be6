use Rattle.sas_reader.proofs.Sound.{accepted_text}
use Rattle.sas_reader.proofs.reader.read_accepted.Goals as goal

pub accepted-requires : goal.accepted-requires
accepted-requires c = accepted_text c.args.bytes.now c.in_ok-parts.parts c.in_ok-parts.ensures
