-- The raw builder is handed the number and the data bytes.
use Rattle.codec.proofs.Filling.{handed}
use Rattle.codec.proofs.building.put_packet_to.Goals as goal

pub returns : goal.returns
returns c = search handed
