-- Header, bytes and sum, one behind the other.
use Rattle.sheet.proofs.Imports.{packet_put}
use Rattle.sheet.proofs.importing.put_packet.Goals as goal

pub returns : goal.returns
returns c = search packet_put
