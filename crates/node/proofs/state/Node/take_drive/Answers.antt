-- Each part by the packet.
use Rattle.node.proofs.Acting.{drive_taken}
use Rattle.node.proofs.state.Node.take_drive.Goals as goal

pub returns : goal.returns
returns c = search drive_taken
