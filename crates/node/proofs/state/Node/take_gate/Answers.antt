-- Each part by the packet.
use Rattle.node.proofs.Acting.{gate_taken}
use Rattle.node.proofs.state.Node.take_gate.Goals as goal

pub returns : goal.returns
returns c = search gate_taken
