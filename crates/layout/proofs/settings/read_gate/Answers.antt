use Rattle.std.proofs.Common.{rules}
use Rattle.layout.specs.Settings.{read_gate}
use Rattle.layout.proofs.settings.read_gate.Goals as goal

pub returns : goal.returns
unfolding read_gate
returns c = search rules
