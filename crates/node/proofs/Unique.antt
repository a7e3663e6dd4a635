-- A second result that meets a contract is equal to the first, for each public function.
use mathlib.Core.Path.{sym, ◌∙◌}
use mir.Syntax.{Dict}
use denote.RattleType.{RattleType}
use denote.Param.Laws.{Laws, IsCopy}
use Rattle.std.specs.declared.clone.Clone.{Ghosts}
use Rattle.wire.proofs.OneResult.{OneResult}
use Rattle.node.proofs.choice.pick.Reads as pick
use Rattle.node.proofs.state.Bench.blank.Reads as bench-blank
use Rattle.node.proofs.state.Node.power_up.Reads as node-power-up
use Rattle.node.proofs.state.Node.take.Reads as take
use Rattle.node.proofs.state.Node.take_gate.Reads as take-gate
use Rattle.node.proofs.state.Node.take_drive.Reads as take-drive
use Rattle.node.proofs.state.Node.mask_after.Reads as mask-after
use Rattle.node.proofs.state.Node.shown.Reads as shown
use Rattle.node.proofs.gate.GateSettings.power_up.Reads as gate-power-up
use Rattle.node.proofs.drive.DriveSettings.power_up.Reads as drive-power-up
use Rattle.node.proofs.state.Settings.power_up.Reads as settings-power-up
use Rattle.node.proofs.state.Settings.after.Reads as after

pub bench_blank_unique : OneResult bench-blank.Post
bench_blank_unique κs a r r' s s' p q = p ∙ sym q

pub node_power_up_unique : OneResult node-power-up.Post
node_power_up_unique κs a r r' s s' p q = p ∙ sym q

pub take_unique : OneResult take.Post
take_unique κs a r r' s s' p q = p ∙ sym q

pub settings_power_up_unique : OneResult settings-power-up.Post
settings_power_up_unique κs a r r' s s' p q = p ∙ sym q

pub after_unique : OneResult after.Post
after_unique κs a r r' s s' p q = p ∙ sym q

pub take_gate_unique : OneResult take-gate.Post
take_gate_unique κs a r r' s s' p q = p ∙ sym q

pub take_drive_unique : OneResult take-drive.Post
take_drive_unique κs a r r' s s' p q = p ∙ sym q

pub mask_after_unique : OneResult mask-after.Post
mask_after_unique κs a r r' s s' p q = p ∙ sym q

pub shown_unique : OneResult shown.Post
shown_unique κs a r r' s s' p q = p ∙ sym q

pub gate_power_up_unique : OneResult gate-power-up.Post
gate_power_up_unique κs a r r' s s' p q = p ∙ sym q

pub drive_power_up_unique : OneResult drive-power-up.Post
drive_power_up_unique κs a r r' s s' p q = p ∙ sym q

-- at every type that can be copied
pub pick_unique : (T : RattleType) (L : Laws T) (C : IsCopy T) (G : Ghosts T.Denot) (d : Dict) → OneResult (pick.Post T L C G d)
pick_unique T L C G d κs a r r' s s' p q = p ∙ sym q
