-- Each arm gives the command byte of its command.
use Rattle.codec.specs.Build.{gain_data}
use Rattle.codec.proofs.Filling.{head_told, load_head, stop_head}
use Rattle.codec.proofs.building.command_head.Goals as goal

pub returns-in-LoadTrajectory : goal.returns-in-LoadTrajectory
unfolding gain_data
returns-in-LoadTrajectory c = search load_head

pub returns-in-SetGain : goal.returns-in-SetGain
unfolding gain_data
returns-in-SetGain c = search head_told

pub returns-in-StopMotor : goal.returns-in-StopMotor
unfolding gain_data
returns-in-StopMotor c = search stop_head
