-- Each arm's number is that of one row, and the last arm's of none.
use Rattle.codec.proofs.Driven.{own_reset, own_loaded, own_started, own_gained, own_stopped, own_none}
use Rattle.codec.proofs.own.drive_own.Goals as goal

pub returns-in-0 : goal.returns-in-0
returns-in-0 c = search own_reset

pub returns-in-4 : goal.returns-in-4
returns-in-4 c = search own_loaded

pub returns-in-5 : goal.returns-in-5
returns-in-5 c = search own_started

pub returns-in-6 : goal.returns-in-6
returns-in-6 c = search own_gained

pub returns-in-7 : goal.returns-in-7
returns-in-7 c = search own_stopped

pub returns-in_default : goal.returns-in_default
returns-in_default c = search own_none
