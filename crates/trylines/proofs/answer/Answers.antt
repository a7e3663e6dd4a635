-- By the first byte.
use Rattle.trylines.proofs.Tries.{answers_build, answers_read, answers_status, answers_deliver, answers_import, answers_export, answers_import_copied, answers_export_copied, answers_none}
use Rattle.trylines.proofs.answer.Goals as goal

pub returns-in-16 : goal.returns-in-16
returns-in-16 c = search answers_build

pub returns-in-17 : goal.returns-in-17
returns-in-17 c = search answers_read

pub returns-in-18 : goal.returns-in-18
returns-in-18 c = search answers_status

pub returns-in-32 : goal.returns-in-32
returns-in-32 c = search answers_deliver

pub returns-in-64 : goal.returns-in-64
returns-in-64 c = search answers_import

pub returns-in-65 : goal.returns-in-65
returns-in-65 c = search answers_export

pub returns-in-66 : goal.returns-in-66
returns-in-66 c = search answers_import_copied

pub returns-in-67 : goal.returns-in-67
returns-in-67 c = search answers_export_copied

pub returns-in_default : goal.returns-in_default
returns-in_default c = search answers_none
