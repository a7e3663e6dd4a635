-- What goes unanswered.
use mathlib.Core.Bool.{false, false≢true}
use mathlib.Core.Path.{◌≡◌, refl, sym}
use borrow.Author.Tests.{not-false}
use Rattle.command.specs.declared.Command.TheVariants.{HardReset}
use Rattle.command.specs.Role.{role_of, is_reset}
use Rattle.command.proofs.Roles.{only_reset}
use Rattle.message.specs.declared.Message.{Message}
use Rattle.message.specs.declared.Message.TheVariants.{Intact, Other, Spoilt}
use Rattle.message.specs.Message.{is_answered}

-- only an intact Hard Reset goes unanswered
pub unanswered : (h : Message) → is_answered h ≡ false → h ≡ Intact HardReset
unanswered (Intact c) e = cc (only_reset c (not-false (is_reset (role_of c)) e))
unanswered Other e = absurd (false≢true (sym e))
unanswered Spoilt e = absurd (false≢true (sym e))

pub reset_unanswered : is_answered (Intact HardReset) ≡ false
reset_unanswered = refl
