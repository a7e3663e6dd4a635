-- What the replies of the examples count as; and rows joined, one after the other.
use mathlib.Core.List.{[], ◌∷◌}
use mathlib.Core.Path.{◌≡◌, refl, ap, ◌∙◌}
use Rattle.buffer.specs.Sum.{total, ends_in_sum}
use Rattle.status.specs.Status.{judge_of}
use Rattle.status.specs.declared.Answer.TheVariants as answer
use Rattle.session.specs.declared.Session.{Session}
use Rattle.reports.specs.Report.{finish_of, report_of}
use Rattle.reports.proofs.Concluding.{report_is}

good : judge_of (0x00 ∷ 0x00 ∷ []) ≡ answer.Clear
unfolding total ends_in_sum judge_of
good = refl

bad : judge_of (0x02 ∷ 0x02 ∷ []) ≡ answer.Marked
unfolding total ends_in_sum judge_of
bad = refl

wrong : judge_of (0x02 ∷ 0x03 ∷ []) ≡ answer.Silent
unfolding total ends_in_sum judge_of
wrong = refl

pub clear : (s : Session) → report_of s (0x00 ∷ 0x00 ∷ []) ≡ finish_of s answer.Clear
clear s = report_is s _ ∙ ap (finish_of s) good

pub marked : (s : Session) → report_of s (0x02 ∷ 0x02 ∷ []) ≡ finish_of s answer.Marked
marked s = report_is s _ ∙ ap (finish_of s) bad

pub spoilt : (s : Session) → report_of s (0x02 ∷ 0x03 ∷ []) ≡ finish_of s answer.Silent
spoilt s = report_is s _ ∙ ap (finish_of s) wrong

infixr 3 ◌and◌
pub ◌and◌ : {A B : Type 0} → A → B → A × B
◌and◌ a b = (a, b)
