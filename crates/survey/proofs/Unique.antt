-- A second result that meets a contract is equal to the first, for each public function.
use Rattle.std.proofs.Common.{◌≡◌, ℕ, List, sym, ap, ◌∙◌}
use Rattle.wire.specs.Promise.{Outcome}
use Rattle.wire.proofs.OneResult.{OneResult}
use Rattle.survey.specs.declared.decision.Decided.{Decided}
use Rattle.survey.proofs.sets.first.Reads as first
use Rattle.survey.proofs.sets.without_first.Reads as without-first
use Rattle.survey.proofs.plan.receive.Reads as receive
use Rattle.survey.proofs.plan.glance.Reads as glance
use Rattle.survey.proofs.plan.plan_for.Reads as plan-for
use Rattle.survey.proofs.plan.plan_of.Reads as plan-of
use Rattle.survey.proofs.plan.speaker.Reads as speaker
use Rattle.survey.proofs.decision.Delivery.number.Reads as delivery-number
use Rattle.survey.proofs.decision.decide.Reads as decide

pub first_unique : OneResult first.Post
first_unique κs a r r' s s' p q = p ∙ sym q

pub without_first_unique : OneResult without-first.Post
without_first_unique κs a r r' s s' p q = p ∙ sym q

pub receive_unique : OneResult receive.Post
receive_unique κs a r r' s s' p q = p ∙ sym q

pub glance_unique : OneResult glance.Post
glance_unique κs a r r' s s' p q = p ∙ sym q

pub plan_for_unique : OneResult plan-for.Post
plan_for_unique κs a r r' s s' p q = p ∙ sym q

pub plan_of_unique : OneResult plan-of.Post
plan_of_unique κs a r r' s s' p q = p ∙ sym q

pub speaker_unique : OneResult speaker.Post
speaker_unique κs a r r' s s' p q = p ∙ sym q

pub delivery_number_unique : OneResult delivery-number.Post
delivery_number_unique κs a r r' s s' p q = p ∙ sym q

-- what is decided, and what the reply buffer holds
pub decide_unique : (κs : _) (a : _) (r r' : _) (s s' : _) → decide.Post κs a r s → decide.Post κs a r' s'
    → (r ≡ r') × (s.1.0.now ≡ s'.1.0.now)
decide_unique κs a r r' s s' p q =
    let k = p ∙ sym q in
    (ap (λ (o : Outcome Decided (List ℕ)). o.answer) k, ap (λ (o : Outcome Decided (List ℕ)). o.left) k)
