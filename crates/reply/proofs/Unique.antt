-- A second result that meets a contract is equal to the first, for the public function.
use Rattle.std.proofs.Common.{◌≡◌, sym, ◌∙◌}
use Rattle.reply.proofs.reply.Reads as reply

-- the result, and what the lent buffer holds
pub reply_unique : (κs : _) (a : _) (r r' : _) (s s' : _) → reply.Post κs a r s → reply.Post κs a r' s'
    → (r ≡ r') × (s.1.1.0.now ≡ s'.1.1.0.now)
reply_unique κs a r r' s s' p q = (p.answer ∙ sym q.answer, p.leaves ∙ sym q.leaves)
