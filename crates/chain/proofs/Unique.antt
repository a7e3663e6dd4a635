-- A second result that meets a contract is equal to the first. The contract of `deliver` is read off its clauses.
use mathlib.Core.Path.{◌≡◌, refl, sym, ap, ◌∙◌}
use seplogic.Ra.Ura.{Ura}
use prog.Memory.{Memory}
use prog.Routine.{Routine}
use base.Logic.{SProp}
use types.Logic.{Logic}
use contract.Lifetimes.{Lfts}
use contract.Monad.{Fun, fact}
use denote.Triple.Entry.{Args, Res}
use denote.Triple.Clauses.{AtExit}
use Rattle.wire.specs.Promise.{Lending}
use Rattle.survey.specs.Delivery.{Lent, deliver_of, delivery_number}
use Rattle.chain.specs.contracts.deliver as deliver

module _ (κs : Lfts (deliver.ended).signature.lifetimes) (a : Args (deliver.ended).signature κs) where
  -- what the contract says of the result r and the parameters e at exit
  abbrev pub Post : Res (deliver.ended).signature κs → AtExit deliver.ended κs → Type 0
  Post r e =
      Lending delivery_number r (record { nodes = e.0.now; reply = e.1.1.1.0.now }) (deliver_of a.0.now a.1.0 a.1.1.0.now a.1.1.1.0.now)

  pub deliver_reads : {M : Type 1} {𝓤 : Ura M} (𝓛 : Logic 𝓤) (mem : Memory → SProp 𝓤) (run : Routine → Fun 𝓤)
      (g : (deliver.clauses 𝓛 mem run κs a).ghost) (r : Res (deliver.ended).signature κs) (e : AtExit deliver.ended κs)
      → (deliver.clauses 𝓛 mem run κs a).ensures g r e ≡ fact 𝓤 (Post r e)
  deliver_reads 𝓛 mem run g r e = refl

  -- the answer, the table's nodes, and what the reply buffer holds
  pub deliver_unique : (r r' : Res (deliver.ended).signature κs) (e e' : AtExit deliver.ended κs) → Post r e → Post r' e'
      → (r ≡ r') × (e.0.now ≡ e'.0.now) × (e.1.1.1.0.now ≡ e'.1.1.1.0.now)
  deliver_unique r r' e e' p q =
      let k = p.leaves ∙ sym q.leaves in
      (p.answer ∙ sym q.answer, ap (λ (l : Lent). l.nodes) k, ap (λ (l : Lent). l.reply) k)
