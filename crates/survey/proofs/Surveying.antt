-- A packet as it comes in, by what its frame is found to be.
use Rattle.std.proofs.Common.{◌≡◌, ℕ, ◌<◌, List, length, Result, Err, lt-ltb}
use Rattle.wire.specs.Numbers.{number_by}
use Rattle.wire.specs.Promise.{Promise}
use Rattle.wire.specs.declared.address.Address.{Address}
use Rattle.wire.specs.declared.refusal.Refusal.{Refusal}
use Rattle.wire.specs.declared.refusal.Refusal.TheVariants.{Long}
use Rattle.packet.specs.declared.Framed.{Framed}
use Rattle.packet.specs.Packet.{frame_of, whole}
use Rattle.survey.specs.Delivery.{frame_alone}
use Rattle.survey.specs.Survey.{receive_of}

-- bytes behind its end are 3
pub came_long : (at : ℕ) (p : List ℕ) (f : Result Framed Refusal) → Promise number_by f (frame_of p) → (to : Address) (k n : ℕ) → f ≡ whole to k n → n < length p → Err Long ≡ receive_of at p
unfolding receive_of frame_alone
came_long at p f e to k n q l = rw (← e.answer, q, lt-ltb n (length p) l)
