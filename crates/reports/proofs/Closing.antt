-- An exchange of the walk is one while it goes on.
use Prim.Native.Nat.{◌+◌, ◌<◌}
use mathlib.Core.Bool.{Bool, true, ◌&&◌, false≢true}
use mathlib.Core.Path.{◌≡◌, sym, ◌∙◌}
use lib.Dec.{ltb, eqb}
use borrow.Author.Tests.{ltb-true}
use Rattle.wire.proofs.Choice.{both}
use Rattle.wire.specs.declared.address.Address.{Address}
use Rattle.wire.specs.declared.address.Address.TheVariants as address
use Rattle.command.specs.declared.Command.{Command}
use Rattle.command.specs.Role.{role_of, is_placing, is_nop}
use Rattle.session.specs.declared.Session.{Session}
use Rattle.session.specs.Session.{is_ask_due}
use Rattle.reports.specs.Report.{is_on_walk, is_giving, is_asking}

on_walks : (s : Session) (to : Address) → is_on_walk s to ≡ true → s.walk < s.n
on_walks s (address.Individual i) h = ltb-true s.walk s.n (both (ltb s.walk s.n) (eqb i.0 (s.walk + 1)) h).0
on_walks s (address.Group g) h = absurd (false≢true h)

pub giving_walks : (b : Bool) (s : Session) (to : Address) (c : Command) → b ≡ is_giving s to c → b ≡ true → s.walk < s.n
unfolding is_giving
giving_walks b s to c p q = on_walks s to (both (is_on_walk s to) (is_placing (role_of c)) (sym p ∙ q)).0

pub asking_walks : (b : Bool) (s : Session) (to : Address) (c : Command) → b ≡ is_asking s to c → b ≡ true → s.walk < s.n
unfolding is_asking
asking_walks b s to c p q = on_walks s to (both (is_on_walk s to) (is_nop (role_of c)) (both (is_on_walk s to && is_nop (role_of c)) (is_ask_due s) (sym p ∙ q)).0).0
