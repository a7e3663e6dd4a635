-- Document 01, "The host session", with document 02, request 6: how a session starts.
use Rattle.std.specs.Prelude.{ℕ, true, false, cond, ◌||◌, List, ltb, Ok, None}
use Rattle.wire.specs.Numbers.{most_nodes}
use Rattle.wire.specs.declared.refusal.Refusal.TheVariants.{Range}
use Rattle.wire.specs.declared.kind.Kind.{Kind}
use Rattle.ledger.specs.Ledger.{all_gates, ledger_power_up}
use Rattle.session.specs.declared.Exchange.TheVariants.{Idle}
use Rattle.session.specs.declared.Session.{Session}
use Rattle.session.specs.declared.Step.{Step}
use Rattle.session.specs.Session.{refuse_of}

-- "A fresh session is closed and has no nodes"
abbrev pub fresh_of : Session
fresh_of = record { started = false; n = 0; walk = 0; exchange = Idle; entries = all_gates }

-- "Power-up with n nodes (1 to 31) starts a session, at any time, drops an open exchange and makes all settings known as power-up has them; a bad n gives 6";
-- "Each node gets a kind, told to the host at power-up": node k the k-th of those told
unfoldable pub start_power_up : Session → ℕ → List Kind → Step
start_power_up s n ks =
    cond (ltb n 1 || ltb most_nodes n)
    (refuse_of s Range)
    (record { end = Ok None; session = record { started = true; n = n; walk = 0; exchange = Idle; entries = ledger_power_up n ks } })
