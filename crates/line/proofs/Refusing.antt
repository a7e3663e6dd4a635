-- Refused power-ups, calls and reports leave the session as it was.
use Prim.Native.Nat.{ℕ}
use Rattle.std.specs.Prelude.{Err}
use mathlib.Core.List.{List}
use mathlib.Core.Option.{Option, none, some}
use mathlib.Core.Path.{◌≡◌, sym, ap, ◌∙◌}
use Rattle.wire.specs.Numbers.{done, number_by}
use Rattle.wire.specs.declared.kind.Kind.{Kind}
use Rattle.wire.specs.declared.refusal.Refusal.{Refusal}
use Rattle.wire.proofs.Numbers.{not_done}
use Rattle.status.specs.declared.Answer.TheVariants.{Silent}
use Rattle.session.specs.declared.Session.{Session}
use Rattle.session.specs.declared.Step.{Step}
use Rattle.session.specs.Session.{step_number}
use Rattle.start.specs.Start.{start_power_up}
use Rattle.start.proofs.Starting.{power_up_stays}
use Rattle.reports.proofs.Validity.{finished_stays, report_stays}
use Rattle.calls.specs.declared.Call.{Call}
use Rattle.calls.specs.Calls.{call_perform}
use Rattle.calls.proofs.Standing.{call_stays}
use Rattle.line.specs.Line.{reported_of}

refused_not_done : (t : Step) (why : Refusal) → t.end ≡ Err why → step_number t ≡ done → ⊥
refused_not_done t why e f = not_done why (sym (ap number_by e) ∙ f)

pub refused_power : (s : Session) (n : ℕ) (ks : List Kind) (why : Refusal) → (start_power_up s n ks).end ≡ Err why → (start_power_up s n ks).session ≡ s
refused_power s n ks why e = power_up_stays s n ks (refused_not_done (start_power_up s n ks) why e)

pub refused_call : (k : Call) (s : Session) (v : ℕ) (out : List ℕ) (why : Refusal) → (call_perform k s v out).answer.end ≡ Err why → (call_perform k s v out).answer.session ≡ s
refused_call k s v out why e = call_stays k s v out (refused_not_done (call_perform k s v out).answer why e)

pub refused_report : (s : Session) (r : Option (List ℕ)) (why : Refusal) → (reported_of s r).end ≡ Err why → (reported_of s r).session ≡ s
refused_report s none why e = finished_stays s Silent (refused_not_done (reported_of s none) why e)
refused_report s (some bytes) why e = report_stays s bytes (refused_not_done (reported_of s (some bytes)) why e)
