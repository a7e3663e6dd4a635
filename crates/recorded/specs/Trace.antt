-- What a recorder captures of demand 3's course of events since the last power-up: "the recording begins at power-up".
use Rattle.std.specs.Prelude.{ℕ, false, List, [], ◌∷◌, ◌++◌, ◌≡◌, length, take, Result, Ok, Err, Some, None}
use Rattle.session.specs.Session.{End}
use Rattle.wire.specs.declared.refusal.Refusal.{Refusal}
use Rattle.std.proofs.Math.Option.{Option, none, some}
use Rattle.wire.specs.declared.kind.Kind.{Kind}
use Rattle.node.specs.Effect.{divisor_up}
use Rattle.calls.specs.declared.Call.{Call}
use Rattle.calls.specs.Calls.{call_perform, sets_rate}
use Rattle.capture.specs.Traces.{Traced, commanded, replied}
use Rattle.line.specs.World.{World, Comes, start, power, unpowered, call, deliver, report, hurry, delay, stray, bench}

-- on the command line, what a call puts there
abbrev pub call_trace : End → List ℕ → List Traced
call_trace (Ok (Some n)) left = commanded (take n left) ∷ []
call_trace (Ok None) left = []
call_trace (Err why) left = []

-- on the reply line, what comes back, if any byte does
abbrev pub reply_trace : Option (List ℕ) → List Traced
reply_trace none = []
reply_trace (some []) = []
reply_trace (some (b ∷ bs)) = replied (b ∷ bs) ∷ []

-- the packets captured, the oldest first. A reply "is reported as it came", so none is on the line once silence was reported; a report for which nothing came leaves no trace
abbrev pub trace : {w : World} → Comes w → List Traced
trace (start ns) = []
trace (power c ds ks t e) = []
trace (unpowered c n ks why e) = trace c
trace (call {w = w} c k typed at out) = trace c ++ call_trace (call_perform k w.host at out).answer.end (call_perform k w.host at out).left
trace (deliver c what at p e q r a b) = trace c ++ reply_trace r
trace (report c what at r e) = trace c
trace (hurry c what at p e r n) = trace c
trace (delay c what at p e q a) = trace c
trace (stray c r why e) = trace c
trace (bench c i b p) = trace c

-- the node count of the last power-up
abbrev pub told : {w : World} → Comes w → ℕ
told (start ns) = 0
told (power c ds ks t e) = length ds
told (unpowered c n ks why e) = told c
told (call c k typed at out) = told c
told (deliver c what at p e q r a b) = told c
told (report c what at r e) = told c
told (hurry c what at p e r n) = told c
told (delay c what at p e q a) = told c
told (stray c r why e) = told c
told (bench c i b p) = told c

-- and the kinds that were told then
abbrev pub told_kinds : {w : World} → Comes w → List Kind
told_kinds (start ns) = []
told_kinds (power c ds ks t e) = ks
told_kinds (unpowered c n ks why e) = told_kinds c
told_kinds (call c k typed at out) = told_kinds c
told_kinds (deliver c what at p e q r a b) = told_kinds c
told_kinds (report c what at r e) = told_kinds c
told_kinds (hurry c what at p e r n) = told_kinds c
told_kinds (delay c what at p e q a) = told_kinds c
told_kinds (stray c r why e) = told_kinds c
told_kinds (bench c i b p) = told_kinds c

-- document 02, request 7: a recording's walk takes every command as sent at power-up's divisor, and a Set Baud Rate ends it. What a call sent went so, and was none
abbrev pub sent_at_up : End → Call → ℕ → Type 0
sent_at_up (Ok (Some n)) k at = (at ≡ divisor_up) × (sets_rate k ≡ false)
sent_at_up (Ok None) k at = Unit {0}
sent_at_up (Err why) k at = Unit {0}

-- and so did all since the last power-up
abbrev pub AtUp : {w : World} → Comes w → Type 0
AtUp (start ns) = Unit {0}
AtUp (power c ds ks t e) = Unit {0}
AtUp (unpowered c n ks why e) = AtUp c
AtUp (call {w = w} c k typed at out) = AtUp c × sent_at_up (call_perform k w.host at out).answer.end k at
AtUp (deliver c what at p e q r a b) = AtUp c
AtUp (report c what at r e) = AtUp c
AtUp (hurry c what at p e r n) = AtUp c
AtUp (delay c what at p e q a) = AtUp c
AtUp (stray c r why e) = AtUp c
AtUp (bench c i b p) = AtUp c
