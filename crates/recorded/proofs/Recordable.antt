-- What a recorder captures of a course can be laid with gaps as they are asked for, since no packet is empty.
use Prim.Native.Nat.{ℕ, ◌≤◌}
use Rattle.wire.specs.declared.refusal.Refusal.{Refusal}
use Rattle.std.specs.Prelude.{Result, Ok, Err, Some, None, ℕ}
use Rattle.wire.specs.Numbers.{number_by}
use native.Mathlib.Omega.{arith}
use mathlib.Core.List.{List, [], ◌∷◌, ◌++◌}
use mathlib.Core.Option.{Option, none, some}
use mathlib.Core.Path.{◌≡◌, refl, ap, sym, ◌∙◌}
use lib.ListN.{length, take, drop}
use lib.Seq.{take_at}
use Rattle.wire.specs.Promise.{Outcome}
use Rattle.codec.specs.Build.{packet_for}
use Rattle.session.specs.declared.Session.{Session}
use Rattle.session.specs.Session.{End}
use Rattle.session.specs.declared.Step.{Step}
use Rattle.calls.specs.Calls.{call_perform}
use Rattle.calls.specs.declared.Call.{Call}
use Rattle.calls.proofs.Standing.{call_went}
use Rattle.capture.specs.Traces.{Traced}
use Rattle.capture.specs.Laying.{NoneEmpty}
use Rattle.capture.proofs.Laying.{can_be_laid}
use Rattle.line.specs.World.{World, Comes, start, power, unpowered, call, deliver, report, hurry, delay, stray, bench}
use Rattle.recorded.specs.Trace.{call_trace, reply_trace, trace}
use Rattle.recorded.specs.Walks.{Recordable}

both_full : (xs ys : List Traced) → NoneEmpty xs → NoneEmpty ys → NoneEmpty (xs ++ ys)
both_full [] ys f g = g
both_full (x ∷ xs) ys f g = (f.0, both_full xs ys f.1 g)

-- a packet that was sent is the command's own
sent_count : {n m : ℕ} → ◌≡◌ {A = End} (Ok (Some n)) (Ok (Some m)) → n ≡ m
sent_count e = cc

packet_full : (k : Call) (s : Session) (at : ℕ) (out : List ℕ) (n : ℕ) → (call_perform k s at out).answer.end ≡ Ok (Some n) → 1 ≤ length (take n (call_perform k s at out).left)
packet_full k s at out n e =
    let w = call_went k s at out (ap number_by e) in
    let p = packet_for w.called w.command in
    let m : length p ≡ n = sent_count (sym (ap (λ (o : Outcome Step (List ℕ)). o.answer.end) w.result) ∙ e) in
    let q : take n (call_perform k s at out).left ≡ p = ap (λ (o : Outcome Step (List ℕ)). take n o.left) w.result ∙ take_at p (drop (length p) out) n m in
    rw q (omega arith)

call_full : (k : Call) (s : Session) (at : ℕ) (out : List ℕ) (e : End) → (call_perform k s at out).answer.end ≡ e → NoneEmpty (call_trace e (call_perform k s at out).left)
call_full k s at out (Ok (Some n)) e = (packet_full k s at out n e, tt)
call_full k s at out (Ok None) e = tt
call_full k s at out (Err why) e = tt

reply_full : (r : Option (List ℕ)) → NoneEmpty (reply_trace r)
reply_full none = tt
reply_full (some []) = tt
reply_full (some (b ∷ bs)) = (omega arith, tt)

trace_full : {w : World} (c : Comes w) → NoneEmpty (trace c)
trace_full (start ns) = tt
trace_full (power c ds ks t e) = tt
trace_full (unpowered c n ks why e) = trace_full c
trace_full (call {w = w} c k typed at out) = both_full (trace c) _ (trace_full c) (call_full k w.host at out (call_perform k w.host at out).answer.end refl)
trace_full (deliver c what at p e q r a b) = both_full (trace c) (reply_trace r) (trace_full c) (reply_full r)
trace_full (report c what at r e) = trace_full c
trace_full (hurry c what at p e r n) = trace_full c
trace_full (delay c what at p e q a) = trace_full c
trace_full (stray c r why e) = trace_full c
trace_full (bench c i b p) = trace_full c

pub recordable : Recordable
recordable w c = can_be_laid (trace c) (trace_full c)
