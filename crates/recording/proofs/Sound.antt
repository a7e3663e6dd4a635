-- What a recording is that passes the checks.
use Prim.Native.Nat.{ℕ}
use mathlib.Core.List.{List}
use mathlib.Core.Path.{◌≡◌}
use Rattle.wire.proofs.Impossible.{impossible}
use Rattle.wire.specs.declared.kind.Kind.{Kind}
use Rattle.start.specs.Start.{fresh_of, start_power_up}
use Rattle.capture.specs.Checks.{check_of}
use Rattle.std.specs.Prelude.{Result, Ok, Err}
use Rattle.wire.specs.declared.refusal.Refusal.{Refusal}
use Rattle.capture.proofs.Meaning.{Sound}
use Rattle.capture.proofs.Meaning as captured
use Rattle.recording.specs.Recording.{count_check, then_check, recording_check}

then_good : (a b : Result (Unit {0}) Refusal) → then_check a b ≡ Ok tt → b ≡ Ok tt
then_good (Ok u) b e = e
then_good (Err why) b e = impossible cc

-- times and bytes are as many, and no time is less than the one before
pub good_sound : (n : ℕ) (ks : List Kind) (cs cts rs rts : List ℕ) → recording_check n ks cs cts rs rts ≡ Ok tt → Sound cs cts rs rts
unfolding recording_check
good_sound n ks cs cts rs rts e = captured.good_sound cs cts rs rts (then_good (count_check (start_power_up fresh_of n ks).end) (check_of cs cts rs rts) e)
