-- One law for each exit of `due`: which line has the earlier packet.
use Prim.Native.Nat.{ℕ, ◌≤◌, ◌<◌}
use mathlib.Core.Path.{◌≡◌}
use mathlib.Core.List.{List}
use lib.ListN.{length, get_or, drop_of_length-le}
use lib.Seq.{drop-cons}
use borrow.Author.Tests.{le-leb, lt-leb}
use denote.Ref.{Bor}
use Rattle.std.specs.Prelude.{Some, None}
use Rattle.std.specs.Slice.{IsItemAt}
use Rattle.capture.specs.Steps.{due_of}
use Rattle.capture.specs.declared.Cursor.{Cursor}
use Rattle.capture.specs.declared.Line.TheVariants.{Command, Reply}

module _ (cts rts : List ℕ) (at : Cursor) where
  -- by the times themselves
  command_at : at.command < length cts → at.reply < length rts → get_or cts at.command 0 ≤ get_or rts at.reply 0 → Some Command ≡ due_of cts rts at
  unfolding due_of
  command_at hi hj h = rw (drop-cons cts at.command 0 hi, drop-cons rts at.reply 0 hj, le-leb _ _ h)

  reply_at : at.command < length cts → at.reply < length rts → get_or rts at.reply 0 < get_or cts at.command 0 → Some Reply ≡ due_of cts rts at
  unfolding due_of
  reply_at hi hj h = rw (drop-cons cts at.command 0 hi, drop-cons rts at.reply 0 hj, lt-leb _ _ h)

  command_left : at.command < length cts → length rts ≤ at.reply → Some Command ≡ due_of cts rts at
  unfolding due_of
  command_left hi hj = rw (drop-cons cts at.command 0 hi, drop_of_length-le rts hj)

  reply_left : length cts ≤ at.command → at.reply < length rts → Some Reply ≡ due_of cts rts at
  unfolding due_of
  reply_left hi hj = rw (drop_of_length-le cts hi, drop-cons rts at.reply 0 hj)

  nothing_left : length cts ≤ at.command → length rts ≤ at.reply → None ≡ due_of cts rts at
  unfolding due_of
  nothing_left hi hj = rw (drop_of_length-le cts hi, drop_of_length-le rts hj)

  -- by what the slices give at the cursor
  pub command_first : (t u : Bor ℕ) → IsItemAt cts at.command (Some t) → IsItemAt rts at.reply (Some u) → t.now ≤ u.now → Some Command ≡ due_of cts rts at
  command_first t u a b h = command_at a.3.0 b.3.0 (rw (← a.3.1 0, ← b.3.1 0) h)

  pub reply_first : (t u : Bor ℕ) → IsItemAt cts at.command (Some t) → IsItemAt rts at.reply (Some u) → u.now < t.now → Some Reply ≡ due_of cts rts at
  reply_first t u a b h = reply_at a.3.0 b.3.0 (rw (← a.3.1 0, ← b.3.1 0) h)

  pub command_alone : (t : Bor ℕ) → IsItemAt cts at.command (Some t) → IsItemAt {X = ℕ} rts at.reply None → Some Command ≡ due_of cts rts at
  command_alone t a b = command_left a.3.0 b.3

  pub reply_alone : (u : Bor ℕ) → IsItemAt {X = ℕ} cts at.command None → IsItemAt rts at.reply (Some u) → Some Reply ≡ due_of cts rts at
  reply_alone u a b = reply_left a.3 b.3.0

  pub none_left : IsItemAt {X = ℕ} cts at.command None → IsItemAt {X = ℕ} rts at.reply None → None ≡ due_of cts rts at
  none_left a b = nothing_left a.3 b.3
