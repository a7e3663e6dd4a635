-- What a caller wants of each answer of `step`: what was shown, that `packet_at` is it, that the walk goes down, and that it ends at the end.
use Prim.Native.Nat.{ℕ, ◌+◌, ◌≤◌, ◌<◌}
use native.Mathlib.Omega.{arith}
use mathlib.Core.Path.{◌≡◌, refl, sym, ap, subst, ◌∙◌}
use mathlib.Core.List.{List, [], ◌∷◌}
use lib.ListN.{length}
use denote.Ref.{Bor}
use Rattle.wire.specs.Part.{Part}
use Rattle.capture.specs.Steps.{by_line, due_of, capture_step, sent, got, left_at, packet_from, recorded_by, bytes_left, capture_by, start_by, bytes_by}
use Rattle.capture.specs.declared.Cursor.{Cursor}
use Rattle.capture.specs.declared.Line.{Line}
use Rattle.capture.specs.declared.Line.TheVariants.{Command, Reply}
use Rattle.capture.specs.declared.Stepped.{Stepped}
use Rattle.std.specs.Prelude.{Option, Some, None}
use Rattle.capture.proofs.Walking.{step_shows, Progress, step_moves, Behind, step_behind, packet_length}

module _ (cts rts : List ℕ) (at : Cursor) (s : Option Stepped) where
  progress_of : (x : Option Stepped) → s ≡ capture_step cts rts at → s ≡ x → Progress cts rts at x
  progress_of x e f = subst (Progress cts rts at) (sym e ∙ f) (step_moves cts rts at)

  pub down_command : (next : Cursor) → s ≡ capture_step cts rts at → s ≡ Some (record { line = Command; behind = next }) → bytes_left cts rts next < bytes_left cts rts at
  down_command next e f =
      let p : Progress cts rts at (Some (record { line = Command; behind = next })) = progress_of (Some (record { line = Command; behind = next })) e f in
      omega (arith, p.0, p.1, p.2)

  pub down_reply : (next : Cursor) → s ≡ capture_step cts rts at → s ≡ Some (record { line = Reply; behind = next }) → bytes_left cts rts next < bytes_left cts rts at
  down_reply next e f =
      let p : Progress cts rts at (Some (record { line = Reply; behind = next })) = progress_of (Some (record { line = Reply; behind = next })) e f in
      omega (arith, p.0, p.1, p.2)

  pub all_command : s ≡ capture_step cts rts at → s ≡ None → length cts ≤ at.command
  all_command e f = (progress_of None e f).0

  pub all_reply : s ≡ capture_step cts rts at → s ≡ None → length rts ≤ at.reply
  all_reply e f = (progress_of None e f).1

module _ (cs cts rs rts : List ℕ) (at : Cursor) (s : Option Stepped) (h : length cts ≡ length cs) (k : length rts ≡ length rs) where
  shows : (x : Option Stepped) → s ≡ capture_step cts rts at → s ≡ x → left_at cs cts rs rts at ≡ recorded_by cs cts rs rts at x
  shows x e f = step_shows cs cts rs rts at h k ∙ ap (recorded_by cs cts rs rts at) (sym e ∙ f)

  pub shows_command : (next : Cursor) → s ≡ capture_step cts rts at → s ≡ Some (record { line = Command; behind = next })
      → left_at cs cts rs rts at ≡ sent (packet_from cs cts at.command) ∷ left_at cs cts rs rts next
  shows_command next e f = shows (Some (record { line = Command; behind = next })) e f

  pub shows_reply : (next : Cursor) → s ≡ capture_step cts rts at → s ≡ Some (record { line = Reply; behind = next })
      → left_at cs cts rs rts at ≡ got (packet_from rs rts at.reply) ∷ left_at cs cts rs rts next
  shows_reply next e f = shows (Some (record { line = Reply; behind = next })) e f

  pub shows_none : s ≡ capture_step cts rts at → s ≡ None → left_at cs cts rs rts at ≡ []
  shows_none e f = shows None e f

-- the cursor behind a packet is as many bytes further on
module _ (cs cts rs rts : List ℕ) (at : Cursor) (s : Option Stepped) where
  behind_of : (x : Option Stepped) → s ≡ capture_step cts rts at → s ≡ x → Behind cts rts at x
  behind_of x e f = subst (Behind cts rts at) (sym e ∙ f) (step_behind cts rts at)

  pub past_command_lem : (next : Cursor) → length cts ≡ length cs → s ≡ capture_step cts rts at → s ≡ Some (record { line = Command; behind = next })
      → next ≡ record { command = at.command + length (packet_from cs cts at.command).bytes; reply = at.reply }
  past_command_lem next h e f =
      let p : Progress cts rts at (Some (record { line = Command; behind = next })) = progress_of cts rts at s (Some (record { line = Command; behind = next })) e f in
      behind_of (Some (record { line = Command; behind = next })) e f ∙ ap (λ (n : ℕ). record { command = n; reply = at.reply }) (packet_length cs cts at.command h (omega (arith, p.0, p.1)))

  pub past_reply_lem : (next : Cursor) → length rts ≡ length rs → s ≡ capture_step cts rts at → s ≡ Some (record { line = Reply; behind = next })
      → next ≡ record { command = at.command; reply = at.reply + length (packet_from rs rts at.reply).bytes }
  past_reply_lem next h e f =
      let p : Progress cts rts at (Some (record { line = Reply; behind = next })) = progress_of cts rts at s (Some (record { line = Reply; behind = next })) e f in
      behind_of (Some (record { line = Reply; behind = next })) e f ∙ ap (λ (n : ℕ). record { command = at.command; reply = n }) (packet_length rs rts at.reply h (omega (arith, p.0, p.1)))

-- x is the packet of a step of the line l, and of the step at a cursor: what `packet_at` promises
abbrev pub part_by : Bor (List ℕ) → List ℕ → Bor (List ℕ) → List ℕ → Cursor → Bor (List ℕ) → Option Line → Type 0
part_by c cts r rts at x l = Part (capture_by l c r) (start_by l at) (bytes_by c.now cts r.now rts at l) x

abbrev pub PacketAt : Bor (List ℕ) → List ℕ → Bor (List ℕ) → List ℕ → Cursor → Bor (List ℕ) → Type 0
PacketAt c cts r rts at x = part_by c cts r rts at x (due_of cts rts at)

-- ---- `packet_at` hands back what `step` shows: the part of that line's capture that starts at the cursor's own byte
abbrev line_of : Option Stepped → Option Line
line_of (Some s) = Some s.line
line_of None = None

line_by : (l : Option Line) (x y : Cursor) → l ≡ line_of (by_line l (Some (record { line = Command; behind = x })) (Some (record { line = Reply; behind = y })) None)
line_by (Some Command) x y = refl
line_by (Some Reply) x y = refl
line_by None x y = refl

module _ (c r : Bor (List ℕ)) (cts rts : List ℕ) (at : Cursor) (s : Option Stepped) (x : Bor (List ℕ)) where
  part_of : (y : Option Stepped) → s ≡ capture_step cts rts at → s ≡ y → PacketAt c cts r rts at x → part_by c cts r rts at x (line_of y)
  unfolding capture_step
  part_of y e f p = subst (part_by c cts r rts at x) (line_by (due_of cts rts at) _ _ ∙ ap line_of (sym e ∙ f)) p

  pub packet_command : (next : Cursor) → s ≡ capture_step cts rts at → s ≡ Some (record { line = Command; behind = next }) → PacketAt c cts r rts at x
      → Part c at.command (packet_from c.now cts at.command).bytes x
  packet_command next e f p = part_of (Some (record { line = Command; behind = next })) e f p

  pub packet_reply : (next : Cursor) → s ≡ capture_step cts rts at → s ≡ Some (record { line = Reply; behind = next }) → PacketAt c cts r rts at x
      → Part r at.reply (packet_from r.now rts at.reply).bytes x
  packet_reply next e f p = part_of (Some (record { line = Reply; behind = next })) e f p
