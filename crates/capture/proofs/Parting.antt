-- One law for each exit of `packet` and of `step`.
use Prim.Native.Nat.{ℕ}
use mathlib.Core.Path.{◌≡◌, sym, ◌∙◌}
use mathlib.Core.List.{List}
use denote.Ref.{Bor}
use Rattle.wire.specs.Part.{Part}
use Rattle.capture.specs.Packets.{packet_end, cut_of}
use Rattle.capture.specs.Steps.{due_of, capture_step}
use Rattle.capture.proofs.Steps.{PacketAt}
use Rattle.capture.specs.declared.Cursor.{Cursor}
use Rattle.capture.specs.declared.Line.{Line}
use Rattle.capture.specs.declared.Stepped.{Stepped}
use Rattle.capture.specs.declared.Line.TheVariants.{Command, Reply}
use Rattle.std.specs.Prelude.{Option, Some, None}

module _ (c r : Bor (List ℕ)) (cts rts : List ℕ) (at : Cursor) (x : Bor (List ℕ)) (l : Option Line) (e : l ≡ due_of cts rts at) where
  pub part_command : (line : Line) (end : ℕ) → l ≡ Some line → line ≡ Command → end ≡ packet_end cts at.command
      → Part c at.command (cut_of c.now at.command end) x → PacketAt c cts r rts at x
  part_command line end f g h p = rw (sym e ∙ f, g, ← h) p

  pub part_reply : (line : Line) (end : ℕ) → l ≡ Some line → line ≡ Reply → end ≡ packet_end rts at.reply
      → Part r at.reply (cut_of r.now at.reply end) x → PacketAt c cts r rts at x
  part_reply line end f g h p = rw (sym e ∙ f, g, ← h) p

  pub part_none : l ≡ None → Part c at.command (cut_of c.now at.command at.command) x → PacketAt c cts r rts at x
  part_none f p = rw (sym e ∙ f) p

module _ (cts rts : List ℕ) (at : Cursor) (l : Option Line) (e : l ≡ due_of cts rts at) where
  pub step_command : (line : Line) (end : ℕ) → l ≡ Some line → line ≡ Command → end ≡ packet_end cts at.command
      → Some (record { line = line; behind = record { command = end; reply = at.reply } }) ≡ capture_step cts rts at
  unfolding capture_step
  step_command line end f g h = rw (sym e ∙ f, g, h)

  pub step_reply : (line : Line) (end : ℕ) → l ≡ Some line → line ≡ Reply → end ≡ packet_end rts at.reply
      → Some (record { line = line; behind = record { command = at.command; reply = end } }) ≡ capture_step cts rts at
  unfolding capture_step
  step_reply line end f g h = rw (sym e ∙ f, g, h)

  pub step_end : (s : Option Stepped) → l ≡ None → s ≡ None → s ≡ capture_step cts rts at
  unfolding capture_step
  step_end s f g = rw (sym e ∙ f) g
