-- The definitions go by the bytes and times of both lines; here they are taken of a recording.
use Rattle.std.specs.Prelude.{ℕ, List}
use Rattle.capture.specs.declared.Recording.{Recording}

-- what a definition says of a recording's command bytes, command times, reply bytes and reply times
abbrev pub of_lines : {A : Type 0} → (List ℕ → List ℕ → List ℕ → List ℕ → A) → Recording → A
of_lines f r = f r.command.bytes.now r.command.times.now r.reply.bytes.now r.reply.times.now

-- and of its times alone
abbrev pub of_times : {A : Type 0} → (List ℕ → List ℕ → A) → Recording → A
of_times f r = f r.command.times.now r.reply.times.now

-- and what a fact says of it
abbrev pub OfLines : (List ℕ → List ℕ → List ℕ → List ℕ → Type 0) → Recording → Type 0
OfLines P r = P r.command.bytes.now r.command.times.now r.reply.bytes.now r.reply.times.now
