-- The kind at each position.
use Rattle.std.proofs.Common.{rules, tests}
use Rattle.fields.proofs.Telling.{kinds_each}
use Rattle.fields.proofs.kind.read_kinds.Goals as goal

pub returns : goal.returns
returns c = kinds_each _ _ _ _ c.from_fn.ensures.items.long (λ y j q k. search (rules, tests)) c.from_fn.ensures.items.each
