-- The invariant: what is put, and the bytes that are left behind it, are the whole answer.
use Rattle.std.proofs.Common.{◌≡◌, drop}
use Rattle.fields.specs.Answer.{answer_put_all}
use Rattle.fields.proofs.answer.Answer.put_all.Given as goal

abbrev pub invariant-loop-b : goal.invariant-loop-b
invariant-loop-b l = answer_put_all l.all (drop l.b-index l.fn.bytes) ≡ answer_put_all l.fn.self l.fn.bytes
