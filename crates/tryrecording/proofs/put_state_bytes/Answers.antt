-- The bytes of the state alone.
use borrow.Author.Rules.{rules}
use Rattle.tryrecording.proofs.Shows.{state_put, state_fits}
use Rattle.tryrecording.proofs.put_state_bytes.Goals as goal

pub put_bytes-requires : goal.put_bytes-requires
put_bytes-requires c = search (rules, state_fits)

pub returns : goal.returns
returns c = search state_put
