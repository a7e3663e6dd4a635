-- By the count.
use Rattle.codec.proofs.Driven.{own_load_miscounted, own_load_counted}
use Rattle.codec.proofs.own.own_load.Goals as goal

pub returns-then-bytes-load_count : goal.returns-then-bytes-load_count
returns-then-bytes-load_count c = search own_load_miscounted

pub returns : goal.returns
returns c = search own_load_counted
