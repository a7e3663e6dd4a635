-- By the count.
use Rattle.codec.proofs.Driven.{own_stop_miscounted, own_stop_counted}
use Rattle.codec.proofs.own.own_stop.Goals as goal

pub returns-then-bytes-count : goal.returns-then-bytes-count
returns-then-bytes-count c = search own_stop_miscounted

pub returns : goal.returns
returns c = search own_stop_counted
