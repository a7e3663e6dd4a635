-- The count, then the tenth byte.
use Rattle.codec.proofs.Driven.{own_gain_miscounted, own_tenth, own_gain_counted}
use Rattle.codec.proofs.own.own_gain.Goals as goal

pub returns-then-bytes-ne14 : goal.returns-then-bytes-ne14
returns-then-bytes-ne14 c = search own_gain_miscounted

pub returns-then-byte-ne0 : goal.returns-then-byte-ne0
returns-then-byte-ne0 c = search own_tenth

pub returns : goal.returns
returns c = search own_gain_counted
