use Rattle.std.proofs.Common.{rules}
use Rattle.layout.specs.Settings.{put_place}
use Rattle.layout.proofs.settings.put_place.Goals as goal

pub returns : goal.returns
unfolding put_place
returns c = search rules
