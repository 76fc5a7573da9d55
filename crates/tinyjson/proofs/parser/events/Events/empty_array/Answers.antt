use Rattle.std.proofs.Common.{[]}
use Rattle.tinyjson.proofs.parser.events.Events.empty_array.Goals as goal

pub close_array-requires : goal.close_array-requires
close_array-requires g c = (c.requires.0, [], c.requires.1, c.in_ok-open_array.ensures c.requires.0 c.requires.1 c.requires.2)
