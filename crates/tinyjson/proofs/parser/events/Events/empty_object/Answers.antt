use Rattle.tinyjson_grammar.specs.Tree.{no_members}
use Rattle.tinyjson.proofs.parser.events.Events.empty_object.Goals as goal

pub close_object-requires : goal.close_object-requires
close_object-requires g c = (c.requires.0, no_members, c.requires.1, c.in_ok-open_object.ensures c.requires.0 c.requires.1 c.requires.2)
