use Rattle.std.proofs.Common.{refl}
use Rattle.tinyjson.specs.View.{view}
use Rattle.tinyjson_schema_keywords.proofs.Stepping.{own_gathered}
use Rattle.tinyjson_schema_keywords.proofs.subschemas.gather_own.Goals as goal

pub returns : goal.returns
returns c =
    own_gathered c.args.form (view c.args.value.now) c.args.part c.in-Schema-Key.name _ c.args.found.now.items c.push.new.self.items
    c.in-Schema-Key.is-0 c.in-Schema-Key.is-1 refl c.in_ok-push.ensures.items
