use Rattle.std.proofs.Common.{refl}
use Rattle.tinyjson.specs.View.{members_listed}
use Rattle.tinyjson_schema_keywords.specs.Subschemas.{entry_parts}
use Rattle.tinyjson_schema_keywords.proofs.Stepping.{part_listed, parts_listed}
use Rattle.tinyjson_schema_keywords.proofs.subschemas.entry_parts.Goals as goal

pub loop-key-preserved : goal.loop-key-preserved
loop-key-preserved c = part_listed (λ i xs. entry_parts (members_listed xs)) c.args.schemas.now c.loop-key.key-index c.loop-key.parts.items
    c.loop-key.invariant c.loop-key-item.result _ c.push.new.self.items c.loop-key-test.true c.loop-key-item.is c.in_ok-push.ensures.items
    refl

pub returns : goal.returns
returns c = parts_listed (λ i xs. entry_parts (members_listed xs)) c.args.schemas.now c.loop-key.key-index c.loop-key.parts.items
    c.loop-key.invariant c.loop-key-test.false refl
