use Rattle.tinyjson.specs.View.{view}
use Rattle.tinyjson_schema_table.proofs.Givens.{given_added, given_kept}
use Rattle.tinyjson_schema_table.proofs.constraints.add_given.Goals as goal

pub returns-in_default : goal.returns-in_default
returns-in_default c = given_kept (view c.args.schema.now) c.args.given.now.items c.args.keyword c.in_default.ensures

pub returns : goal.returns
returns c = given_added (view c.args.schema.now) c.args.given.now.items c.push.new.self.items _ c.in-Some.ensures
    c.in_ok-push.ensures.items
