use Rattle.std.proofs.Common.{◌∙◌, sym}
use Rattle.tinyjson.specs.View.{view}
use Rattle.tinyjson_view.specs.Views.{tree_of}
use Rattle.tinyjson_schema.proofs.Deep.{at_last, if_deep, raised}
use Rattle.tinyjson_schema.proofs.Leaves.{judged_alone, refused_alone}
use Rattle.tinyjson_schema.proofs.Validity.{flipped}
use Rattle.tinyjson_schema.proofs.validate.is_accepted_alone.Goals as goal

pub returns-in_err-entered : goal.returns-in_err-entered
returns-in_err-entered c =
    raised _ _ c.in_err-entered.field-0.0 c.from_residual.result c.from_residual.ensures.1
    (if_deep c.in_err-entered.field-0.0 (at_last c.args.walk (view c.args.here.now.schema.now) (tree_of c.args.value.now))
    c.in_err-entered.ensures)

pub returns-then-refuses_all : goal.returns-then-refuses_all
returns-then-refuses_all c g =
    refused_alone (view c.args.here.now.schema.now) c.requires c.args.walk c.in_ok-entered.field-0 c.in_ok-entered.ensures
    (tree_of c.args.value.now) (sym c.if-refuses_all.ensures) g

pub returns : goal.returns
returns c g =
    flipped c.is_none.result _ c.is_none.ensures
    ∙ judged_alone (view c.args.here.now.schema.now) c.requires c.args.walk c.in_ok-entered.field-0 c.in_ok-entered.ensures
    (tree_of c.args.value.now) (sym c.refuses_all.ensures ∙ c.if-refuses_all.false) c.in_ok-found.found c.in_ok-found.ensures g
