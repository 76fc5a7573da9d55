use Rattle.std.proofs.Common.{◌≡◌, ◌++◌, ◌∷◌, [], Some, sym, ap, ◌∙◌, subst, refl}
use Rattle.tinyjson.specs.View.{view}
use Rattle.tinyjson_schema_table.specs.Links.{AreLinked, tree_in}
use Rattle.tinyjson_schema_table.proofs.Givens.{is_at_some}
use Rattle.tinyjson_schema_table.proofs.Links.{root_kept, none_linked}
use Rattle.tinyjson_schema_table.proofs.table.Table.of.Goals as goal

pub loop-init : goal.loop-init
loop-init c =
    let one = c.in_ok-push.ensures.items ∙ ap (λ xs. xs ++ (c.in_ok-first.first ∷ [])) c.new-shapes.ensures.items in (
      is_at_some _ _ (ap (λ xs. tree_in xs 0) one ∙ ap (λ x. Some (view x.now)) c.in_ok-first.ensures),
      subst (AreLinked c.push.new.self.items) (sym c.new-links.ensures.items) (none_linked c.push.new.self.items),
    )

pub loop-preserved : goal.loop-preserved
loop-preserved c =
    let a = c.in_ok-add_links.ensures in (
      root_kept c.loop.shapes.items _ (view c.args.schema.now) a.keeps c.loop.invariant.0,
      a.linked c.loop.invariant.1,
    )

pub invariant_of-result : goal.invariant_of-result
invariant_of-result c = record {
  root = c.loop.invariant.0;
  linked = c.loop.invariant.1;
}
