use Rattle.std.proofs.Common.{◌≡◌, true, option_map, sym, ap, ◌∙◌, subst}
use Rattle.tinyjson.specs.Equality.{tree_eq_Decides}
use Rattle.tinyjson.specs.View.{view}
use Rattle.tinyjson_schema.specs.Leads.{are_led}
use Rattle.tinyjson_schema.proofs.Leading.{lead_added}
use Rattle.tinyjson_schema.proofs.leads.add_lead.Goals as goal

pub returns : goal.returns
returns c h =
    let root = view c.args.walk.whole.now.root.now in
    subst (λ ls. are_led root ls ≡ true) (sym c.in_ok-push.ensures.items)
    (lead_added root c.args.member.value.now c.args.leads.now.items _ c.in-String.is
    (ap (option_map (λ x. view x.now)) (sym c.in-Some.is) ∙ c.in_ok-schema.ensures) h)

pub invariant_of-lead : goal.invariant_of-lead
invariant_of-lead c = record {
  same = (tree_eq_Decides _ _).1 (ap (λ x. view x.now) c.in_ok-table.ensures);
}
