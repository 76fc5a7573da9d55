use Rattle.std.proofs.Common.{◌∙◌, Some, option_map, sym, ap}
use Rattle.std.specs.Prelude.{option_and_then}
use Rattle.tinyjson.proofs.Callers.{view_String}
use Rattle.tinyjson.specs.View.{view}
use Rattle.tinyjson_schema_keywords.specs.References.{target}
use Rattle.tinyjson_schema.specs.Leads.{led}
use Rattle.tinyjson_schema.proofs.Leading.{led_leads}
use Rattle.tinyjson_schema_table.proofs.Callers.{known_as}
use Rattle.tinyjson_schema.proofs.applied.Applied.referenced.Goals as goal

pub returns-in_default : goal.returns-in_default
returns-in_default c =
    let root = view c.args.walk.ground.now.whole.now.root.now in
    ap (option_and_then (target root)) c.in_default.ensures

pub by-requires : goal.by-requires
by-requires c =
    let l = c.in-Some-led.lead.now in
    known_as (view l.table.schema.now) (view l.schema.now) c.first.result c.first.ensures l.same

pub returns-in-Some-led : goal.returns-in-Some-led
returns-in-Some-led c =
    let ground = c.args.walk.ground.now in
    let root = view ground.whole.now.root.now in
    ap (λ t. Some t) c.by.ensures
    ∙ (led_leads root ground.leads.now c.in-String.text (view c.in-Some-led.lead.now.schema.now) ground.led
    (c.in-Some-led.ensures ∙ ap (led ground.leads.now) c.as_str.ensures.value)
    ∙ (ap (target root) (sym (ap view c.in-String.is ∙ view_String c.in-String.text))
    ∙ ap (option_and_then (target root)) c.in-Some.ensures))

pub returns-in-Some-found : goal.returns-in-Some-found
returns-in-Some-found c =
    let root = view c.args.walk.ground.now.whole.now.root.now in
    ap (λ x. Some (view x.now)) c.of.ensures
    ∙ (ap (option_map (λ x. view x.now)) (sym c.in-Some-found.is)
    ∙ (c.in_ok-found.ensures ∙ (ap (λ w. target (view w.now.root.now) (view c.in-Some.reference.now)) c.following.ensures
    ∙ ap (option_and_then (target root)) c.in-Some.ensures)))

pub returns-in-None : goal.returns-in-None
returns-in-None c =
    let root = view c.args.walk.ground.now.whole.now.root.now in
    ap (option_map (λ x. view x.now)) (sym c.in-None.is)
    ∙ (c.in_ok-found.ensures ∙ (ap (λ w. target (view w.now.root.now) (view c.in-Some.reference.now)) c.following.ensures
    ∙ ap (option_and_then (target root)) c.in-Some.ensures))
