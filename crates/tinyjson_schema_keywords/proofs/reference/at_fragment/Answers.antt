use Rattle.std.proofs.Common.{◌≡◌, ◌∙◌, option_map, sym, ap, subst}
use Rattle.std.specs.Prelude.{IfOk}
use Rattle.std.specs.Str.{chars}
use Rattle.tinyjson.specs.View.{view}
use Rattle.tinyjson_schema_keywords.specs.Anchors.{is_plain_name, anchored, anchors_in, all_named}
use Rattle.tinyjson_schema_keywords.specs.References.{at_pointer}
use Rattle.tinyjson_schema_keywords.proofs.Naming.{anchors_known}
use Rattle.tinyjson_schema_keywords.proofs.References.{no_text, name_there, pointer_there}
use Rattle.tinyjson_schema_keywords.proofs.reference.at_fragment.Goals as goal

pub returns-in_default : goal.returns-in_default
returns-in_default c = no_text (view c.args.walk.whole.now.root.now) c.args.fragment.now c.in_default.ensures.cases.0

pub returns-then-is_plain_name : goal.returns-then-is_plain_name
returns-then-is_plain_name c =
    let same = c.in-Ok.ensures.cases.0 in
    let w = c.args.walk in
    name_there (view w.whole.now.root.now) c.args.fragment.now _ c.in-Ok.ensures.cases.1
    (ap is_plain_name (sym same) ∙ (sym c.is_plain_name.ensures ∙ c.if-is_plain_name.true))
    (c.anchored.ensures ∙ (ap (λ ns. anchored ns c.in-Ok.text.now)
    (ap all_named c.as_slice.ensures.value ∙ anchors_known (view w.whole.now.root.now) w.whole.now.anchors.items w.whole.now.gathered)
    ∙ ap (anchored (anchors_in (view w.whole.now.root.now))) same))

pub returns : goal.returns
returns c =
    let same = c.in-Ok.ensures.cases.0 in
    let root = view c.args.walk.whole.now.root.now in
    let plain = ap is_plain_name (sym same) ∙ (sym c.is_plain_name.ensures ∙ c.if-is_plain_name.false) in
    subst (λ o. IfOk c.at_pointer.result (λ r. option_map (λ x. view x.now) r ≡ o))
    (ap (λ bs. at_pointer root (chars bs)) same ∙ pointer_there root c.args.fragment.now c.in-Ok.ensures.cases.1 plain)
    c.at_pointer.ensures
