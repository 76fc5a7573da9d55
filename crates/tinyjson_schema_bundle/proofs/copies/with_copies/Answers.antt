use Rattle.std.proofs.Common.{◌≡◌, ◌∙◌, ◌<◌, [], List, length, map, option_map, sym, ap, ap₂, subst, rules}
use Rattle.std.proofs.lemmas.List.{length-map}
use Rattle.std.specs.Prelude.{IfOk}
use Rattle.tinyjson.specs.View.{view, members_view}
use Rattle.tinyjson_schema_keywords.specs.Applied.{schema_at}
use Rattle.tinyjson_schema_keywords.specs.declared.keyword.Keyword.TheVariants as kw
use Rattle.tinyjson_schema_bundle.specs.Bundles.{all_marked, places_in, pointed}
use Rattle.tinyjson_schema_bundle.specs.Scopes.{Reached, copy_of, defs_in, from_root, leads_of, main_part, put_copies, reached_of}
use Rattle.tinyjson_schema_bundle.specs.Scopes.{with_defs}
use Rattle.tinyjson_schema_bundle.proofs.Scoping.{with_some}
use Rattle.tinyjson_schema_bundle.proofs.copies.with_copies.Goals as goal

pub returns : goal.returns
returns c =
    let g = c.args.guide.now in
    let t = view c.args.document.now in
    let at = places_in g.places.now in
    let all = all_marked g.marks.now in
    let r = g.root.now in
    let z = g.letters.now in
    let ss : List Reached = map reached_of g.copies.now in
    let copied = put_copies (copy_of at all r z g.contested ss t) z 0 ss in
    let main : view c.in_ok-whole.whole ≡ main_part at all r z g.contested ss t = c.in_ok-whole.ensures
    ∙ ap (λ s. pointed (leads_of at all r z g.contested ss s) [] [] t) c.requires.root in
    let defs : option_map (λ m. members_view m.entries) c.in_ok-defs.defs
    ≡ option_map copied (defs_in (leads_of at all r z g.contested ss from_root) r (schema_at t kw.Defs)) = c.in_ok-defs.ensures
    ∙ ap (λ s. option_map copied (defs_in (leads_of at all r z g.contested ss s) r (schema_at t kw.Defs))) c.requires.root in
    let some : 0 < length g.copies.now = search rules in
    subst (λ x. IfOk c.with_defs.result (λ v. view v ≡ x))
    (ap₂ with_defs defs main
    ∙ with_some at all r z g.contested ss t ss (subst (λ n. 0 < n) (sym (length-map g.copies.now reached_of)) some))
    c.with_defs.ensures
