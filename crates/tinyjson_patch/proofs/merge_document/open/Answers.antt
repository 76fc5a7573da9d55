use Rattle.std.proofs.Common.{◌≡◌, [], ◌∷◌, ◌∙◌, ap, arith, option_map, reverse, subst, sym, unwrap_or}
use Rattle.std.proofs.lemmas.List.{reverse-append}
use Rattle.tinyjson.specs.Tree.{null}
use Rattle.tinyjson_document.specs.Comparing.{members_weight}
use Rattle.tinyjson_document.specs.Document.{tree}
use Rattle.tinyjson_patch.specs.Merging.{Waits, left_weight}
use Rattle.tinyjson_patch.specs.declared.merge_document.Left.{Left}
use Rattle.tinyjson_patch.proofs.MergingDocuments.{object_weighs, opened, weight_last}
use Rattle.tinyjson_patch.proofs.merge_document.open.Goals as goal

pub returns-clause-waits : goal.returns-clause-waits
returns-clause-waits g c = λ start os fs t h n.
    let E = g.E.Events in
    let stack = c.args.stack.now.items in
    let l : Left = record { target = c.members_of.result; patch = c.members.result } in
    let last = ap reverse c.in_ok-push.ensures.items ∙ reverse-append stack (l ∷ []) in
    subst (λ ls. Waits (E.holds start) (E.is start) os t ls c.open_object.new.self) (sym last)
    (opened (E.holds start) (E.is start) os t (reverse stack) fs (unwrap_or (option_map tree c.args.target) null) (tree c.args.patch) l
    c.open_object.new.self c.requires.object c.members_of.ensures c.members.ensures n (c.in_ok-open_object.ensures start fs h))

pub returns-clause-less : goal.returns-clause-less
returns-clause-less g c =
    let l : Left = record { target = c.members_of.result; patch = c.members.result } in
    let pushed = ap left_weight c.in_ok-push.ensures.items ∙ weight_last c.args.stack.now.items l in
    omega (arith, pushed, ap members_weight c.members.ensures, object_weighs (tree c.args.patch) c.requires.object)
