use Rattle.std.proofs.Common.{◌≡◌, ◌∙◌, ◌++◌, [], ◌∷◌, Some, ap, subst}
use Rattle.std.specs.Prelude.{IfErr}
use Rattle.std.proofs.lemmas.List.{map-append}
use Rattle.tinyjson_path.specs.Nodes.{Takes, part_view, parts_view}
use Rattle.tinyjson_path.specs.Selections.{left, sources}
use Rattle.tinyjson_path.specs.Strings.{IsFrom}
use Rattle.tinyjson_path.proofs.Waits.{one_more, one_less}
use Rattle.tinyjson_path.proofs.Within.{from_same}
use Rattle.tinyjson_path.proofs.selection.Selection.collect.Goals as goal

pub loop-nodes-smaller : goal.loop-nodes-smaller
loop-nodes-smaller c =
    one_less (left c.loop-nodes.self) (left c.next.new.self) (part_view c.in-Some.node)
    (subst (λ o. Takes (left c.loop-nodes.self) (left c.next.new.self) o) c.in-Some.is c.in_ok-node.ensures.next)

pub loop-nodes-preserved : goal.loop-nodes-preserved
loop-nodes-preserved c =
    let n = c.in-Some.node in
    let ps = parts_view c.loop-nodes.nodes.items in
    let new = left c.next.new.self in
    let more : parts_view c.push.new.self.items ≡ ps ++ part_view n ∷ []
    = ap parts_view c.in_ok-push.ensures.items ∙ map-append part_view c.loop-nodes.nodes.items (n ∷ []) in record {
      sources = c.next.ensures.sources ∙ c.loop-nodes.invariant.sources;
      left = ap (λ qs. qs ++ new) more
          ∙ one_more ps (left c.loop-nodes.self) new (left c.args.self) (part_view n)
          (subst (λ o. Takes (left c.loop-nodes.self) new o) c.in-Some.is c.in_ok-node.ensures.next) c.loop-nodes.invariant.left;
    }

pub returns-in_err-node-clause-err : goal.returns-in_err-node-clause-err
returns-in_err-node-clause-err c =
    subst (λ ts. IfErr c.from_residual.result (IsFrom ts)) c.loop-nodes.invariant.sources
    (from_same (sources c.loop-nodes.self) c.in_err-node.field-0.0 c.from_residual.result
    c.from_residual.ensures.1 c.in_err-node.ensures.err)
