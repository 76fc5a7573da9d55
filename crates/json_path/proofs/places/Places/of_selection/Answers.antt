use Rattle.std.proofs.Common.{◌||◌, ◌∙◌, true, cond, ap, sym, subst}
use Rattle.std.specs.Prelude.{IfErr}
use Rattle.std.specs.Str.{bytes_eq}
use Rattle.std.specs.HashSet.{contains_text}
use Rattle.tinyjson_path.specs.Nodes.{Takes, part_view, path_of}
use Rattle.tinyjson_path.specs.Selections.{left, sources}
use Rattle.tinyjson_path.specs.Strings.{IsFrom}
use Rattle.json_path.proofs.Leaving.{or_moves, path_is}
use Rattle.tinyjson_path.proofs.Callers.{one_less, error_same}
use Rattle.json_path.specs.Without.{is_at, path_bytes}
use Rattle.json_path.proofs.places.Places.of_selection.Goals as goal

pub loop-places-preserved : goal.loop-places-preserved
loop-places-preserved c = record {
  bounded = c.in_ok-add.ensures.bounded c.loop-places.invariant.bounded;
  sources = c.next.ensures.sources ∙ c.loop-places.invariant.sources;
  paths = λ path.
      let n = c.in-Some.node in
      let all = left c.loop-places.selection in
      let old = contains_text c.loop-places.places.paths (path_bytes path) in
      let rest = is_at (left c.next.new.self) path in
      ap (λ b. b || rest) (c.in_ok-add.ensures.paths (path_bytes path)
      ∙ ap (λ bs. cond (bytes_eq bs (path_bytes path)) true old)
      (path_is c.in_ok-place_path.field-0 (path_of n) c.in_ok-place_path.ensures))
      ∙ or_moves (bytes_eq (path_bytes (path_of n)) (path_bytes path)) old rest (is_at (left c.args.selection.now) path)
      (ap (λ ps. old || is_at ps path)
      (sym (subst (λ o. Takes all (left c.next.new.self) o) c.in-Some.is c.in_ok-node.ensures.next))
      ∙ c.loop-places.invariant.paths path);
}

pub loop-places-smaller : goal.loop-places-smaller
loop-places-smaller c =
    one_less (left c.loop-places.selection) (left c.next.new.self) (part_view c.in-Some.node)
    (subst (λ o. Takes (left c.loop-places.selection) (left c.next.new.self) o) c.in-Some.is c.in_ok-node.ensures.next)

pub returns-in_err-node-clause-err : goal.returns-in_err-node-clause-err
returns-in_err-node-clause-err c =
    subst (λ ts. IfErr c.from_residual.result (IsFrom ts)) c.loop-places.invariant.sources
    (error_same (sources c.loop-places.selection) c.in_err-node.field-0.0 c.from_residual.result c.from_residual.ensures.1
    c.in_err-node.ensures.err)
