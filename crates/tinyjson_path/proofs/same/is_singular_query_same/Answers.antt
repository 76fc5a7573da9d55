use Rattle.std.proofs.Common.{◌∙◌, map, ap, sym}
use Rattle.tinyjson_path.specs.Comparing.{one_child}
use Rattle.tinyjson_path.proofs.Sameness.{singular_query_same}
use Rattle.tinyjson_path.proofs.same.is_singular_query_same.Goals as goal

pub returns-then-is_origin_same : goal.returns-then-is_origin_same
returns-then-is_origin_same c = λ same.
    singular_query_same c.args.left.now c.args.right.now (c.is_origin_same.ensures c.if-is_origin_same.true)
    (sym (ap (map one_child) c.as_slice.ensures.value)
    ∙ (c.are_steps_same.ensures same ∙ ap (map one_child) c.as_slice-then-is_origin_same.ensures.value))
