use Rattle.std.proofs.Common.{◌++◌, ◌∙◌, ap, subst, append-nil}
use Rattle.std.specs.Str.{encode_utf8_all}
use Rattle.std.proofs.lemmas.Result.{MatchResult-from_err}
use Rattle.tinyjson.proofs.Callers.{ends}
use Rattle.tinyjson.specs.Text.{compact}
use Rattle.tinyjson.specs.Written.{Written, WrittenPart}
use Rattle.tinyjson_patch.specs.private.Edited.{tree}
use Rattle.tinyjson_patch.specs.private.Text.{stack_bytes}
use Rattle.tinyjson_patch.proofs.edit.text.write_text.Goals as goal

pub returns-in_err-begin : goal.returns-in_err-begin
returns-in_err-begin g c =
    let whole = encode_utf8_all (compact (tree c.args.value.now)) in
    MatchResult-from_err _ _ _ c.from_residual.ensures.0 (λ _. subst (WrittenPart _ _)
    (ap (λ rs. whole ++ stack_bytes rs) c.new-stack.ensures.items ∙ append-nil whole) c.in_err-begin.ensures.sent)

pub returns : goal.returns
returns g c =
    let whole = encode_utf8_all (compact (tree c.args.value.now)) in
    ends (g.W.Write.contents c.args.output.now) (g.W.Write.contents c.begin.new.output) (g.W.Write.contents c.finish.new.output) whole _
    c.finish.result c.finish.ensures
    (subst (λ bs. Written (g.W.Write.contents c.args.output.now) (g.W.Write.contents c.begin.new.output) bs (stack_bytes c.begin.new.stack.items))
    (ap (λ rs. whole ++ stack_bytes rs) c.new-stack.ensures.items ∙ append-nil whole) c.in_ok-begin.ensures.sent)
