use Rattle.std.proofs.Common.{◌++◌, [], ◌∙◌, List, ap, subst, append-nil}
use Rattle.std.specs.Str.{encode_utf8_all}
use Rattle.std.proofs.lemmas.Result.{MatchResult-from_err}
use Rattle.tinyjson.proofs.Callers.{begins, ends, stop}
use Rattle.tinyjson.specs.Text.{compact}
use Rattle.tinyjson.specs.Written.{Written, WrittenPart}
use Rattle.tinyjson_document.specs.Document.{tree}
use Rattle.tinyjson_path.specs.Nodes.{Step, path_view}
use Rattle.json_path.specs.Left.{stack_bytes}
use Rattle.json_path.specs.Places.{has_path}
use Rattle.json_path.specs.Without.{without}
use Rattle.json_path.proofs.rest.write_without.Goals as goal

pub returns-in_err-root : goal.returns-in_err-root
returns-in_err-root g c = MatchResult-from_err _ _ _ c.from_residual.ensures.0 (λ _. stop begins)

pub returns-in_err-begin : goal.returns-in_err-begin
returns-in_err-begin g c =
    let text = λ (path : List Step). encode_utf8_all (compact (without (has_path c.args.places.now) path (tree c.args.value))) in
    let whole = append-nil (text (path_view c.in_ok-root.root.value)) ∙ ap text c.in_ok-root.ensures in
    MatchResult-from_err _ _ _ c.from_residual-in_err-begin.ensures.0 (λ _. subst (WrittenPart _ _)
    (ap (λ ls. text (path_view c.in_ok-root.root.value) ++ stack_bytes (has_path c.args.places.now) ls) c.new-stack.ensures.items ∙ whole)
    c.in_err-begin.ensures.sent)

pub returns : goal.returns
returns g c =
    let text = λ (path : List Step). encode_utf8_all (compact (without (has_path c.args.places.now) path (tree c.args.value))) in
    let whole = append-nil (text (path_view c.in_ok-root.root.value)) ∙ ap text c.in_ok-root.ensures in
    ends (g.W.Write.contents c.args.output.now) (g.W.Write.contents c.begin.new.output) (g.W.Write.contents c.finish.new.output) (text []) _
    c.finish.result c.finish.ensures
    (subst (λ bs. Written (g.W.Write.contents c.args.output.now) (g.W.Write.contents c.begin.new.output) bs
    (stack_bytes (has_path c.args.places.now) c.begin.new.stack.items))
    (ap (λ ls. text (path_view c.in_ok-root.root.value) ++ stack_bytes (has_path c.args.places.now) ls) c.new-stack.ensures.items ∙ whole)
    c.in_ok-begin.ensures.sent)
