use Rattle.std.proofs.Common.{◌++◌, ◌∙◌, ap, codes, subst}
use Rattle.std.proofs.lemmas.Result.{MatchResult-from_err}
use Rattle.std.specs.Str.{chars}
use Rattle.tinyjson.proofs.Callers.{begins, stop}
use Rattle.tinyjson.specs.Written.{WritesPrefix}
use Rattle.tinyjson_cli.specs.Shown.{shown}
use Rattle.json_schema.proofs.unknown.tell_name.Goals as goal

pub returns-in_err-line : goal.returns-in_err-line
returns-in_err-line g c = MatchResult-from_err _ _ _ c.from_residual.ensures.0 (λ _. stop begins)

pub returns : goal.returns
returns g c =
    let k = shown (chars c.args.name.now) in
    subst (λ bs. WritesPrefix (g.E.Write.contents c.args.errors.now) (g.E.Write.contents c.write_all.new.out) bs c.write_all.result)
    (c.as_bytes.ensures.value ∙ (c.in_ok-line.ensures.ok
    ∙ ap (λ w. codes "json_schema: the schema: \"" ++ (k ++ (codes "\" " ++ (w ++ codes "\n")))) c.unknown_as-what.ensures))
    c.write_all.ensures
