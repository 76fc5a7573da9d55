use Rattle.std.proofs.Common.{◌≡◌, ◌++◌, ◌∙◌, map, sym, ap, subst}
use Rattle.std.specs.Str.{chars}
use Rattle.tinyjson.proofs.Callers.{fails, goes}
use Rattle.tinyjson.specs.View.{text}
use Rattle.tinyjson.specs.Written.{Written}
use Rattle.json_schema.specs.Told.{told_name, told_names}
use Rattle.json_schema.proofs.unknown.tell_names.Goals as goal

pub loop-name-preserved : goal.loop-name-preserved
loop-name-preserved g c =
    let all = told_names c.args.unknown (map text c.args.names.now.keys) in
    let rest = told_names c.args.unknown (map text c.next.new.self) in
    let split : told_names c.args.unknown (map text c.loop-name.name-iterator) ≡ told_name c.args.unknown (chars c.as_str.result.now) ++ rest
    = ap (λ ks. told_names c.args.unknown (map text ks)) c.in-Some.ensures.steps
    ∙ ap (λ bs. told_name c.args.unknown (chars bs) ++ rest) (sym c.as_str.ensures.value) in
    goes rest c.in_ok-tell_name.ensures
    (subst (Written (g.E.Write.contents c.args.errors.now) (g.E.Write.contents c.loop-name.errors) all) split c.loop-name.invariant)

pub returns-in_err-tell_name : goal.returns-in_err-tell_name
returns-in_err-tell_name g c =
    let all = told_names c.args.unknown (map text c.args.names.now.keys) in
    let rest = told_names c.args.unknown (map text c.next.new.self) in
    let split : told_names c.args.unknown (map text c.loop-name.name-iterator) ≡ told_name c.args.unknown (chars c.as_str.result.now) ++ rest
    = ap (λ ks. told_names c.args.unknown (map text ks)) c.in-Some.ensures.steps
    ∙ ap (λ bs. told_name c.args.unknown (chars bs) ++ rest) (sym c.as_str.ensures.value) in
    fails _ rest c.from_residual.ensures.0 c.in_err-tell_name.ensures
    (subst (Written (g.E.Write.contents c.args.errors.now) (g.E.Write.contents c.loop-name.errors) all) split c.loop-name.invariant)
