use Rattle.std.proofs.Common.{◌+◌, ◌||◌, ◌∙◌, true, false, drop, refl, sym, ap}
use Rattle.std.specs.Str.{chars}
use Rattle.tinyjson_schema_keywords.proofs.Callers.{turn_next, turn_stop, turn_end}
use Rattle.tinyjson_schema.specs.Evaluated.{member_at}
use Rattle.tinyjson_schema.specs.Sources.{sources_evaluate}
use Rattle.tinyjson_schema.proofs.Deep.{shallow}
use Rattle.tinyjson_schema.proofs.validate.unevaluated.is_member_evaluated.Goals as goal

pub returns-then-evaluates : goal.returns-then-evaluates
returns-then-evaluates c g u =
    let k = member_at (chars c.args.key.now) u in
    let xs = c.args.sources.now in
    let i = c.loop-source.source-index in
    turn_stop (λ ys. sources_evaluate g ys k) xs i true c.source-item.result c.loop-source-test.true c.source-item.is
    (ap (λ b. b || sources_evaluate g (drop (i + 1) xs) k) (sym (c.in_ok-evaluates.ensures g u) ∙ c.if-evaluates.true))
    (c.loop-source.invariant g u)

pub loop-source-preserved : goal.loop-source-preserved
loop-source-preserved c g u =
    let k = member_at (chars c.args.key.now) u in
    let xs = c.args.sources.now in
    let i = c.loop-source.source-index in
    turn_next (λ ys. sources_evaluate g ys k) xs i c.source-item.result c.loop-source-test.true c.source-item.is
    (ap (λ b. b || sources_evaluate g (drop (i + 1) xs) k) (sym (c.in_ok-evaluates.ensures g u) ∙ c.if-evaluates.false))
    (c.loop-source.invariant g u)

pub returns : goal.returns
returns c g u =
    let k = member_at (chars c.args.key.now) u in
    sym (turn_end (λ ys. sources_evaluate g ys k) c.args.sources.now c.loop-source.source-index false c.loop-source-test.false refl
    (c.loop-source.invariant g u))

pub returns-in_err-evaluates : goal.returns-in_err-evaluates
returns-in_err-evaluates c = shallow _ c.in_err-evaluates.field-0.0 c.from_residual.result c.from_residual.ensures.1 c.in_err-evaluates.ensures
