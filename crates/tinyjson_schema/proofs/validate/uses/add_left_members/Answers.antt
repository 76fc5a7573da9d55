use Rattle.std.proofs.Common.{[], ◌∷◌, cond, not, refl, ap}
use Rattle.std.specs.Str.{chars}
use Rattle.tinyjson.specs.View.{view}
use Rattle.tinyjson_view.specs.Views.{tree_of, members_of}
use Rattle.tinyjson_schema_keywords.specs.declared.keyword.Keyword.TheVariants as kw
use Rattle.tinyjson_schema.specs.Evaluated.{member_at}
use Rattle.tinyjson_schema.specs.Every.{token, by, left_members}
use Rattle.tinyjson_schema.specs.Sources.{sources_evaluate}
use Rattle.tinyjson_schema.proofs.Adding.{gather_next, gather_end, uses_as}
use Rattle.tinyjson_schema.specs.declared.walk.CheckError.TheVariants.{OutOfMemory}
use Rattle.tinyjson_schema.proofs.Deep.{raised}
use Rattle.tinyjson_schema.proofs.validate.uses.add_left_members.Goals as goal

pub invariant_of-one : goal.invariant_of-one
invariant_of-one c = record { same = c.args.rest.now.same }

pub loop-member-preserved : goal.loop-member-preserved
loop-member-preserved c g =
    let q = sources_evaluate g c.args.sources.now in
    let r = view c.args.rest.now.schema.now in
    let p = c.member-item.result in
    let k = chars p.key.now in
    let u = tree_of p.value in
    let one = by kw.UnevaluatedProperties (token k) r u ∷ [] in
    gather_next (λ xs. left_members q r (members_of xs)) c.args.members.now c.loop-member.member-index _ p _ _
    (cond (not (q (member_at k u))) one []) c.loop-member-test.true c.member-item.is refl
    (uses_as _ _ _ _ (ap (λ b. cond (not b) one []) (c.in_ok-evaluated.ensures g u)) c.in_ok-add_if.ensures) (c.loop-member.invariant g)

pub returns : goal.returns
returns c g = gather_end (λ xs. left_members (sources_evaluate g c.args.sources.now) (view c.args.rest.now.schema.now) (members_of xs))
    c.args.members.now c.loop-member.member-index _ _ c.loop-member-test.false refl (c.loop-member.invariant g)

pub returns-in_err-evaluated : goal.returns-in_err-evaluated
returns-in_err-evaluated c =
    raised _ _ c.in_err-evaluated.field-0.0 c.from_residual.result c.from_residual.ensures.1 c.in_err-evaluated.ensures

pub returns-in_err-add_if : goal.returns-in_err-add_if
returns-in_err-add_if c =
    raised _ _ OutOfMemory c.from_residual-in_err-add_if.result c.from_residual-in_err-add_if.ensures.1 tt
