use Rattle.std.proofs.Common.{[], ◌∷◌, cond, refl, ap}
use Rattle.std.specs.Str.{chars}
use Rattle.tinyjson.specs.View.{view}
use Rattle.tinyjson_view.specs.Views.{tree_of, members_of}
use Rattle.text_iregexp.specs.PatternDeciding.{is_found}
use Rattle.tinyjson_schema_keywords.specs.declared.keyword.Keyword.TheVariants as kw
use Rattle.tinyjson_schema.specs.Every.{token, word, within, found_uses}
use Rattle.tinyjson_schema.proofs.Adding.{gather_next, gather_end, uses_as}
use Rattle.tinyjson_schema.specs.declared.walk.CheckError.TheVariants.{OutOfMemory}
use Rattle.tinyjson_schema.proofs.Deep.{raised}
use Rattle.tinyjson_schema.proofs.validate.uses.add_found.Goals as goal

pub invariant_of-one : goal.invariant_of-one
invariant_of-one c = record { same = c.requires }

pub loop-member-preserved : goal.loop-member-preserved
loop-member-preserved c =
    let q = chars c.args.pattern.now in
    let r = view c.args.schema.now in
    let p = c.member-item.result in
    let k = chars p.key.now in
    let one = within (word kw.PatternProperties ∷ token q ∷ []) (token k) r (tree_of p.value) ∷ [] in
    gather_next (λ xs. found_uses q r (members_of xs)) c.args.members.now c.loop-member.member-index _ p _ _ (cond (is_found q k) one [])
    c.loop-member-test.true c.member-item.is refl
    (uses_as _ _ _ _ (ap (λ b. cond b one []) c.in_ok-is_found.ensures) c.in_ok-add_if.ensures) c.loop-member.invariant

pub returns : goal.returns
returns c = gather_end (λ xs. found_uses (chars c.args.pattern.now) (view c.args.schema.now) (members_of xs)) c.args.members.now
    c.loop-member.member-index _ _ c.loop-member-test.false refl c.loop-member.invariant

pub returns-in_err-is_found : goal.returns-in_err-is_found
returns-in_err-is_found c =
    raised _ _ c.in_err-is_found.field-0.0 c.from_residual.result c.from_residual.ensures.1 c.in_err-is_found.ensures

pub returns-in_err-add_if : goal.returns-in_err-add_if
returns-in_err-add_if c =
    raised _ _ OutOfMemory c.from_residual-in_err-add_if.result c.from_residual-in_err-add_if.ensures.1 tt
