use Rattle.std.proofs.Common.{IsSome, subst, sym}
use Rattle.std.specs.List.{All}
use Rattle.tinyjson_pointer.specs.Tokens.{tokens_of}
use Rattle.tinyjson_pointer.specs.Walk.{part_at}
use Rattle.tinyjson_schema.specs.Every.{AreFirst, AreNoneIfValid}
use Rattle.tinyjson_schema.proofs.Callers.{raised_alone}
use Rattle.tinyjson_schema.specs.Reading.{root_in}
use Rattle.tinyjson_schema.specs.declared.walk.CheckError.TheVariants.{OutOfMemory}
use Rattle.tinyjson_schema.specs.declared.violation.Violation.{Violation}
use Rattle.tinyjson_schema_report.specs.Finds.{HasWords}
use Rattle.tinyjson_schema_report.specs.declared.found.Finding.{Finding}
use Rattle.tinyjson_schema_report.proofs.Leading.{first_at_parts, all_made}
use Rattle.tinyjson_schema_report.proofs.every.find_every.Goals as goal

pub returns-clause-found : goal.returns-clause-found
returns-clause-found g c =
    let root = root_in c.args.schema.now c.args.checks.formats in
    let t = g.V.AsView.tree c.args.value in
    let places = c.in_ok-violations.ensures in
    let same = sym c.in_ok-found.ensures.same in
    let there : Violation → Type 0 = λ v. IsSome (part_at t (tokens_of v.instance_location)) in (
      subst (AreFirst c.args.most root c.args.checks.limits.nested t) same places.first,
      subst (AreNoneIfValid c.args.most root t) same places.none,
      subst (λ u. All (HasWords root.tree u) c.in_ok-found.found.items) c.as_view-view.ensures c.in_ok-found.ensures.words,
      all_made there (λ (f : Finding). f.violation) c.in_ok-found.found.items
          (subst (All there) same (first_at_parts c.args.most root c.args.checks.limits.nested t c.as_view-view.result
          c.in_ok-violations.violations.items c.as_view-view.ensures places.first)),
    )

pub returns-in_err-violations-clause-deep : goal.returns-in_err-violations-clause-deep
returns-in_err-violations-clause-deep g c =
    raised_alone _ c.in_err-violations.field-0.0 c.from_residual.result c.from_residual.ensures.1 c.in_err-violations.ensures.deep

pub returns-in_err-found-clause-deep : goal.returns-in_err-found-clause-deep
returns-in_err-found-clause-deep g c =
    raised_alone _ OutOfMemory c.from_residual-in_err-found.result c.from_residual-in_err-found.ensures.1 tt
