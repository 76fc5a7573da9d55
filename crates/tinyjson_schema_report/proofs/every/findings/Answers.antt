use Rattle.std.proofs.Common.{refl, arith}
use Rattle.std.proofs.lemmas.List.{nil_from_length}
use Rattle.tinyjson_schema.specs.Reading.{tree_of}
use Rattle.tinyjson_schema_report.specs.Finds.{HasWords}
use Rattle.tinyjson_schema_report.specs.declared.found.Finding.{Finding}
use Rattle.tinyjson_view.specs.Views.{tree_of as value_tree}
use Rattle.tinyjson_schema_report.proofs.Callers.{gathering_begins, gathering_next, gathering_ends}
use Rattle.tinyjson_schema_report.proofs.every.findings.Goals as goal

pub loop-violation-init : goal.loop-violation-init
loop-violation-init c =
    gathering_begins (λ (f : Finding). f.violation) (HasWords (tree_of c.args.schema.now) (value_tree c.args.value.now))
    c.args.violations.items c.from_vec-rest.result.items c.new-found.result.items c.from_vec-rest.ensures.items c.new-found.ensures.items

pub loop-violation-preserved : goal.loop-violation-preserved
loop-violation-preserved c =
    let y : Finding = record { violation = c.in-Some.violation; words = c.in_ok-words.words } in
    gathering_next (λ (f : Finding). f.violation) (HasWords (tree_of c.args.schema.now) (value_tree c.args.value.now))
    c.args.violations.items c.loop-violation.rest.items c.pop_front.new.self.items c.loop-violation.found.items c.push.new.self.items
    c.in-Some.violation y c.loop-violation.invariant c.in-Some.ensures.items refl c.in_ok-words.ensures c.in_ok-push.ensures.items

pub returns-clause-same : goal.returns-clause-same
returns-clause-same c =
    gathering_ends (λ (f : Finding). f.violation) (HasWords (tree_of c.args.schema.now) (value_tree c.args.value.now))
    c.args.violations.items c.loop-violation.rest.items c.loop-violation.found.items
    (nil_from_length c.loop-violation.rest.items (omega (arith, c.loop-violation.rest.ok, c.in_default.ensures.cases.0)))
    c.loop-violation.invariant

pub returns-clause-words : goal.returns-clause-words
returns-clause-words c = c.loop-violation.invariant.hold
