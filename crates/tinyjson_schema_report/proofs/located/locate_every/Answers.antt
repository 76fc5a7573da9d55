use Rattle.std.proofs.Common.{refl, arith, subst, sym}
use Rattle.std.proofs.lemmas.List.{nil_from_length}
use Rattle.std.proofs.lemmas.List.Elements.{All-head, All-tail}
use Rattle.std.specs.List.{All}
use Rattle.std.specs.Str.{chars}
use Rattle.tinyjson_schema_report.specs.Every.{IsAtPart}
use Rattle.tinyjson_schema_report.specs.Located.{IsLocated}
use Rattle.tinyjson_schema_report.specs.declared.located.Located.{Located}
use Rattle.tinyjson_schema_report.proofs.Callers.{gathering_begins, gathering_next, gathering_ends}
use Rattle.tinyjson_schema_report.proofs.located.locate_every.Goals as goal

pub loop-finding-init : goal.loop-finding-init
loop-finding-init c = (
  gathering_begins (λ (x : Located). x.finding) (IsLocated (chars c.args.text.now))
      c.args.found.items c.from_vec-rest.result.items c.new-located.result.items c.from_vec-rest.ensures.items c.new-located.ensures.items,
  c.requires.0,
  c.requires.1,
  c.requires.2,
  subst (All (IsAtPart c.requires.1)) (sym c.from_vec-rest.ensures.items) c.requires.3,
)

pub locate-requires : goal.locate-requires
locate-requires c =
    let h = c.loop-finding.invariant in
    let left = subst (All (IsAtPart h.2)) c.in-Some.ensures.items h.4 in
    (h.1, h.2, h.3, All-head (IsAtPart h.2) c.in-Some.finding c.pop_front.new.self.items left)

pub loop-finding-preserved : goal.loop-finding-preserved
loop-finding-preserved c =
    let h = c.loop-finding.invariant in (
      gathering_next (λ (x : Located). x.finding) (IsLocated (chars c.args.text.now))
          c.args.found.items c.loop-finding.rest.items c.pop_front.new.self.items c.loop-finding.located.items c.push.new.self.items
          c.in-Some.finding c.in_ok-placed.placed h.0 c.in-Some.ensures.items c.in_ok-placed.ensures.finding
          c.in_ok-placed.ensures.place c.in_ok-push.ensures.items,
      h.1,
      h.2,
      h.3,
      All-tail (IsAtPart h.2) c.in-Some.finding c.pop_front.new.self.items (subst (All (IsAtPart h.2)) c.in-Some.ensures.items h.4),
    )

pub returns-clause-findings : goal.returns-clause-findings
returns-clause-findings c =
    gathering_ends (λ (x : Located). x.finding) (IsLocated (chars c.args.text.now))
    c.args.found.items c.loop-finding.rest.items c.loop-finding.located.items
    (nil_from_length c.loop-finding.rest.items (omega (arith, c.loop-finding.rest.ok, c.in_default.ensures.cases.0)))
    c.loop-finding.invariant.0

pub returns-clause-places : goal.returns-clause-places
returns-clause-places c = c.loop-finding.invariant.0.hold
