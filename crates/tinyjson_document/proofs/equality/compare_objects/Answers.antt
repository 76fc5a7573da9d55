use Rattle.std.proofs.Common.{◌≡◌, ◌∙◌, ap, sym, rules}
use Rattle.tinyjson_grammar.specs.Kind.{kind_of}
use Rattle.tinyjson_grammar.specs.declared.kind.JsonKind.TheVariants as kind
use Rattle.tinyjson_document.specs.Comparing.{are_among}
use Rattle.tinyjson_document.specs.Document.{tree}
use Rattle.tinyjson_document.specs.Parts.{members_in}
use Rattle.tinyjson_document.proofs.Comparing.{objects, apart_objects}
use Rattle.tinyjson_document.proofs.equality.compare_objects.Goals as goal

pub returns-then-len-clause-same : goal.returns-then-len-clause-same
returns-then-len-clause-same g c =
    let object : kind_of (g.V.Other.tree c.args.other) ≡ kind.Object = search rules in
    apart_objects (tree c.args.node) (g.V.Other.tree c.args.other) c.requires.object object
    (λ e. c.if-len.true (c.len.ensures ∙ e ∙ sym c.len-2.ensures))

pub returns-clause-same : goal.returns-clause-same
returns-clause-same g c =
    let object : kind_of (g.V.Other.tree c.args.other) ≡ kind.Object = search rules in
    ap (λ ms. are_among ms (members_in (g.V.Other.tree c.args.other))) c.members.ensures
    ∙ objects (tree c.args.node) (g.V.Other.tree c.args.other) c.requires.object object c.args.node.known.sound
    (g.met.V.Other.sound c.args.other) (sym c.len.ensures ∙ c.if-len.false ∙ c.len-2.ensures)
