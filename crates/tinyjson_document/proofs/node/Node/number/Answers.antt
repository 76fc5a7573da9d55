use Rattle.std.proofs.Common.{◌∙◌, option_map, sym, ap}
use Rattle.tinyjson_document.proofs.Places.{short_known, kept_known, number_not}
use Rattle.tinyjson_document.proofs.node.Node.number.Goals as goal

pub returns-in-Some : goal.returns-in-Some
returns-in-Some c =
    let n = c.args.self.now in
    short_known n.document.now.store n.cell n.known c.in-Short.span _ c.in-Short.is
    (λ d h. ap (option_map (λ x. x.decimal)) (sym c.in-Some.is) ∙ c.short_number.ensures d h)

pub returns-in-None : goal.returns-in-None
returns-in-None c =
    let n = c.args.self.now in
    short_known n.document.now.store n.cell n.known c.in-Short.span _ c.in-Short.is
    (λ d h. ap (option_map (λ x. x.decimal)) (sym c.in-None.is) ∙ c.short_number.ensures d h)

pub returns-in-Some-kept_number : goal.returns-in-Some-kept_number
returns-in-Some-kept_number c =
    let n = c.args.self.now in
    kept_known n.document.now.store n.cell n.known c.in-Kept.index _ c.in-Kept.is
    (λ d h. ap (option_map (λ x. x.now.decimal)) (sym c.in-Some-kept_number.is) ∙ c.kept_number.ensures d h)

pub returns-in-None-kept_number : goal.returns-in-None-kept_number
returns-in-None-kept_number c =
    let n = c.args.self.now in
    kept_known n.document.now.store n.cell n.known c.in-Kept.index _ c.in-Kept.is
    (λ d h. ap (option_map (λ x. x.now.decimal)) (sym c.in-None-kept_number.is) ∙ c.kept_number.ensures d h)

pub returns-in_default : goal.returns-in_default
returns-in_default c =
    let n = c.args.self.now in
    number_not n.document.now.store n.cell n.known (λ p. c.in_default.not-Short p) (λ i. c.in_default.not-Kept i)
