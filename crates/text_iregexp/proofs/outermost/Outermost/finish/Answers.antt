use Rattle.std.proofs.Common.{ap, sym, ◌∙◌}
use Rattle.text_iregexp.proofs.OutermostCases.{closed_not_group, closed_all, out_of}
use Rattle.text_iregexp.proofs.outermost.Outermost.finish.Goals as goal

pub returns-then-not-is_outermost : goal.returns-then-not-is_outermost
returns-then-not-is_outermost c = closed_not_group c.args.self.now (λ h a. sym c.if-not-is_outermost.true ∙ c.is_outermost.ensures h a)

pub end_case-requires : goal.end_case-requires
end_case-requires c =
    out_of c.args.self.now c.is_outermost.result c.requires c.is_outermost.ensures c.if-not-is_outermost.false

pub returns : goal.returns
returns c =
    closed_all c.args.self.now _ (sym c.is_some.ensures ∙ c.if-is_some.false) (λ h a. sym c.if-not-is_outermost.false
    ∙ c.is_outermost.ensures h a) c.end_case.new.self
    c.in_ok-end_case.ensures (ap (λ v. v.items) c.replace.ensures.value)
