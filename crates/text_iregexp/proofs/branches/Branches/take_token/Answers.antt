use Rattle.std.proofs.Common.{refl, arith, length}
use Rattle.text_iregexp.specs.Fronts.{token_of}
use Rattle.text_iregexp.proofs.Reading.{tested_as}
use Rattle.text_iregexp.proofs.PatternBranches.{token_takes, next_test}
use Rattle.text_iregexp.proofs.branches.Branches.take_token.Goals as goal

pub returns : goal.returns
returns c =
    token_takes c.args.self.now _ (token_of c.args.taken) c.accept_token.result c.is_blank.result _ c.is_start.result c.is_end.result refl refl
    c.is_blank.ensures
    (tested_as _ _ (length c.args.self.now.outer.items) c.is_empty-out.ensures (omega (arith, c.args.self.now.outer.ok.0)))
    c.is_start.ensures c.is_end.ensures refl refl
    (next_test _ _ _ _ _
    (tested_as _ _ (length c.args.self.now.outer.items) c.is_empty-out.ensures (omega (arith, c.args.self.now.outer.ok.0)))
    c.is_bar.ensures c.if-next.false) c.accept_token.ensures
