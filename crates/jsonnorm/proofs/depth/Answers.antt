use Rattle.std.proofs.Common.{SomeIff, subst, sym, arith}
use Rattle.std.proofs.lemmas.Bool.Decides.{nat_tests}
use Rattle.std.specs.Str.Parse.{digits_value}
use Rattle.jsonnorm.specs.Options.{IsLimit}
use Rattle.jsonnorm.proofs.Limits.{limit}
use Rattle.jsonnorm.proofs.depth.Goals as goal

pub returns : goal.returns
returns c =
    subst (λ o. SomeIff o (IsLimit c.args.word.now) (digits_value 10 c.args.word.now)) (sym c.ok.ensures.value)
    (limit c.args.word.now c.parse.result (omega arith) (λ e. grind (arith, nat_tests)) c.parse.ensures.value.0)
