use Rattle.std.proofs.Common.{refl}
use Rattle.text_regexp.proofs.Building.{means_up_to}
use Rattle.text_regexp.proofs.expression.Expression.up_to.Goals as goal

pub returns : goal.returns
returns c = λ f same. means_up_to _ _ f c.args.most same refl
