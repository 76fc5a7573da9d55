use Rattle.std.proofs.Common.{refl, sym}
use Rattle.tinyjson_number.proofs.Scans.{sign_between}
use Rattle.tinyjson_number.proofs.scan.sign_at.Goals as goal

pub returns-then-has_sign : goal.returns-then-has_sign
returns-then-has_sign c = sign_between c.args.bytes.now c.args.at _ (sym c.if-has_sign.ensures) refl
