use Rattle.std.proofs.Common.{refl}
use Rattle.text_iregexp.proofs.PatternReading.{refusal_of}
use Rattle.text_iregexp.proofs.refusal.refusal.Goals as goal

pub returns : goal.returns
returns c = refusal_of c.args.text.now _ c.args.error _ c.requires refl refl c.kind_at.ensures
