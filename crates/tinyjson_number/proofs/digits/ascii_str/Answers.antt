use Rattle.std.proofs.lemmas.Str.{IsUtf8-from_ascii}
use Rattle.tinyjson_number.proofs.Runs.{ok_of}
use Rattle.tinyjson_number.proofs.digits.ascii_str.Goals as goal

pub unwrap-requires : goal.unwrap-requires
unwrap-requires c = ok_of c.from_utf8.result _ _ c.from_utf8.ensures.cases (λ e h. h.0 (IsUtf8-from_ascii c.args.bytes.now c.requires))
