use Rattle.std.proofs.lemmas.Result.{err_from_is_err_and}
use Rattle.tinyjson_tokens.proofs.source.Source.quoted.Goals as goal

pub returns-in_err-plain-clause-quoted : goal.returns-in_err-plain-clause-quoted
returns-in_err-plain-clause-quoted g c =
    let p = err_from_is_err_and c.from_residual.result c.from_residual.ensures.1 in
    let t = c.plain.ensures.plain in
    rw p.1 (record { taken = t.taken; pass = t.pass; takes = t.takes; added = tt })
