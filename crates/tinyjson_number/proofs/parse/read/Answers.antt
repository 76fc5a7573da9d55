use Rattle.std.proofs.Common.{length, arith}
use Rattle.tinyjson_number.proofs.Scans.{spelled_at, spells_none}
use Rattle.tinyjson_number.proofs.parse.read.Goals as goal

pub returns-in_err-parts : goal.returns-in_err-parts
returns-in_err-parts c =
    let text = c.args.text.now in
    rw c.from_residual.ensures (λ n s. c.in_err-parts.ensures n (length text) (spelled_at text n s))

pub returns-then-end-text : goal.returns-then-end-text
returns-then-end-text c = λ n s. let p = c.in_ok-parts in spells_none c.args.text.now p.ensures.0 n p.end p.ensures.2 (omega arith) s
