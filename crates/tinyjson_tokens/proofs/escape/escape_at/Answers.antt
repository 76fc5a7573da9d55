use Rattle.std.proofs.Common.{rules, arith, ◌≡◌, ◌+◌, ◌≤◌, length, get_or, ◌∙◌, sym, refl}
use Rattle.tinyjson_tokens.proofs.Reading.Escape.{short_at}
use Rattle.tinyjson_tokens.proofs.escape.escape_at.Goals as goal

pub returns-in-Some : goal.returns-in-Some
returns-in-Some c =
    let bytes = c.args.bytes.now in
    let at = c.args.at in
    let h : at + 2 ≤ length bytes = search (rules, arith) in
    let p : get_or bytes at 0 ≡ 92 = search rules in
    short_at bytes at (get_or bytes (at + 1) 0) c.in-Some.c h p refl (sym c.short_escape.ensures ∙ c.in-Some.is)
