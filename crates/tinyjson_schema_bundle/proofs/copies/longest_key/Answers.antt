use Rattle.std.proofs.Common.{◌≡◌, ◌∙◌, ◌+◌, drop, length, sym, ap, string_bytes}
use Rattle.tinyjson.specs.View.{members_listed}
use Rattle.tinyjson_schema_bundle.specs.Scopes.{longest, longer}
use Rattle.tinyjson_schema_bundle.proofs.Scoping.{longest_next}
use Rattle.tinyjson_schema_bundle.proofs.copies.longest_key.Goals as goal

pub loop-member-preserved : goal.loop-member-preserved
loop-member-preserved c =
    let ps = c.args.members.now in
    let i = c.loop-member.member-index in
    let n = c.loop-member.most in
    let x = c.member-item.result in
    let most : c.longer-most.result ≡ longer n (length (string_bytes x.0.now)) = c.longer-most.ensures
    ∙ ap (λ bs. longer n (length bs)) c.as_str.ensures.value in
    ap (longest (members_listed (drop (i + 1) ps))) most
    ∙ (sym (longest_next ps i n x c.loop-member-test.true c.member-item.is) ∙ c.loop-member.invariant)
