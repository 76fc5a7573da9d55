use Rattle.std.proofs.Common.{◌∙◌, Some, None, refl, sym, ap, option_map}
use Rattle.std.proofs.lemmas.Str.{encodes-chars}
use Rattle.std.specs.Str.{chars}
use Rattle.tinyjson_document.specs.Document.{tree}
use Rattle.tinyjson_document.specs.Known.{known_one}
use Rattle.tinyjson_cells.specs.Order.{part}
use Rattle.tinyjson_document.proofs.Finding.{known_member, known_no_member, sought}
use Rattle.tinyjson_document.proofs.Places.{members_at}
use Rattle.tinyjson_document.proofs.node.Node.member.Goals as goal

pub returns-in_err-member : goal.returns-in_err-member
returns-in_err-member c =
    let n = c.args.self.now in
    let s = n.document.now.store in
    let all = c.part.ensures ∙ ap (λ z. part z c.in-Object.span) c.deref.ensures.value ∙ sym (ap (members_at s) c.in-Object.is) in
    let key = c.as_bytes.ensures.value ∙ sym (encodes-chars c.args.key.now c.utf8.key) in
    ap (option_map tree) c.from_residual.ensures ∙ sym (known_no_member s n.cell n.known (chars c.args.key.now)
    (sought s n.cell n.known (chars c.args.key.now) _ _ _ refl key all None c.in_err-member.ensures))

pub invariant_of-result : goal.invariant_of-result
invariant_of-result c =
    let n = c.args.self.now in
    let s = n.document.now.store in
    let all = c.part.ensures ∙ ap (λ z. part z c.in-Object.span) c.deref.ensures.value ∙ sym (ap (members_at s) c.in-Object.is) in
    let key = c.as_bytes.ensures.value ∙ sym (encodes-chars c.args.key.now c.utf8.key) in
    let m = c.in_ok-member.member.now in
    record {
      known = (known_member s n.cell n.known (chars c.args.key.now) m (sought s n.cell n.known (chars c.args.key.now) _ _ _
          refl key all (Some m) c.in_ok-member.ensures)).here;
    }

pub returns : goal.returns
returns c =
    let n = c.args.self.now in
    let s = n.document.now.store in
    let all = c.part.ensures ∙ ap (λ z. part z c.in-Object.span) c.deref.ensures.value ∙ sym (ap (members_at s) c.in-Object.is) in
    let key = c.as_bytes.ensures.value ∙ sym (encodes-chars c.args.key.now c.utf8.key) in
    let m = c.in_ok-member.member.now in
    let found = known_member s n.cell n.known (chars c.args.key.now) m (sought s n.cell n.known (chars c.args.key.now) _ _ _
    refl key all (Some m) c.in_ok-member.ensures) in
    ap Some (known_one s m.value c.result-2-1.given.0 found.here) ∙ sym found.there
