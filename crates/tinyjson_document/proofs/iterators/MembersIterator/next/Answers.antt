use Rattle.std.proofs.Common.{◌≡◌, sym, subst}
use Rattle.std.proofs.lemmas.Option.{none-some, same_Some}
use Rattle.std.specs.Str.{chars}
use Rattle.tinyjson_document.specs.Document.{GivesMember}
use Rattle.tinyjson_document.specs.Known.{KnownMembers}
use Rattle.tinyjson_document.proofs.Places.{first_member, key_text, member_joins, next_member, no_member_left}
use Rattle.tinyjson_document.proofs.iterators.MembersIterator.next.Goals as goal

pub returns-in_err-member-clause-steps : goal.returns-in_err-member-clause-steps
returns-in_err-member-clause-steps c =
    let i = c.args.self.now in
    let none = no_member_left i.document.now.store i.rest.now i.known c.in_err-member.ensures.cases in
    subst (λ r. GivesMember i r i) (sym c.from_residual.ensures) (none, none)

pub returns-in_err-key-clause-steps : goal.returns-in_err-key-clause-steps
returns-in_err-key-clause-steps c =
    let i = c.args.self.now in
    let s = i.document.now.store in
    let e = c.in_ok-member.member.now in
    let text = key_text s i.rest.now e _ c.in_ok-member.ensures.cases.0 i.known in
    absurd (none-some _ (c.in_err-key.ensures _ text))

pub invariant_of-self : goal.invariant_of-self
invariant_of-self c =
    let i = c.args.self.now in
    let s = i.document.now.store in
    record { known = (next_member s _ _ (subst (KnownMembers s) c.in_ok-member.ensures.cases.0 i.known)).later }

pub invariant_of-result : goal.invariant_of-result
invariant_of-result c =
    let i = c.args.self.now in
    let s = i.document.now.store in
    record { known = (next_member s _ _ (subst (KnownMembers s) c.in_ok-member.ensures.cases.0 i.known)).here }

pub returns-clause-steps : goal.returns-clause-steps
returns-clause-steps c =
    let i = c.args.self.now in
    let s = i.document.now.store in
    let e = c.in_ok-member.member.now in
    let whole = c.in_ok-member.ensures.cases.0 in
    let key = (first_member s i.rest.now e _ whole i.known).key in
    let text = key_text s i.rest.now e _ whole i.known in
    let seen = c.in_ok-key.ensures _ text in
    let same : key ≡ chars c.in_ok-key.key.now = sym (same_Some _ _ seen) in
    member_joins s i.rest.now e _ whole i.known _ same c.result-2-1.given.0 c.self-1.given.0
