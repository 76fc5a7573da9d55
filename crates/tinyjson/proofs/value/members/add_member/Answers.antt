use Rattle.std.proofs.Common.{rules, ◌≡◌, None, Some, ap, ◌∙◌}
use Rattle.std.specs.Map.{lookup}
use Rattle.std.specs.String.{string_eq}
use Rattle.tinyjson.specs.View.{view, text, members_view}
use Rattle.tinyjson.specs.private.Members.{add}
use Rattle.tinyjson.proofs.Values.View.{members_view_added, members_view_kept}
use Rattle.tinyjson.proofs.value.members.add_member.Goals as goal

pub returns-in-Ok-Vacant : goal.returns-in-Ok-Vacant
returns-in-Ok-Vacant c =
    let old = c.args.members.now.entries in
    let none : lookup (string_eq c.args.key) old ≡ None = search rules in
    let e = c.members-in-Ok-Vacant-1.given.1 (search rules) in
    members_view_added old c.members-in-Ok-Vacant-1.given.0.entries c.args.key c.insert.result.now none
    (λ q. ap (λ m. lookup (string_eq q) m.entries) e ∙ search rules)
    ∙ ap (λ w. add (text c.args.key) (view w) (members_view old)) c.insert.ensures.value

pub returns-in-Ok-Occupied : goal.returns-in-Ok-Occupied
returns-in-Ok-Occupied c =
    let old = c.args.members.now.entries in
    let v = c.into_mut.result.now in
    let some : lookup (string_eq c.args.key) old ≡ Some v = search rules in
    let e = c.members-in-Ok-Occupied-2-1.given.1 (search rules) in
    members_view_kept old c.members-in-Ok-Occupied-2-1.given.0.entries c.args.key c.args.value v some
    (λ q. ap (λ m. lookup (string_eq q) m.entries) e ∙ search rules)
