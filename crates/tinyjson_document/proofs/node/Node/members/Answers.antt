use Rattle.std.proofs.Common.{◌≡◌, ◌∙◌, sym, ap, subst}
use Rattle.tinyjson_document.specs.Known.{KnownMembers}
use Rattle.tinyjson_cells.specs.Order.{part}
use Rattle.tinyjson_document.proofs.Places.{members_at, members_not, members_known, members_left_known}
use Rattle.tinyjson_cells.proofs.Callers.{part_empty}
use Rattle.tinyjson_document.proofs.node.Node.members.Goals as goal
use Rattle.tinyjson_document.proofs.node.Node.members.Goals.{in-Object, in_default}

pub invariant_of-result : goal.invariant_of-result
invariant_of-result c =
    let n = c.args.self.now in
    let s = n.document.now.store in
    let rest : part s.members.items c.match-self.span ≡ members_at s n.cell = elim c.match-self.branch [
      | in-Object w ↦ ap (part s.members.items) w.span-is ∙ sym (ap (members_at s) w.in-Object.is)
      | in_default w ↦ part_empty s.members.items c.match-self.span (ap (λ p. p.from) w.span-is ∙ sym (ap (λ p. p.to) w.span-is))
          ∙ sym (members_not s n.cell (λ p. w.in_default.not-Object p))
    ] in
    record {
      known = subst (KnownMembers s) (sym (c.part.ensures ∙ ap (λ z. part z c.match-self.span) c.deref.ensures.value ∙ rest))
          (members_known s n.cell n.known);
    }

pub returns : goal.returns
returns c =
    let n = c.args.self.now in
    let s = n.document.now.store in
    let rest : part s.members.items c.match-self.span ≡ members_at s n.cell = elim c.match-self.branch [
      | in-Object w ↦ ap (part s.members.items) w.span-is ∙ sym (ap (members_at s) w.in-Object.is)
      | in_default w ↦ part_empty s.members.items c.match-self.span (ap (λ p. p.from) w.span-is ∙ sym (ap (λ p. p.to) w.span-is))
          ∙ sym (members_not s n.cell (λ p. w.in_default.not-Object p))
    ] in
    members_left_known s n.cell n.known _ (c.part.ensures ∙ ap (λ z. part z c.match-self.span) c.deref.ensures.value ∙ rest)
    c.result-1.given.0
