use Rattle.std.proofs.Common.{◌≤◌, ◌∙◌, length, subst, sym}
use Rattle.text_regexp.specs.Automata.{Extends, LeadsTo}
use Rattle.text_regexp.proofs.Automata.{found_leads, found_reads}
use Rattle.text_regexp.proofs.automaton.Automaton.grow.Goals as goal

pub put-requires-clause-reads : goal.put-requires-clause-reads
put-requires-clause-reads c =
    let x = c.make_room.new.self in
    let y = c.row_of.new.self in
    let within = subst (λ v. c.args.row ≤ length v.items) (sym c.make_room.ensures.states) c.requires.row in
    found_reads x.expression.root y.expression.root x.states.items y.states.items c.args.row c.args.c c.in_ok-next.next c.in_ok-state.state
    (c.in_ok-next.ensures.same ∙ c.moved.ensures.same) within
    (subst (λ v. Extends v.items y.states.items) c.moved.ensures.states c.in_ok-next.ensures.rows) c.in_ok-state.ensures.reads
    c.in_ok-next.ensures.next

pub returns-clause-next : goal.returns-clause-next
returns-clause-next c =
    let x = c.make_room.new.self in
    let y = c.row_of.new.self in
    let old = c.args.self.now in
    let leads = found_leads x.expression.root y.expression.root x.states.items y.states.items c.args.row c.args.c c.in_ok-next.next
    c.in_ok-state.state (c.in_ok-next.ensures.same ∙ c.moved.ensures.same) c.in_ok-state.ensures.reads c.in_ok-next.ensures.next in
    let at_root = subst (λ n. LeadsTo n x.states.items y.states.items c.args.row c.args.c c.in_ok-next.next) c.make_room.ensures.same leads in
    let from_old = subst (λ v. LeadsTo old.expression.root v.items y.states.items c.args.row c.args.c c.in_ok-next.next)
    c.make_room.ensures.states at_root in
    subst (λ v. LeadsTo old.expression.root old.states.items v.items c.args.row c.args.c c.in_ok-next.next) (sym c.put.ensures.states) from_old
