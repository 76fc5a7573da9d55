use Rattle.std.proofs.Common.{◌-◌, length, reverse}
use Rattle.std.proofs.lemmas.Result.{MatchResult-from_err}
use Rattle.tinyjson.specs.Indent.{indent_of}
use Rattle.tinyjson_document.proofs.Writing.{begin_fails, begin_stops, begin_opens, begin_ends, less_leaf, less_open}
use Rattle.tinyjson_document.proofs.walk.Walk.open.Goals as goal

pub returns-in_err-write_head-clause-sent : goal.returns-in_err-write_head-clause-sent
returns-in_err-write_head-clause-sent g c = λ t k xs h d l.
    MatchResult-from_err _ _ _ c.from_residual.ensures.0
    (λ _. begin_fails (indent_of c.args.self.now.indent) k t xs (c.in_err-write_head.ensures t h))

pub returns-in_err-push-in-Some-clause-sent : goal.returns-in_err-push-in-Some-clause-sent
returns-in_err-push-in-Some-clause-sent g c = λ t k xs h d l.
    MatchResult-from_err _ _ _ c.from_residual-in_err-push-in-Some.ensures.0
    (λ _. begin_stops (indent_of c.args.self.now.indent) k t xs (c.in_ok-write_head.ensures t h))

pub returns-in_ok-push-in-Some-clause-sent : goal.returns-in_ok-push-in-Some-clause-sent
returns-in_ok-push-in-Some-clause-sent g c = λ t k xs h d l.
    let w = indent_of c.args.self.now.indent in
    let r = c.in-Some.ensures.rest w t k h in
    begin_opens w c.args.self.now.store.now _ _ k t xs r.0 c.in-Some.rest c.args.self.now.stack.items c.push.new.stack.items
    d (c.in_ok-write_head.ensures t h) r.2 r.1 l c.in_ok-push-in-Some.ensures.stack

pub returns-in_ok-push-in-Some-clause-less : goal.returns-in_ok-push-in-Some-clause-less
returns-in_ok-push-in-Some-clause-less g c =
    less_open c.args.self.now.store.now c.args.self.now.most c.args.node c.args.self.now.stack.items c.push.new.stack.items
    c.in-Some.rest
    c.in_ok-push-in-Some.ensures.stack c.in_ok-push-in-Some.ensures.room c.in-Some.ensures.less

pub returns-in-None-clause-sent : goal.returns-in-None-clause-sent
returns-in-None-clause-sent g c = λ t k xs h d l.
    let w = indent_of c.args.self.now.indent in
    begin_ends w c.args.self.now.store.now _ _ k t xs _ (c.in_ok-write_head.ensures t h) (c.in-None.ensures.rest w t k h) l

pub returns-in-None-clause-less : goal.returns-in-None-clause-less
returns-in-None-clause-less g c =
    let a = c.args.self.now in less_leaf a.store.now (a.most - length a.stack.items) a.most c.args.node (reverse a.stack.items)
