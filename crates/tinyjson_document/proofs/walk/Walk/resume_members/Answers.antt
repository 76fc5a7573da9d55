use Rattle.std.proofs.Common.{◌≡◌, ◌+◌, ◌∙◌, ◌++◌, [], ◌∷◌, false, sym, ap, cond, length, length-append, append_assoc, reverse, arith}
use Rattle.std.proofs.lemmas.List.{length-reverse}
use Rattle.std.proofs.lemmas.Result.{MatchResult-from_err}
use Rattle.tinyjson.specs.Indent.{indent_of}
use Rattle.tinyjson_grammar.specs.Text.{text, quoted, newline, before, after_colon}
use Rattle.tinyjson_output.proofs.Callers.{
  enc,
  sent_goes as goes,
  sent_stops as stops,
  sent_stop as stop,
  sent_written_none as written_none,
}
use Rattle.tinyjson_document.specs.declared.walk.Rest.TheVariants.{Members}
use Rattle.tinyjson_document.proofs.Writing.{
  next_member,
  last_member,
  closes,
  less_close,
  ok_always,
  ok_map,
  less_member,
  left_pushed,
  one_more,
  then_advances,
}
use Rattle.tinyjson_document.proofs.walk.Walk.resume_members.Goals as goal

pub returns-in_default-clause-sent : goal.returns-in_default-clause-sent
returns-in_default-clause-sent g c = λ xs h.
    let a = c.args.self.now in
    let w = indent_of a.indent in
    let l : c.len-level.result ≡ length a.stack.items = omega (arith, a.stack.ok.0, c.len-level.ensures) in
    closes w a.store.now _ _ xs h.0 h.1 (cond c.args.first [] (newline w c.len-level.result)) 125 _ c.close.result (omega arith) h.2
    (h.3.2 ∙ last_member w a.store.now c.args.members.now _ _ c.args.first h.3.0 (length-reverse a.stack.items ∙ sym l)
    c.in_default.ensures.cases h.3.1) h.4 c.close.ensures

pub returns-in_default-clause-less : goal.returns-in_default-clause-less
returns-in_default-clause-less g c =
    let a = c.args.self.now in ok_always c.close.result (less_close a.store.now a.most (Members c.args.members c.args.first)
    (reverse a.stack.items))

pub returns-in_err-begin_member-clause-sent : goal.returns-in_err-begin_member-clause-sent
returns-in_err-begin_member-clause-sent g c = λ xs h.
    let a = c.args.self.now in
    let w = indent_of a.indent in
    let k = c.len-level.result + 1 in
    let l : c.len-level.result ≡ length a.stack.items = omega (arith, a.stack.ok.0, c.len-level.ensures) in
    let n = next_member w a.store.now c.in-Some.member.now c.in-Some.rest.now c.args.members.now c.args.first _ k xs
    (one_more a.stack.items c.len-level.result l) c.in-Some.ensures.cases.0 h in
    let rest = enc (text w k n.tree ++ (n.own ++ n.outer)) in
    let split = n.split ∙ sym (append_assoc (enc (before w k c.args.first)) (enc (quoted n.key ++ (58 ∷ after_colon w))) rest) in
    MatchResult-from_err _ _ _ c.from_residual.ensures.0
    (λ _. stops rest (c.in_err-begin_member.ensures n.key n.is_key) (written_none _ _ _ split))

pub returns-in_err-push-clause-sent : goal.returns-in_err-push-clause-sent
returns-in_err-push-clause-sent g c = λ xs h.
    let a = c.args.self.now in
    let w = indent_of a.indent in
    let k = c.len-level.result + 1 in
    let l : c.len-level.result ≡ length a.stack.items = omega (arith, a.stack.ok.0, c.len-level.ensures) in
    let n = next_member w a.store.now c.in-Some.member.now c.in-Some.rest.now c.args.members.now c.args.first _ k xs
    (one_more a.stack.items c.len-level.result l) c.in-Some.ensures.cases.0 h in
    let rest = enc (text w k n.tree ++ (n.own ++ n.outer)) in
    let split = n.split ∙ sym (append_assoc (enc (before w k c.args.first)) (enc (quoted n.key ++ (58 ∷ after_colon w))) rest) in
    MatchResult-from_err _ _ _ c.from_residual-in_err-push.ensures.0
    (λ _. stop (goes rest (c.in_ok-begin_member.ensures n.key n.is_key) (written_none _ _ _ split)))

pub returns-clause-sent : goal.returns-clause-sent
returns-clause-sent g c = λ xs h.
    let a = c.args.self.now in
    let w = indent_of a.indent in
    let k = c.len-level.result + 1 in
    let l : c.len-level.result ≡ length a.stack.items = omega (arith, a.stack.ok.0, c.len-level.ensures) in
    let n = next_member w a.store.now c.in-Some.member.now c.in-Some.rest.now c.args.members.now c.args.first _ k xs
    (one_more a.stack.items c.len-level.result l) c.in-Some.ensures.cases.0 h in
    let rest = enc (text w k n.tree ++ (n.own ++ n.outer)) in
    let split = n.split ∙ sym (append_assoc (enc (before w k c.args.first)) (enc (quoted n.key ++ (58 ∷ after_colon w))) rest) in
    let left = left_pushed w a.store.now a.stack.items c.push.new.stack.items
    (Members c.in-Some.rest false) n.own n.outer c.in_ok-push.ensures.stack n.rest n.left in
    then_advances w a.store.now _ _ _ xs (text w k n.tree ++ (n.own ++ n.outer)) _ c.begin.result
    (c.begin.ensures.sent n.tree k (n.own ++ n.outer) n.is (ap length c.in_ok-push.ensures.stack ∙ length-append a.stack.items _
    ∙ ap (λ m. m + 1) (sym l)) left)
    (goes rest (c.in_ok-begin_member.ensures n.key n.is_key) (written_none _ _ _ split))

pub returns-clause-less : goal.returns-clause-less
returns-clause-less g c =
    let a = c.args.self.now in
    ok_map c.begin.result (less_member a.store.now a.most _ c.in-Some.member.now c.in-Some.rest c.args.members c.args.first
    a.stack.items c.push.new.stack.items
    c.in-Some.ensures.cases.0 c.in_ok-push.ensures.stack) c.begin.ensures.less
