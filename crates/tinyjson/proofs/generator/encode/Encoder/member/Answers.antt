use Rattle.std.proofs.Common.{◌∷◌, ◌++◌, ap}
use Rattle.std.specs.Str.{chars}
use Rattle.std.proofs.lemmas.Result.{MatchResult-from_err}
use Rattle.tinyjson.specs.Indent.{indent_of}
use Rattle.tinyjson_grammar.specs.Text.{text, quoted, before, after_colon}
use Rattle.tinyjson.specs.View.{view}
use Rattle.tinyjson_output.proofs.Callers.{sent_goes as goes, sent_buffered_part as buffered_part, sent_stops as stops}
use Rattle.tinyjson_output.proofs.Callers.{sent_written_none as written_none, enc, three}
use Rattle.tinyjson.proofs.Writing.Containers.{begins_after, compact_member, is_compact}
use Rattle.tinyjson.proofs.generator.encode.Encoder.member.Goals as goal

pub returns-then-quick_key-clause-sent : goal.returns-then-quick_key-clause-sent
returns-then-quick_key-clause-sent g c =
    let w = indent_of c.args.self.now.indent in
    let key = c.args.key.now in
    let v = text w c.args.level (view c.args.value.now) in
    let quick = rw c.if-quick_key.true at c.quick_key.ensures in
    let none = is_compact w c.args.self.now.indent c.is_none.result c.is_none.ensures quick.0 in
    begins_after w c.args.level _ _ _ _ (enc v) _ _ _ (buffered_part _ _ _ _ _ (enc v)
    (compact_member w c.args.level c.args.first key v c.utf8.key none) quick.1) (c.begin.ensures.sent c.args.level)

pub returns-in_err-separate-clause-sent : goal.returns-in_err-separate-clause-sent
returns-in_err-separate-clause-sent g c =
    let w = indent_of c.args.self.now.indent in
    let key = quoted (chars c.args.key.now) in
    let v = text w c.args.level (view c.args.value.now) in
    let start = enc (before w c.args.level c.args.first) in
    let same = rw c.if-quick_key.false at c.quick_key.ensures in
    rw (← same) (MatchResult-from_err _ _ _ c.from_residual.ensures.0 (λ _. stops _ c.in_err-separate.ensures.sent
    (written_none _ _ _ (ap (λ z. start ++ z) (three key (58 ∷ after_colon w) v)))))

pub returns-in_err-quote-clause-sent : goal.returns-in_err-quote-clause-sent
returns-in_err-quote-clause-sent g c =
    let w = indent_of c.args.self.now.indent in
    let key = quoted (chars c.args.key.now) in
    let v = text w c.args.level (view c.args.value.now) in
    let start = enc (before w c.args.level c.args.first) in
    let rest = enc (58 ∷ after_colon w) ++ enc v in
    let h = goes (enc key ++ rest) c.in_ok-separate.ensures.sent (written_none _ _ _
    (ap (λ z. start ++ z) (three key (58 ∷ after_colon w) v))) in
    let same = rw c.if-quick_key.false at c.quick_key.ensures in
    rw (← same) (MatchResult-from_err _ _ _ c.from_residual-in_err-quote.ensures.0 (λ _. stops rest c.in_err-quote.ensures h))

pub returns-in_err-colon-clause-sent : goal.returns-in_err-colon-clause-sent
returns-in_err-colon-clause-sent g c =
    let w = indent_of c.args.self.now.indent in
    let key = quoted (chars c.args.key.now) in
    let v = text w c.args.level (view c.args.value.now) in
    let start = enc (before w c.args.level c.args.first) in
    let rest = enc (58 ∷ after_colon w) ++ enc v in
    let h = goes (enc key ++ rest) c.in_ok-separate.ensures.sent (written_none _ _ _
    (ap (λ z. start ++ z) (three key (58 ∷ after_colon w) v))) in
    let k = goes rest c.in_ok-quote.ensures h in
    let same = rw c.if-quick_key.false at c.quick_key.ensures in
    rw (← same) (MatchResult-from_err _ _ _ c.from_residual-in_err-colon.ensures.0
    (λ _. stops (enc v) (rw c.in_ok-separate.ensures.kept.0 at c.in_err-colon.ensures.sent) k))

pub returns-clause-sent : goal.returns-clause-sent
returns-clause-sent g c =
    let w = indent_of c.args.self.now.indent in
    let key = quoted (chars c.args.key.now) in
    let v = text w c.args.level (view c.args.value.now) in
    let start = enc (before w c.args.level c.args.first) in
    let rest = enc (58 ∷ after_colon w) ++ enc v in
    let h = goes (enc key ++ rest) c.in_ok-separate.ensures.sent (written_none _ _ _
    (ap (λ z. start ++ z) (three key (58 ∷ after_colon w) v))) in
    let k = goes rest c.in_ok-quote.ensures h in
    let a = c.in_ok-separate.ensures.kept in
    let b = c.in_ok-colon.ensures.kept in
    let same = rw c.if-quick_key.false at c.quick_key.ensures in
    rw (← same) (begins_after w c.args.level _ _ _ _ (enc v) _ _ _ (goes (enc v) (rw a.0 at c.in_ok-colon.ensures.sent) k)
    (rw (b.0, b.1, a.0, a.1) at (c.begin-2.ensures.sent c.args.level)))
