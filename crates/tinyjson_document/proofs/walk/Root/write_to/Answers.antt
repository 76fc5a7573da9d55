use Rattle.std.proofs.Common.{[], refl, sym, ap, subst, length, reverse}
use Rattle.std.proofs.lemmas.Result.{MatchResult-from_err}
use Rattle.tinyjson.specs.Indent.{indent_of}
use Rattle.tinyjson_grammar.specs.Text.{text}
use Rattle.tinyjson_output.proofs.Callers.{enc, sent_stops_then as stops_then, sent_written_then as written_then}
use Rattle.tinyjson_cells.specs.Cell.{Is}
use Rattle.tinyjson_document.specs.Walking.{AreLeft}
use Rattle.tinyjson_document.proofs.Writing.{behind_flushed, flushed, part_flushed, left_moved}
use Rattle.tinyjson_document.proofs.walk.Root.write_to.Goals as goal

pub returns-in_err-begin : goal.returns-in_err-begin
returns-in_err-begin g c = λ t h.
    let w = c.new-walk.result in
    let i = indent_of c.args.indent in
    let is = subst (λ b. Is b.now t c.args.self.now.cell) (sym c.new-walk.ensures.store) h in
    let left = subst (λ z. AreLeft (indent_of w.indent) w.store.now (reverse z) []) (sym c.new-walk.ensures.stack) refl in
    MatchResult-from_err _ _ _ c.from_residual.ensures.0
    (λ _. part_flushed _ _ _ _ (text i 0 t) c.args.behind.now c.new-walk.ensures.buffer (rw c.new-walk.ensures.indent at
    (c.in_err-begin.ensures.sent t 0 [] is (ap length c.new-walk.ensures.stack) left)))

pub returns-in_err-finish : goal.returns-in_err-finish
returns-in_err-finish g c = λ t h.
    let w = c.new-walk.result in
    let i = indent_of c.args.indent in
    let is = subst (λ b. Is b.now t c.args.self.now.cell) (sym c.new-walk.ensures.store) h in
    let left = subst (λ z. AreLeft (indent_of w.indent) w.store.now (reverse z) []) (sym c.new-walk.ensures.stack) refl in
    let b = c.in_ok-begin.ensures.sent t 0 [] is (ap length c.new-walk.ensures.stack) left in
    let after = left_moved w.indent c.begin.new.self.indent w.store c.begin.new.self.store (reverse c.begin.new.self.stack.items) b.left
    (sym c.in_ok-begin.ensures.indent) (sym c.in_ok-begin.ensures.store) b.are_left in
    MatchResult-from_err _ _ _ c.from_residual-in_err-finish.ensures.0
    (λ _. part_flushed _ _ _ _ (text i 0 t) c.args.behind.now c.new-walk.ensures.buffer (rw c.new-walk.ensures.indent at
    (stops_then (enc b.left) b.sent (c.in_err-finish.ensures b.left after))))

pub returns-in_err-write_bytes : goal.returns-in_err-write_bytes
returns-in_err-write_bytes g c = λ t h.
    let w = c.new-walk.result in
    let i = indent_of c.args.indent in
    let is = subst (λ b. Is b.now t c.args.self.now.cell) (sym c.new-walk.ensures.store) h in
    let left = subst (λ z. AreLeft (indent_of w.indent) w.store.now (reverse z) []) (sym c.new-walk.ensures.stack) refl in
    let b = c.in_ok-begin.ensures.sent t 0 [] is (ap length c.new-walk.ensures.stack) left in
    let after = left_moved w.indent c.begin.new.self.indent w.store c.begin.new.self.store (reverse c.begin.new.self.stack.items) b.left
    (sym c.in_ok-begin.ensures.indent) (sym c.in_ok-begin.ensures.store) b.are_left in
    MatchResult-from_err _ _ _ c.from_residual-in_err-write_bytes.ensures.0
    (λ _. behind_flushed _ _ _ _ _ _ (text i 0 t) c.args.behind.now c.new-walk.ensures.buffer (rw c.new-walk.ensures.indent at
    (written_then (enc b.left) [] b.sent (c.in_ok-finish.ensures b.left after))) c.in_err-write_bytes.ensures)

pub returns : goal.returns
returns g c = λ t h.
    let w = c.new-walk.result in
    let i = indent_of c.args.indent in
    let is = subst (λ b. Is b.now t c.args.self.now.cell) (sym c.new-walk.ensures.store) h in
    let left = subst (λ z. AreLeft (indent_of w.indent) w.store.now (reverse z) []) (sym c.new-walk.ensures.stack) refl in
    let b = c.in_ok-begin.ensures.sent t 0 [] is (ap length c.new-walk.ensures.stack) left in
    let after = left_moved w.indent c.begin.new.self.indent w.store c.begin.new.self.store (reverse c.begin.new.self.stack.items) b.left
    (sym c.in_ok-begin.ensures.indent) (sym c.in_ok-begin.ensures.store) b.are_left in
    flushed _ _ _ _ _ _ _ (text i 0 t) c.args.behind.now c.flush.result c.new-walk.ensures.buffer (rw c.new-walk.ensures.indent at
    (written_then (enc b.left) [] b.sent (c.in_ok-finish.ensures b.left after))) c.in_ok-write_bytes.ensures c.flush.ensures.written
