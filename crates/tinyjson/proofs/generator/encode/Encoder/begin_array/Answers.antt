use Rattle.std.proofs.Common.{◌≡◌, ◌+◌, None, true, false, refl, reverse, sym, ◌∙◌, ap}
use Rattle.std.proofs.lemmas.Result.{MatchResult-from_err}
use Rattle.tinyjson.specs.Indent.{indent_of}
use Rattle.tinyjson.specs.private.Encoding.{gathered_in}
use Rattle.tinyjson.specs.View.{items_view}
use Rattle.tinyjson_grammar.specs.Text.{has_no_items}
use Rattle.tinyjson.specs.declared.generator.frames.Frame.TheVariants.{Items}
use Rattle.tinyjson_output.proofs.Callers.{sends_same, sent_stops as stops, sent_written_none as written_none}
use Rattle.tinyjson.proofs.Writing.Text.{no_items_is}
use Rattle.tinyjson.proofs.Writing.Words.{empty_array}
use Rattle.tinyjson.proofs.Writing.Containers.{array_begins, is_compact}
use Rattle.tinyjson.proofs.Writing.Runs.{array_run, array_end, closed_at_once, complete_at_once}
use Rattle.tinyjson.proofs.generator.encode.Encoder.begin_array.Goals as goal

pub returns-in_err-write_bytes-clause-sent : goal.returns-in_err-write_bytes-clause-sent
returns-in_err-write_bytes-clause-sent g c =
    let some : has_no_items (items_view c.args.items.now) ≡ false = no_items_is c.args.items.now ∙ sym c.is_empty.ensures
    ∙ c.if-is_empty.false in
    λ k. MatchResult-from_err _ _ _ c.from_residual.ensures.0 (λ _. stops _ c.in_err-write_bytes.ensures (written_none _ _ _
    (array_begins (indent_of c.args.self.now.indent) k c.args.items (gathered_in c.args.self.now) some)))

pub returns-then-is_none-clause-sent : goal.returns-then-is_none-clause-sent
returns-then-is_none-clause-sent g c =
    let w = indent_of c.args.self.now.indent in
    let rest = c.run_of_items-first.result.0 in
    let first = c.run_of_items-first.result.1 in
    let some : has_no_items (items_view c.args.items.now) ≡ false = no_items_is c.args.items.now ∙ sym c.is_empty.ensures
    ∙ c.if-is_empty.false in
    let empty : has_no_items (items_view rest.now) ≡ true = no_items_is rest.now ∙ sym c.is_empty-2.ensures ∙ c.if-is_empty-2.true in
    let none : w ≡ None = is_compact w c.args.self.now.indent c.is_none.result
    (rw c.run_of_items-first.ensures.kept.0 at c.is_none.ensures) c.if-is_none.true in
    let gs = gathered_in c.args.self.now in
    λ k. closed_at_once w _ k 93 gs gs _ (Items rest first) c.write_bytes-then-is_none.result c.complete-then-is_none.result
    (array_end w k rest first gs empty none) refl (ap (λ v. reverse v.items) c.run_of_items-first.ensures.kept.1)
    c.complete-then-is_none.ensures c.write_bytes-then-is_none.ensures
    (array_run w k c.args.items rest first gs some c.in_ok-write_bytes.ensures
    (c.run_of_items-first.ensures.buffers (k + 1) (g.W.Write.contents c.write_bytes-2.new.out)))

pub returns-clause-sent : goal.returns-clause-sent
returns-clause-sent g c =
    let some : has_no_items (items_view c.args.items.now) ≡ false = no_items_is c.args.items.now ∙ sym c.is_empty.ensures
    ∙ c.if-is_empty.false in
    λ k. rw c.run_of_items-first.ensures.kept.1 (array_run (indent_of c.args.self.now.indent) k c.args.items c.run_of_items-first.result.0
    c.run_of_items-first.result.1 (gathered_in c.args.self.now) some
    c.in_ok-write_bytes.ensures (c.run_of_items-first.ensures.buffers (k + 1) (g.W.Write.contents c.write_bytes-2.new.out)))

pub returns-then-is_empty-clause-sent : goal.returns-then-is_empty-clause-sent
returns-then-is_empty-clause-sent g c =
    let w = indent_of c.args.self.now.indent in
    let ts = items_view c.args.items.now in
    let none : has_no_items ts ≡ true = no_items_is c.args.items.now ∙ sym c.is_empty.ensures ∙ c.if-is_empty.true in
    λ k. complete_at_once w k _ _ _ _ _ c.write_bytes.result c.complete.result c.complete.ensures
    (sends_same _ _ _ _ _ (empty_array w k ts none) c.write_bytes.ensures) refl
