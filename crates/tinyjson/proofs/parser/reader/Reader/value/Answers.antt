use Rattle.std.proofs.Common.{rules, ℕ, Ok, Err, Result, IsTrue, refl, inl}
use Rattle.tinyjson.specs.private.Steps.{GrowsFor}
use Rattle.tinyjson_grammar.specs.Refusal.{begins_growth}
use Rattle.tinyjson_grammar.specs.declared.error.JsonParseErrorKind.{JsonParseErrorKind}
use Rattle.tinyjson_grammar.specs.declared.error.JsonParseErrorKind.TheVariants.{InvalidCharacter}
use Rattle.tinyjson_tokens.proofs.Callers.{Leads_nil, Leads_shown, Refuses_as, invalid}
use Rattle.tinyjson.proofs.Reading.Left.{left_kept, open_at_error}
use Rattle.tinyjson.proofs.parser.reader.Reader.value.Goals as goal

grows_for : {T : Type 0} (c : ℕ) (r : Result T JsonParseErrorKind) → IsTrue (begins_growth c) → GrowsFor c r
grows_for c (Ok v) h = h
grows_for c (Err k) h = λ _. h

pub returns-in-n-clause-reads : goal.returns-in-n-clause-reads
returns-in-n-clause-reads g c = λ start. c.literal.ensures.reads start c.args.limit

pub returns-in-34-clause-reads : goal.returns-in-34-clause-reads
returns-in-34-clause-reads g c = λ start. c.string.ensures.reads start c.args.limit

pub returns-in-34-clause-memory : goal.returns-in-34-clause-memory
returns-in-34-clause-memory g c = λ _. grows_for c.args.first c.string.result (rw c.in-34.is refl)

pub returns-in_default-clause-reads : goal.returns-in_default-clause-reads
returns-in_default-clause-reads g c = λ start. c.number.ensures.reads start c.args.limit

pub returns-in_default-2-clause-reads : goal.returns-in_default-2-clause-reads
returns-in_default-2-clause-reads g c = λ start fs h.
    let sight = g.S.Source.sight in
    let limit = c.args.limit in
    let d = c.args.first in
    Refuses_as sight limit _ _ (InvalidCharacter d)
    (Leads_shown sight limit _ _ d (Leads_nil sight limit _ _) c.requires.shown
    (invalid limit _ d c.requires.no_white (search rules) (search rules) (search rules) (search rules) (search rules) (search rules)
    (search rules) (search rules)) tt)

pub returns-in-91-clause-memory : goal.returns-in-91-clause-memory
returns-in-91-clause-memory g c = λ _. grows_for c.args.first c.array.result (rw c.in-91.is refl)

pub returns-in_default-2-clause-memory : goal.returns-in_default-2-clause-memory
returns-in_default-2-clause-memory g c = λ _ e. absurd cc

pub returns-in-123-clause-memory : goal.returns-in-123-clause-memory
returns-in-123-clause-memory g c = λ _. grows_for c.args.first c.object.result (rw c.in-123.is refl)

pub returns-in-n-clause-some : goal.returns-in-n-clause-some
returns-in-n-clause-some g c = λ start fs h.
    left_kept (g.E.Events.holds start) (g.E.Events.is start) _ c.args.nest.now c.literal.new.nest (inl (fs, h.0)) h.2 c.literal.ensures.kept

pub returns-in_default-clause-some : goal.returns-in_default-clause-some
returns-in_default-clause-some g c = λ start fs h.
    left_kept (g.E.Events.holds start) (g.E.Events.is start) _ c.args.nest.now c.number.new.nest (inl (fs, h.0)) h.2 c.number.ensures.kept

pub returns-in_default-2-clause-some : goal.returns-in_default-2-clause-some
returns-in_default-2-clause-some g c = λ start fs h. open_at_error (g.E.Events.holds start) (g.E.Events.is start) _ c.args.nest.now fs h
