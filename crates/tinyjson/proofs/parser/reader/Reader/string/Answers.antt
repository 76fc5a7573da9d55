use Rattle.std.proofs.Common.{rules, ◌≡◌, ◌∷◌, List, inl}
use Rattle.std.proofs.lemmas.Result.{err_from_is_err_and}
use Rattle.tinyjson_grammar.specs.Machine.{Frame, at_key, awaited}
use Rattle.tinyjson_grammar.specs.Tree.{Members}
use Rattle.tinyjson.specs.private.Building.{TakesValue}
use Rattle.tinyjson.proofs.Reading.Loop.{joined, string_at_key}
use Rattle.tinyjson.proofs.Reading.Left.{left_kept, left_open}
use Rattle.tinyjson.proofs.parser.reader.Reader.string.Goals as goal

pub returns-in_err-lent-clause-reads : goal.returns-in_err-lent-clause-reads
returns-in_err-lent-clause-reads g c = λ start limit fs h.
    let p = err_from_is_err_and c.from_residual.result c.from_residual.ensures.1 in
    rw (p.1, p.2) (c.in_err-lent.ensures.reads limit fs)

pub returns-then-awaits_key-clause-reads : goal.returns-then-awaits_key-clause-reads
returns-then-awaits_key-clause-reads g c = λ start limit fs h.
    let w : (ms : Members) × (gs : List Frame) × (fs ≡ at_key ms ∷ gs) = search rules in
    string_at_key (g.E.Events.holds start)
    (g.E.Events.is start) g.S.Source.sight limit _ _ _ fs w.0 w.1 w.2 _ _ c.args.nest.now c.colon.new.nest
    (c.in_ok-lent.ensures.reads limit fs) h (c.colon.ensures.reads start limit w.0 w.1)

pub returns-clause-reads : goal.returns-clause-reads
returns-clause-reads g c = λ start limit fs h.
    let w : TakesValue fs = search rules in
    joined (g.E.Events.holds start) (g.E.Events.is start) g.S.Source.sight limit _ _ fs awaited _ c.string-2.new.self
    (c.in_ok-lent.ensures.reads limit fs) (rw c.characters.ensures at c.string-2.ensures.joins start fs h w)

pub returns-in_err-lent-clause-some : goal.returns-in_err-lent-clause-some
returns-in_err-lent-clause-some g c = λ start fs h. left_open (g.E.Events.holds start) (g.E.Events.is start) _ c.args.nest.now fs h

pub returns-clause-some : goal.returns-clause-some
returns-clause-some g c = λ start fs h.
    left_kept (g.E.Events.holds start) (g.E.Events.is start) _ c.args.nest.now c.string-2.new.self (inl (fs, h.0)) h.2 c.string-2.ensures.kept
