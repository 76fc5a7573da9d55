use Rattle.std.proofs.Common.{◌≤◌, ◌∙◌, length, refl, subst, sym, true}
use Rattle.std.proofs.lemmas.Result.{err_from_is_err_and}
use Rattle.tinyjson_grammar.specs.Machine.{awaited, complete, next}
use Rattle.tinyjson_grammar.specs.Tree.{number}
use Rattle.tinyjson_tokens.specs.Numerals.{IsRead}
use Rattle.tinyjson_tokens.specs.Steps.{Leads}
use Rattle.tinyjson.proofs.Reading.Loop.{joined}
use Rattle.tinyjson.proofs.Reading.Left.{same_events}
use Rattle.tinyjson.proofs.parser.reader.Reader.number.Goals as goal

pub returns-in_err-number-clause-reads : goal.returns-in_err-number-clause-reads
returns-in_err-number-clause-reads g c = λ start limit fs h.
    let p = err_from_is_err_and c.from_residual.result c.from_residual.ensures.1 in
    rw (p.1, p.2) (c.in_err-number.ensures.reads limit fs)

pub returns-in-Some-clause-reads : goal.returns-in-Some-clause-reads
returns-in-Some-clause-reads g c = λ start limit fs h.
    let t = c.in_ok-number.ensures.reads limit fs in
    let same = subst (λ o. IsRead o (g.S.Source.lent c.number.new.self.source) t.0) c.in-Some.is t.1 in
    joined (g.E.Events.holds start) (g.E.Events.is start) g.S.Source.sight limit _ _ fs awaited _ c.number-in-Some.new.self
    (subst (λ d. Leads g.S.Source.sight limit c.args.self.now.tokens.source (next fs awaited) c.number.new.self.source
    (complete true fs (number d) true)) same t.2) (c.number-in-Some.ensures.joins start fs h)

pub returns-in-None-clause-reads : goal.returns-in-None-clause-reads
returns-in-None-clause-reads g c = λ start limit fs h.
    let t = c.in_ok-number.ensures.reads limit fs in
    let text = subst (λ o. IsRead o (g.S.Source.lent c.number.new.self.source) t.0) c.in-None.is t.1 in
    joined (g.E.Events.holds start) (g.E.Events.is start) g.S.Source.sight limit _ _ fs awaited _ c.number_text.new.self t.2
    (c.number_text.ensures.joins start fs t.0 (c.lent.ensures ∙ text.0) (subst (λ ls. length ls ≤ 24) (sym c.lent.ensures) text.1) h)

pub returns-in_err-number-clause-kept : goal.returns-in_err-number-clause-kept
returns-in_err-number-clause-kept g c = same_events _ c.args.nest.now c.args.nest.now refl refl
