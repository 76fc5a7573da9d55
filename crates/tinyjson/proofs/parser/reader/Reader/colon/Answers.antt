use Rattle.std.proofs.Common.{rules, ◌≡◌, ◌∷◌, true, is_err, chars, subst}
use Rattle.tinyjson.specs.View.{text}
use Rattle.tinyjson.specs.private.Building.{IsOpen}
use Rattle.tinyjson_grammar.specs.Machine.{at_value}
use Rattle.tinyjson_grammar.specs.declared.error.JsonParseErrorKind.TheVariants.{UnexpectedEof, ExpectedColon}
use Rattle.tinyjson_tokens.proofs.Callers.{end_colon, Leads_nil, Leads_whites, Leads_one, Leads_end, Halts_here}
use Rattle.tinyjson_tokens.proofs.Callers.{Refuses_as, Refuses_memory, white_colon}
use Rattle.tinyjson.proofs.Reading.Containers.{colon_read, colon_other}
use Rattle.tinyjson.proofs.Reading.Loop.{awaits}
use Rattle.tinyjson.proofs.Reading.Left.{err_if, open_at_error, left_stopped}
use Rattle.tinyjson_tokens.specs.Source.{characters}
use Rattle.tinyjson.proofs.parser.reader.Reader.colon.Goals as goal

pub returns-then-is_err-clause-reads : goal.returns-then-is_err-clause-reads
returns-then-is_err-clause-reads g c = λ start limit ms fs h.
    let sight = g.S.Source.sight in
    Refuses_memory sight limit _ _ (Halts_here sight limit _ _ (Leads_nil sight limit _ _) tt tt)

pub returns-in-Some-eq58-clause-reads : goal.returns-in-Some-eq58-clause-reads
returns-in-Some-eq58-clause-reads g c = λ start limit ms fs h.
    let sight = g.S.Source.sight in
    let holds = g.E.Events.holds start in
    let key = characters c.args.lent (g.S.Source.lent c.args.self.now.tokens.source) (text c.args.self.now.string) in
    let keyed : IsOpen holds c.key.new.self (at_value ms (chars c.characters.result.now) ∷ fs) = search rules in
    awaits holds (g.E.Events.is start) sight limit _ _ (at_value ms key ∷ fs) c.key.new.self
    (Leads_one sight limit _ _ _ 58 (Leads_whites sight limit _ _ _ c.skip_white.ensures.white tt (white_colon limit _ _))
    c.consume.ensures.takes tt (colon_read limit fs ms key 58 (search rules)) tt)
    (subst (λ k. IsOpen holds c.key.new.self (at_value ms k ∷ fs)) c.characters.ensures keyed)

pub returns-in-Some-clause-reads : goal.returns-in-Some-clause-reads
returns-in-Some-clause-reads g c = λ start limit ms fs h.
    let sight = g.S.Source.sight in
    let key = characters c.args.lent (g.S.Source.lent c.args.self.now.tokens.source) (text c.args.self.now.string) in
    let d = c.in-Some.c in
    Refuses_as sight limit _ _ (ExpectedColon d)
    (Leads_one sight limit _ _ _ d (Leads_whites sight limit _ _ _ c.skip_white.ensures.white tt (white_colon limit _ _))
    c.consume-in-Some.ensures.takes tt (colon_other limit fs ms key d c.in-Some.ensures.stops (search rules)) tt)

pub returns-in-None-clause-reads : goal.returns-in-None-clause-reads
returns-in-None-clause-reads g c = λ start limit ms fs h.
    let sight = g.S.Source.sight in
    Refuses_as sight limit _ _ UnexpectedEof
    (Leads_end sight limit _ _ (Leads_whites sight limit _ _ _ c.skip_white.ensures.white tt (white_colon limit _ _))
    c.in-None.ensures.shows (end_colon limit _ _) tt)

pub returns-then-is_err-clause-some : goal.returns-then-is_err-clause-some
returns-then-is_err-clause-some g c = λ start ms fs h.
    let e : is_err c.key.result ≡ true = search rules in
    left_stopped (g.E.Events.holds start) (g.E.Events.is start) c.key.new.self (err_if _ e c.key.ensures.stops)

pub returns-in-Some-clause-some : goal.returns-in-Some-clause-some
returns-in-Some-clause-some g c = λ start ms fs h.
    let keyed : IsOpen (g.E.Events.holds start) c.key.new.self (at_value ms (chars c.characters.result.now) ∷ fs) = search rules in
    open_at_error (g.E.Events.holds start) (g.E.Events.is start) _ c.key.new.self (at_value ms (chars c.characters.result.now) ∷ fs) keyed

pub returns-in-None-clause-some : goal.returns-in-None-clause-some
returns-in-None-clause-some g c = λ start ms fs h.
    let keyed : IsOpen (g.E.Events.holds start) c.key.new.self (at_value ms (chars c.characters.result.now) ∷ fs) = search rules in
    open_at_error (g.E.Events.holds start) (g.E.Events.is start) _ c.key.new.self (at_value ms (chars c.characters.result.now) ∷ fs) keyed
