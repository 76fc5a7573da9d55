use Rattle.std.proofs.Common.{rules, ◌≡◌, ◌∷◌, [], IfSome, false, true, inl, is_err}
use Rattle.tinyjson_grammar.specs.Machine.{fits, in_array, first}
use Rattle.tinyjson.specs.private.Building.{IsOpen}
use Rattle.tinyjson_grammar.specs.declared.error.JsonParseErrorKind.TheVariants.{TooDeep}
use Rattle.tinyjson_tokens.proofs.Callers.{Leads_trans, Leads_whites, Leads_one, Halts_here, Refuses_as, Refuses_memory}
use Rattle.tinyjson_tokens.proofs.Callers.{white_first, taken_complete}
use Rattle.tinyjson.proofs.Reading.Containers.{array_begins, array_too_deep, array_closes_first, array_goes_on}
use Rattle.tinyjson.proofs.Reading.Loop.{awaits, Continues_after, joined}
use Rattle.tinyjson.proofs.Reading.Left.{err_if, left_kept, open_at_error}
use Rattle.tinyjson.proofs.parser.reader.Reader.array.Goals as goal
use Rattle.tinyjson.proofs.parser.reader.Reader.array.Goals.{in_default-via-in-Some+in_default, in_default-via-in_default}

pub returns-then-not-fits-clause-reads : goal.returns-then-not-fits-clause-reads
returns-then-not-fits-clause-reads g c = λ start fs h.
    let sight = g.S.Source.sight in
    let limit = c.args.limit in
    let w : fits limit c.depth.result ≡ false = search rules in
    Refuses_as sight limit _ _ (TooDeep 91)
    (array_too_deep sight limit _ c.args.self.now.tokens.source fs _ (c.depth.ensures fs h.1) w c.requires.shown)

pub returns-in-Some-eq93-clause-reads : goal.returns-in-Some-eq93-clause-reads
returns-in-Some-eq93-clause-reads g c = λ start fs h.
    let sight = g.S.Source.sight in
    let limit = c.args.limit in
    let holds = g.E.Events.holds start in
    let is = g.E.Events.is start in
    let w : fits limit c.depth.result ≡ true = search rules in
    Continues_after holds is sight limit _ _ _ _ c.empty_array.new.self
    (array_begins sight limit _ _ fs _ (c.depth.ensures fs h.1) w c.consume.ensures.takes)
    (joined holds is sight limit _ _ (in_array [] ∷ fs) first _ c.empty_array.new.self
    (Leads_one sight limit _ _ _ 93 (Leads_whites sight limit _ _ _ c.skip_white.ensures.white tt (white_first limit _))
    c.consume-in-Some-eq93.ensures.takes tt (array_closes_first limit fs 93 (search rules)) (taken_complete _ _))
    (c.empty_array.ensures.joins start fs h))

pub returns-then-is_err-clause-reads : goal.returns-then-is_err-clause-reads
returns-then-is_err-clause-reads g c = λ start fs h.
    let sight = g.S.Source.sight in
    let limit = c.args.limit in
    let w : fits limit c.depth.result ≡ true = search rules in
    Refuses_memory sight limit _ _ (Halts_here sight limit _ _ (Leads_trans sight limit _ _ _
    (array_begins sight limit _ _ fs _ (c.depth.ensures fs h.1) w c.consume.ensures.takes)
    (Leads_whites sight limit _ _ _ c.skip_white.ensures.white tt (white_first limit _))) tt tt)

pub returns-else-is_err-clause-reads : goal.returns-else-is_err-clause-reads
returns-else-is_err-clause-reads g c = λ start fs h.
    let sight = g.S.Source.sight in
    let limit = c.args.limit in
    let w : fits limit c.depth.result ≡ true = search rules in
    let other : IfSome c.skip_white.result (λ d. d ≡ 93 → ⊥) = elim c.in_default.branch
    [ in_default-via-in-Some+in_default w ↦ rw w.in_default.is (search rules) | in_default-via-in_default w ↦ rw w.in_default.is tt ] in
    let opened : IsOpen (g.E.Events.holds start) c.open_array.new.self (in_array [] ∷ fs) = search rules in
    awaits (g.E.Events.holds start) (g.E.Events.is start) sight limit _ _ (in_array [] ∷ fs) c.open_array.new.self
    (Leads_trans sight limit _ _ _
    (array_begins sight limit _ _ fs _ (c.depth.ensures fs h.1) w c.consume.ensures.takes)
    (array_goes_on sight limit _ _ fs c.skip_white.result (Leads_whites sight limit _ _ _ c.skip_white.ensures.white tt
    (white_first limit _)) c.skip_white.ensures.shows c.skip_white.ensures.stops other))
    opened

pub empty_array-requires : goal.empty_array-requires
empty_array-requires g c = (c.requires.open.0, c.requires.open.1, c.requires.open.2.0)

pub returns-then-not-fits-clause-some : goal.returns-then-not-fits-clause-some
returns-then-not-fits-clause-some g c = λ start fs h. open_at_error (g.E.Events.holds start) (g.E.Events.is start) _ c.args.nest.now fs h

pub returns-in-Some-eq93-clause-some : goal.returns-in-Some-eq93-clause-some
returns-in-Some-eq93-clause-some g c = λ start fs h.
    left_kept (g.E.Events.holds start) (g.E.Events.is start) _ c.args.nest.now c.empty_array.new.self
    (inl (fs, h.0)) h.2 c.empty_array.ensures.kept

pub returns-then-is_err-clause-some : goal.returns-then-is_err-clause-some
returns-then-is_err-clause-some g c = λ start fs h.
    let e : is_err c.open_array.result ≡ true = search rules in
    err_if _ e (c.open_array.ensures.some start fs h)
