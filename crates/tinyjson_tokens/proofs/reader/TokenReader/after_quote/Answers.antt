use Rattle.std.proofs.Common.{◌≡◌, ◌∙◌, true, [], ap, refl, Ok, Err}
use Rattle.tinyjson_tokens.specs.Source.{characters}
use Rattle.tinyjson_tokens.specs.declared.source.Lent.{Lent}
use Rattle.tinyjson_tokens.specs.declared.source.Lent.TheVariants.{Nothing}
use Rattle.std.proofs.lemmas.Result.{err_from_is_err_and}
use Rattle.std.proofs.lemmas.Str.{chars-nil}
use Rattle.std.specs.Str.{chars}
use Rattle.tinyjson_grammar.specs.Characters.{text}
use Rattle.tinyjson_grammar.specs.Machine.{Next, complete}
use Rattle.tinyjson_grammar.specs.Tree.{string}
use Rattle.tinyjson_tokens.proofs.Reading.Steps.{Reads_after, Refuses_memory}
use Rattle.tinyjson_tokens.proofs.Reading.String.{Leads_quoted, plain_added, plain_halts}
use Rattle.tinyjson_tokens.proofs.reader.TokenReader.after_quote.Goals as goal

pub returns-in-Ok-All-clause-reads : goal.returns-in-Ok-All-clause-reads
returns-in-Ok-All-clause-reads g c = λ limit fs.
    let h = (rw c.in-Ok-All.field-0-is at c.in-Ok-All.ensures).quoted in
    Leads_quoted g.S.Source.sight limit _ _ fs (g.S.Source.lent c.quoted.new.self) h.0 h.1

pub returns-in_ok-escaped-in-Ok-Nothing-clause-reads : goal.returns-in_ok-escaped-in-Ok-Nothing-clause-reads
returns-in_ok-escaped-in-Ok-Nothing-clause-reads g c = λ limit fs.
    let sight = g.S.Source.sight in
    let read : Lent → Next =
    λ lent. complete true fs (string (characters lent (g.S.Source.lent c.escaped.new.self.source) (text c.escaped.new.buffer))) true in
    let none : text c.clear.new.self ≡ [] = ap chars c.clear.ensures.bytes ∙ chars-nil in
    let h = rw c.in-Ok-Nothing.field-0-is at c.in-Ok-Nothing.ensures in
    let t = rw none at h.quoted in
    Reads_after sight limit {T = Lent} _ _ _ (Ok Nothing) read (plain_added sight limit _ _ fs [] _ [] _ refl refl t)
    (c.in_ok-escaped-in-Ok-Nothing.ensures.reads limit fs)

pub returns-in_err-escaped-in-Ok-Nothing-clause-reads : goal.returns-in_err-escaped-in-Ok-Nothing-clause-reads
returns-in_err-escaped-in-Ok-Nothing-clause-reads g c = λ limit fs.
    let sight = g.S.Source.sight in
    let read : Lent → Next =
    λ lent. complete true fs (string (characters lent (g.S.Source.lent c.escaped.new.self.source) (text c.escaped.new.buffer))) true in
    let none : text c.clear.new.self ≡ [] = ap chars c.clear.ensures.bytes ∙ chars-nil in
    let h = rw c.in-Ok-Nothing.field-0-is at c.in-Ok-Nothing.ensures in
    let t = rw none at h.quoted in
    let p = err_from_is_err_and c.from_residual.result c.from_residual.ensures.1 in
    rw (p.1, p.2) (Reads_after sight limit {T = Lent} _ _ _ (Err _) read (plain_added sight limit _ _ fs [] _ [] _ refl refl t)
    (c.in_err-escaped-in-Ok-Nothing.ensures.reads limit fs))

pub returns-in-Err-clause-reads : goal.returns-in-Err-clause-reads
returns-in-Err-clause-reads g c = λ limit fs.
    let sight = g.S.Source.sight in
    let none : text c.clear.new.self ≡ [] = ap chars c.clear.ensures.bytes ∙ chars-nil in
    let t = rw none at c.in-Err.ensures.quoted in
    Refuses_memory sight limit _ _ (plain_halts sight limit _ _ fs [] _ [] _ refl t)
