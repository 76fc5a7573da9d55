use Rattle.std.proofs.Common.{sym, ap, ◌∙◌}
use Rattle.std.proofs.lemmas.Str.{scalars-chars}
use Rattle.std.specs.Str.{chars}
use Rattle.tinyjson_grammar.specs.Position.{advance, origin}
use Rattle.tinyjson_tokens.specs.Slice.{before, chars_after}
use Rattle.tinyjson_tokens.specs.declared.text.TextBytes.{TextBytes}
use Rattle.tinyjson.specs.Events.{without_events}
use Rattle.tinyjson.proofs.Reading.Events.{heard, heard_text}
use Rattle.tinyjson.proofs.Reading.Parse.{all_are_scalars}
use Rattle.tinyjson.proofs.parser.tell_text.Goals as goal

pub returns-clause-tells : goal.returns-clause-tells
returns-clause-tells g c =
    let text = c.args.text.now in
    let is = g.E.Events.is c.args.events in
    let gives = sym (ap (λ (p : TextBytes). chars_after p.text.now p.at) c.new-2.ensures ∙ c.new.ensures.gives) in
    let start = ap (λ (p : TextBytes). advance origin (before p.text.now p.at)) c.new-2.ensures ∙ c.new.ensures.start in
    heard_text _ c.args.limit is _ _ (chars text) (without_events c.told.result) start
    (heard _ c.args.limit is _ _ c.told.result c.told.ensures.reads c.told.ensures.end c.told.ensures.memory (chars text) gives
    (all_are_scalars (chars text) (scalars-chars text c.utf8.text)))
