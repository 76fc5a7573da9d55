use Rattle.std.specs.Prelude.{string_bytes}
use Rattle.tinyjson_document.specs.Known.{known_is}
use Rattle.tinyjson_document.proofs.Waiting.{built_over}
use Rattle.tinyjson_document.proofs.document.Document.over.Goals as goal

pub invariant_of-result : goal.invariant_of-result
invariant_of-result c =
    let t = c.requires.0 in
    record {
      known = record {
        tree = t;
        is = ∣ built_over c.args.built (string_bytes c.args.text) _ t c.requires.1 c.with_source.ensures.source c.with_source.ensures.added c.with_source.ensures.kept
            c.with_source.ensures.items c.with_source.ensures.members ∣₁;
        sound = c.requires.2;
      };
    }

pub returns : goal.returns
returns c = λ t h.
    known_is _ c.args.built.root c.result-1.given.0 t (built_over c.args.built (string_bytes c.args.text) _ t h c.with_source.ensures.source c.with_source.ensures.added c.with_source.ensures.kept
    c.with_source.ensures.items c.with_source.ensures.members)
