use Rattle.std.proofs.Common.{refl, arith}
use Rattle.tinyjson_normal.proofs.Compacting.{awaits_result}
use Rattle.tinyjson_normal.proofs.compact.CompactEvents.key.Goals as goal

pub returns : goal.returns
returns c = λ _ ms os h.
    let a = c.args.self.now in
    awaits_result c.push_quoted.result a (record a {
      store = c.add_text.new.self;
      begun = c.push.new.self;
      text =
          c.push_quoted.new.text;
      buffer = c.push_quoted.new.buffer;
    })
    ms os _ c.in_ok-span.span c.len-from.result h c.in_ok-span.ensures.grows c.in_ok-span.ensures.text (omega (arith, a.text.ok.0)) refl
    c.in_ok-push.ensures.items c.push_quoted.ensures
