use Rattle.std.proofs.Common.{◌∷◌, ◌++◌, ◌∙◌, sym, ap}
use Rattle.std.proofs.lemmas.Str.{encodes-append}
use Rattle.tinyjson.specs.Indent.{indent_of}
use Rattle.tinyjson_grammar.specs.Text.{after_colon, quoted}
use Rattle.tinyjson_output.specs.Buffer.{buffered}
use Rattle.tinyjson_output.proofs.Callers.{enc, quoted_bytes}
use Rattle.tinyjson_document.proofs.Buffering.{taken_back, in_turn}
use Rattle.tinyjson_document.proofs.quick.quick_name.Goals as goal

pub returns-then-quick_word : goal.returns-then-quick_word
returns-then-quick_word c = λ cs h.
    let p = buffered c.args.buffer.now in
    let colon = enc (58 ∷ after_colon (indent_of c.args.indent)) in
    let quoted_as = ap (λ z. enc (quoted z)) h.1 ∙ quoted_bytes c.args.key.now h.0 in
    let first = rw c.if-not-quick_text.false at c.quick_text.ensures ∙ ap (λ z. p ++ z) (sym quoted_as) in
    let then = rw c.if-quick_word.true at c.quick_word.ensures ∙ ap (λ z. buffered c.quick_text.new.buffer ++ z) c.colon.ensures in
    in_turn p _ _ (enc (quoted cs)) colon first then
    ∙ ap (λ z. p ++ z) (sym (encodes-append (quoted cs) (58 ∷ after_colon (indent_of c.args.indent))))

pub returns : goal.returns
returns c = λ cs h.
    let first = rw c.if-not-quick_text.false at c.quick_text.ensures in
    let stays = rw c.if-quick_word.false at c.quick_word.ensures in
    taken_back (buffered c.args.buffer.now) _ _ _ _ _ c.len-len.ensures c.truncate.ensures stays first
