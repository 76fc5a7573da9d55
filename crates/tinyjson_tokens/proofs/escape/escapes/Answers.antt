use Rattle.std.proofs.Common.{rules, [], ◌∷◌, ◌++◌, ◌∙◌, sym, ap, append-nil, append_assoc}
use Rattle.tinyjson_tokens.specs.Escape.{EscapeAt}
use Rattle.tinyjson_tokens.proofs.Reading.Escape.{spells_none, spells_more}
use Rattle.tinyjson_tokens.proofs.escape.escapes.Goals as goal

pub loop-c-init : goal.loop-c-init
loop-c-init c = record { spelled = ([], spells_none c.args.bytes.now c.args.at c.requires, sym (append-nil _)) }

pub loop-c-preserved : goal.loop-c-preserved
loop-c-preserved c =
    let s = c.loop-c.invariant.spelled in
    let d = c.in-Some.c in
    let e : EscapeAt c.args.bytes.now c.loop-c.end d c.in-Some.next = search rules in
    record {
      spelled = (
        s.0 ++ d ∷ [],
        spells_more c.args.bytes.now c.args.at c.loop-c.end c.in-Some.next s.0 (d ∷ []) s.1 e.spells,
        c.in_ok-push.ensures ∙ ap (λ xs. xs ++ d ∷ []) s.2 ∙ append_assoc _ s.0 (d ∷ []),
      );
    }
