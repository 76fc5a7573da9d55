use Rattle.std.proofs.Common.{◌∙◌, IfOk, string_bytes, option_map, subst, sym, ap}
use Rattle.tinyjson.specs.View.{view}
use Rattle.tinyjson_schema_report.specs.Refused.{need_of, needs_from, TellsAt}
use Rattle.tinyjson_schema_report.proofs.refused.refused_words.Goals as goal

pub returns-in-Some : goal.returns-in-Some
returns-in-Some c =
    let root = view c.args.refusal.root.now in
    subst (λ o. IfOk c.need_words.result (λ s. TellsAt root c.args.refusal.is_older o (string_bytes s)))
    (ap (option_map need_of) (sym c.in-Some.is) ∙ (c.in_ok-need.ensures ∙ ap (needs_from root) c.tokens.ensures)) c.need_words.ensures

pub returns-in-None : goal.returns-in-None
returns-in-None c =
    let root = view c.args.refusal.root.now in
    subst (λ o. IfOk c.from_str.result (λ s. TellsAt root c.args.refusal.is_older o (string_bytes s)))
    (ap (option_map need_of) (sym c.in-None.is) ∙ (c.in_ok-need.ensures ∙ ap (needs_from root) c.tokens.ensures)) c.from_str.ensures.ok
