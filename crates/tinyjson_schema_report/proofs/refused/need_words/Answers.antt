use Rattle.std.proofs.Common.{IfOk, string_bytes, option_map, subst, sym, ap}
use Rattle.tinyjson.specs.View.{view, text}
use Rattle.tinyjson_schema_report.specs.Refused.{TellsNeed}
use Rattle.tinyjson_schema_report.proofs.refused.need_words.Goals as goal

pub returns-in-Some : goal.returns-in-Some
returns-in-Some c =
    subst (λ o. IfOk c.key_words.result (λ s. TellsNeed (view c.args.refusal.root.now) c.args.refusal.is_older
    (c.args.need.form, (option_map (λ k. text k.now) o, view c.args.need.value.now)) (string_bytes s)))
    (sym c.in-Some.is) c.key_words.ensures

pub returns-in-None : goal.returns-in-None
returns-in-None c =
    subst (λ o. IfOk c.value_words.result (λ s. TellsNeed (view c.args.refusal.root.now) c.args.refusal.is_older
    (c.args.need.form, (option_map (λ k. text k.now) o, view c.args.need.value.now)) (string_bytes s)))
    (sym c.in-None.is) c.value_words.ensures
