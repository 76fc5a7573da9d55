use Rattle.std.proofs.Common.{inl, inr, ap, option_map, string_bytes, subst}
use Rattle.std.specs.Str.{chars}
use Rattle.tinyjson_schema_report.specs.Faults.{IsFault}
use Rattle.tinyjson_schema_report.proofs.Refusing.{also, of_string, other_value}
use Rattle.tinyjson_schema_report.proofs.refused.pattern_words.Goals as goal

pub returns-in-Some : goal.returns-in-Some
returns-in-Some c =
    of_string c.args.value.now c.in-String.pattern (chars c.as_str.result.now) (string_bytes c.in-Some.words) c.in-String.is
    (ap chars c.as_str.ensures.value)
    (inl (subst (λ o. IsFault (chars c.as_str.result.now) (option_map string_bytes o)) c.in-Some.is c.in_ok-words-in-String.ensures))

pub returns-in-None : goal.returns-in-None
returns-in-None c =
    also c.from_str.result
    (λ s h. of_string c.args.value.now c.in-String.pattern (chars c.as_str.result.now) _ c.in-String.is (ap chars c.as_str.ensures.value)
    (inr (subst (λ o. IsFault (chars c.as_str.result.now) (option_map string_bytes o)) c.in-None.is c.in_ok-words-in-String.ensures, h)))
    c.from_str.ensures.ok

pub returns-in_default : goal.returns-in_default
returns-in_default c =
    also c.told.result (λ s h. other_value c.args.value.now _ c.in_default.not-String h) c.told.ensures
