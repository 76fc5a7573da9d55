use Rattle.std.proofs.Common.{Some, None, inl, inr, ap, option_map, string_bytes, subst}
use Rattle.std.specs.Str.{chars}
use Rattle.tinyjson_schema_report.specs.Faults.{IsFault}
use Rattle.tinyjson_schema_report.proofs.Refusing.{also}
use Rattle.tinyjson_schema_report.proofs.refused.key_words.Goals as goal

pub returns-in-Some : goal.returns-in-Some
returns-in-Some c =
    inl (subst (λ cs. IsFault cs (Some (string_bytes c.in-Some.words))) (ap chars c.as_str.ensures.value)
    (subst (λ o. IsFault (chars c.as_str.result.now) (option_map string_bytes o)) c.in-Some.is c.in_ok-words.ensures))

pub returns-in-None : goal.returns-in-None
returns-in-None c =
    also c.value_words.result
    (λ s h. inr (
      subst (λ cs. IsFault cs None) (ap chars c.as_str.ensures.value)
          (subst (λ o. IsFault (chars c.as_str.result.now) (option_map string_bytes o)) c.in-None.is c.in_ok-words.ensures),
      h,
    ))
    c.value_words.ensures
