use Rattle.std.proofs.Common.{◌≡◌, false, [], ◌∷◌, cond, is_some, sym, ap, ◌∙◌, subst}
use Rattle.text_formats.specs.Format.{format_named}
use Rattle.tinyjson_schema_keywords.specs.Unknown.{Gathers}
use Rattle.tinyjson_schema_keywords.proofs.Callers.{word_gathered}
use Rattle.tinyjson_schema_assertions.specs.Formats.{unknown_name}
use Rattle.tinyjson_schema_assertions.proofs.formats.gather_name.Goals as goal

pub returns : goal.returns
returns c =
    let k = c.args.name.now in
    let none : is_some (format_named k) ≡ false
    = sym (c.is_some.ensures ∙ ap is_some c.from_name.ensures) ∙ c.if-is_some.false in
    let is : unknown_name k ≡ k ∷ [] = ap (λ b. cond b [] (k ∷ [])) none in
    subst (λ ks. Gathers ks c.args.names.now c.insert.new.self) (ap (λ k. k ∷ []) c.in_ok-name.ensures.ok ∙ sym is)
    (word_gathered c.in_ok-name.name c.args.names.now c.insert.new.self c.in-Ok.ensures.updates)
