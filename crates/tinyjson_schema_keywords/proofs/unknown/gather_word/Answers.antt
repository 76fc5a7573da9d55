use Rattle.std.proofs.Common.{◌≡◌, false, [], ◌∷◌, cond, is_some, string_bytes, sym, ap, ◌∙◌, subst}
use Rattle.tinyjson_schema_keywords.specs.Subschemas.{seen}
use Rattle.tinyjson_schema_keywords.specs.Unknown.{Gathers, word_of}
use Rattle.tinyjson_schema_keywords.proofs.Words.{word_gathered}
use Rattle.tinyjson_schema_keywords.proofs.unknown.gather_word.Goals as goal

pub returns : goal.returns
returns c =
    let m = c.args.member in
    let old = c.args.words.now in
    let new = c.insert.new.self in
    let none : is_some m.keyword ≡ false = sym c.is_some.ensures ∙ c.if-is_some.false in
    let is : word_of (seen m) ≡ string_bytes m.name.now ∷ [] = ap (λ b. cond b [] (string_bytes m.name.now ∷ [])) none in
    subst (λ ks. Gathers ks old new) (ap (λ k. k ∷ []) (c.in_ok-word.ensures.ok ∙ c.as_str.ensures.value) ∙ sym is)
    (word_gathered c.in_ok-word.word old new c.in-Ok.ensures.updates)
