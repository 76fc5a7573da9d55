use Rattle.std.proofs.Common.{◌≡◌, ◌∙◌, ◌∷◌, [], ◌++◌, true, ap, refl, rules}
use Rattle.std.proofs.lemmas.Str.{chars-nil}
use Rattle.std.specs.Str.{chars}
use Rattle.tinyjson.specs.Characters.{text}
use Rattle.tinyjson_path_query.specs.declared.query.Selector.TheVariants as is
use Rattle.tinyjson_path_query.specs.Forms as form
use Rattle.tinyjson_path_query.specs.Grammar.{is_name_first, name_chars}
use Rattle.tinyjson_path_query.proofs.Steps.{shorthand_at}
use Rattle.tinyjson_path_query.proofs.parse.shorthand.Goals as goal

pub returns : goal.returns
returns c =
    let first = c.in-Some.first.now in
    let rest = c.in-Some.rest.now in
    let begins : is_name_first first ≡ true = search rules in
    let name = text c.push_name_chars.new.name in
    let run = c.in_ok-after.ensures in
    let nothing : text c.new-name.result ≡ [] = ap chars c.new-name.ensures.bytes ∙ chars-nil in
    let whole : name ≡ first ∷ (name_chars rest).0 =
    run.name ∙ ap (λ s. s ++ (name_chars rest).0) (c.in_ok-push-2.ensures ∙ ap (λ s. s ++ first ∷ []) nothing) in (
      form.name name,
      shorthand_at c.args.text.now rest first name c.in_ok-after.after.now c.in-Some.ensures.cases.0 c.if-first-eq42.false
          begins whole run.rest,
      (
        is.Name c.push_name_chars.new.name,
        c.in_ok-push-3.ensures.items ∙ ap (λ xs. xs ++ is.Name c.push_name_chars.new.name ∷ []) c.new-selectors.ensures.items,
        (c.push_name_chars.new.name, refl, refl),
      ),
    )
