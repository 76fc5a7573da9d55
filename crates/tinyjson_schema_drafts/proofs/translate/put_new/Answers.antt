use Rattle.std.proofs.Common.{◌≡◌, ◌∙◌, true, false, cond, is_some, sym, ap, subst}
use Rattle.std.specs.Prelude.{OnOk}
use Rattle.tinyjson.specs.Tree.{find, put}
use Rattle.tinyjson.specs.View.{view, members_view}
use Rattle.tinyjson_schema_keywords.specs.Names.{name}
use Rattle.tinyjson_schema_keywords.proofs.Callers.{name_chars}
use Rattle.tinyjson_schema_drafts.proofs.Wording.{had_name}
use Rattle.tinyjson_schema_drafts.proofs.translate.put_new.Goals as goal

pub returns-then-contains_key : goal.returns-then-contains_key
returns-then-contains_key c =
    let k = c.args.keyword in
    let m = c.args.members.now in
    let ms = members_view m.entries in
    let has : is_some (find (name k) ms) ≡ true = had_name m k c.name.result.now c.name.ensures c.name.utf8
    ∙ (sym c.contains_key.ensures ∙ c.if-contains_key.true) in
    ap (λ b. cond b ms (put (name k) (view c.args.value) ms)) (sym has)

pub returns : goal.returns
returns c =
    let k = c.args.keyword in
    let m = c.args.members.now in
    let ms = members_view m.entries in
    let w = view c.args.value in
    let has : is_some (find (name k) ms) ≡ false = had_name m k c.name.result.now c.name.ensures c.name.utf8
    ∙ (sym c.contains_key.ensures ∙ c.if-contains_key.false) in
    subst (λ l. OnOk c.put_member.result (members_view c.put_member.new.members.entries ≡ l))
    (ap (λ x. put x w ms) (name_chars k c.name-2.result.now c.name-2.ensures) ∙ ap (λ b. cond b ms (put (name k) w ms)) (sym has))
    c.put_member.ensures.ok
