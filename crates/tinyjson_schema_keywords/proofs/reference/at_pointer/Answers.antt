use Rattle.std.proofs.Common.{◌≡◌, ◌∙◌, true, false, option_map, sym, ap}
use Rattle.std.specs.Str.{chars}
use Rattle.tinyjson.specs.View.{view}
use Rattle.tinyjson_pointer.specs.Tokens.{tokens_of}
use Rattle.tinyjson_schema_keywords.specs.References.{form_after, is_schema_form}
use Rattle.tinyjson_schema_keywords.specs.declared.keyword.Form.TheVariants as form
use Rattle.tinyjson_schema_keywords.proofs.References.{no_tokens_there, no_schema_there, schema_there}
use Rattle.tinyjson_schema_keywords.proofs.reference.at_pointer.Goals as goal

pub returns-in_default : goal.returns-in_default
returns-in_default c =
    no_tokens_there (view c.args.root.now) (chars c.args.text.now)
    (ap (option_map tokens_of) (sym c.in_default.is) ∙ c.in_ok-pointer.ensures)

pub returns-then-not-leads_to_schema : goal.returns-then-not-leads_to_schema
returns-then-not-leads_to_schema c =
    let ks = tokens_of c.in-Some.pointer in
    let other : is_schema_form (form_after form.Schema ks) ≡ false = ap (λ xs. is_schema_form (form_after form.Schema xs))
    (sym c.tokens.ensures)
    ∙ (sym c.leads_to_schema.ensures ∙ c.if-not-leads_to_schema.true) in
    no_schema_there (view c.args.root.now) (chars c.args.text.now) ks
    (ap (option_map tokens_of) (sym c.in-Some.is) ∙ c.in_ok-pointer.ensures) other

pub returns : goal.returns
returns c =
    let ks = tokens_of c.in-Some.pointer in
    let schema : is_schema_form (form_after form.Schema ks) ≡ true
    = ap (λ xs. is_schema_form (form_after form.Schema xs)) (sym c.tokens.ensures)
    ∙ (sym c.leads_to_schema.ensures ∙ c.if-not-leads_to_schema.false) in
    schema_there (view c.args.root.now) (chars c.args.text.now) ks _
    (ap (option_map tokens_of) (sym c.in-Some.is) ∙ c.in_ok-pointer.ensures) schema c.find.ensures
