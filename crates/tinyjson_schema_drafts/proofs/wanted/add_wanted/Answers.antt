use Rattle.std.proofs.Common.{◌≡◌, ◌∙◌, ◌++◌, map, sym, ap, subst, append-nil}
use Rattle.std.specs.Prelude.{OnOk}
use Rattle.tinyjson.specs.View.{view}
use Rattle.tinyjson_schema_keywords.specs.Subschemas.{all_seen}
use Rattle.tinyjson_schema_drafts.specs.Meta.{published}
use Rattle.tinyjson_schema_drafts.proofs.Wanting.{led, not_led}
use Rattle.tinyjson_schema_drafts.proofs.wanted.add_wanted.Goals as goal

pub returns-then-led_into : goal.returns-then-led_into
returns-then-led_into c =
    let front = map published c.args.found.now.items in
    subst (λ xs. OnOk c.add_lacking.result (map published c.add_lacking.new.found.items ≡ front ++ xs))
    (led (view c.args.schema.now) (all_seen c.args.members.now) c.args.draft (map published c.documents_of-documents.result.now)
    c.led_into.result c.documents_of-documents.ensures c.led_into.ensures c.if-led_into.true)
    c.add_lacking.ensures

pub returns : goal.returns
returns c =
    let front = map published c.args.found.now.items in
    sym (append-nil front)
    ∙ ap (λ xs. front ++ xs) (not_led (view c.args.schema.now) (all_seen c.args.members.now) c.args.draft
    (map published c.documents_of-documents.result.now) c.led_into.result c.documents_of-documents.ensures c.led_into.ensures
    c.if-led_into.false)
