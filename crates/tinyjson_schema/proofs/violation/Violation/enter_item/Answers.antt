use Rattle.std.proofs.Common.{◌∙◌, sym}
use Rattle.tinyjson_pointer.specs.Tokens.{tokens_of}
use Rattle.tinyjson_schema.proofs.Places.{by_part_place, whole_place}
use Rattle.tinyjson_schema.proofs.violation.Violation.enter_item.Goals as goal

pub returns-then-is_by_part : goal.returns-then-is_by_part
returns-then-is_by_part c =
    let a = c.args.applicator in
    let was = c.args.self.now in
    let j = c.in_ok-prepend_index.ensures.ok in
    let k = c.in_ok-prepend_index-2.ensures.ok in
    record {
      schema_token = k.token;
      token = j.token;
      schema_named = k.named;
      named = j.named;
      entered = (
        by_part_place a k.token c.name.result.now (tokens_of was.keyword_location) _ _
            (sym c.is_by_part.ensures ∙ c.if-is_by_part.true) k.joined c.in_ok-put_under.ensures.0 c.name.ensures,
        c.in_ok-put_under.ensures.1 ∙ j.joined,
      );
    }

pub returns : goal.returns
returns c =
    let a = c.args.applicator in
    let was = c.args.self.now in
    let j = c.in_ok-prepend_index.ensures.ok in
    record {
      schema_token = j.token;
      token = j.token;
      schema_named = j.named;
      named = j.named;
      entered = (
        whole_place a j.token c.name-2.result.now (tokens_of was.keyword_location) _
            (sym c.is_by_part.ensures ∙ c.if-is_by_part.false) c.in_ok-put_under-2.ensures.0 c.name-2.ensures,
        c.in_ok-put_under-2.ensures.1 ∙ j.joined,
      );
    }
