use Rattle.std.proofs.Common.{◌≡◌, ◌∷◌, ◌++◌, ◌+◌, drop, ap, sym, ◌∙◌, refl}
use Rattle.tinyjson.specs.View.{view, text, members_listed}
use Rattle.tinyjson_schema_keywords.specs.Forms.{form_by}
use Rattle.tinyjson_schema_keywords.specs.Names.{keywords, keyword_among}
use Rattle.tinyjson_schema_keywords.specs.Subschemas.{keyword_parts, by_key}
use Rattle.tinyjson_schema_keywords.proofs.Lookups.{text_bytes}
use Rattle.tinyjson_schema_keywords.proofs.Stepping.{part_listed, parts_listed}
use Rattle.tinyjson_schema_keywords.proofs.subschemas.keyword_parts.Goals as goal

pub loop-name-preserved : goal.loop-name-preserved
loop-name-preserved c =
    let p = c.loop-name-item.result in
    let way = by_key (text p.0.now) in
    let rest = keyword_parts (members_listed (drop (c.loop-name.name-index + 1) c.args.members.now)) in
    let known = c.keyword_of-keyword.ensures
    ∙ ap (keyword_among keywords) (text_bytes p.0.now c.as_str.result.now c.as_str.ensures.value) in
    part_listed (λ i xs. keyword_parts (members_listed xs)) c.args.members.now c.loop-name.name-index c.loop-name.parts.items
    c.loop-name.invariant p _ c.push.new.self.items c.loop-name-test.true c.loop-name-item.is c.in_ok-push.ensures.items
    (ap (λ k. (way, k, form_by k, view p.1.now) ∷ rest) (sym known)
    ∙ ap (λ f. (way, c.keyword_of-keyword.result, f, view p.1.now) ∷ rest) (sym c.form_by.ensures))

pub returns : goal.returns
returns c = parts_listed (λ i xs. keyword_parts (members_listed xs)) c.args.members.now c.loop-name.name-index c.loop-name.parts.items
    c.loop-name.invariant c.loop-name-test.false refl
