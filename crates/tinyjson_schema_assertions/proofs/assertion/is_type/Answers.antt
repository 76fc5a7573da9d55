use Rattle.std.proofs.Common.{◌≡◌, ◌∙◌, true, false, bytes_eq, string_bytes, codes, sym, refl}
use Rattle.tinyjson.specs.Kind.{kind_of, kind_name}
use Rattle.tinyjson_view.specs.Views.{tree_of}
use Rattle.tinyjson_schema_assertions.specs.Assertions.{is_whole}
use Rattle.tinyjson_schema_assertions.proofs.Operands.{compared_bytes, type_determined}
use Rattle.tinyjson_schema_assertions.proofs.assertion.is_type.Goals as goal

pub returns-then-are_equal : goal.returns-then-are_equal
returns-then-are_equal c =
    let s = c.in-String.name in
    let t = tree_of c.args.value.now in
    let first : true ≡ bytes_eq (string_bytes s) (kind_name (kind_of t))
    = sym c.if-are_equal.true ∙ compared_bytes c.are_equal.result c.as_bytes.result.now c.as_bytes-2.result.now (string_bytes s)
    (kind_name (kind_of t)) c.are_equal.ensures c.as_bytes.ensures.value (c.as_bytes-2.ensures.value ∙ c.kind_name.ensures) in
    type_determined c.args.name.now s t true (bytes_eq (string_bytes s) (codes "integer")) (is_whole t) c.in-String.is first refl refl

pub returns-then-are_equal-2 : goal.returns-then-are_equal-2
returns-then-are_equal-2 c =
    let s = c.in-String.name in
    let t = tree_of c.args.value.now in
    let first : false ≡ bytes_eq (string_bytes s) (kind_name (kind_of t))
    = sym c.if-are_equal.false ∙ compared_bytes c.are_equal.result c.as_bytes.result.now c.as_bytes-2.result.now (string_bytes s)
    (kind_name (kind_of t)) c.are_equal.ensures c.as_bytes.ensures.value (c.as_bytes-2.ensures.value ∙ c.kind_name.ensures) in
    let whole : true ≡ bytes_eq (string_bytes s) (codes "integer") = sym c.if-are_equal-2.true
    ∙ compared_bytes c.are_equal-2.result c.as_bytes-3.result.now (codes "integer") (string_bytes s) (codes "integer") c.are_equal-2.ensures
    c.as_bytes-3.ensures.value refl in
    type_determined c.args.name.now s t false true c.is_whole.result c.in-String.is first whole c.is_whole.ensures

pub returns-else-are_equal-2 : goal.returns-else-are_equal-2
returns-else-are_equal-2 c =
    let s = c.in-String.name in
    let t = tree_of c.args.value.now in
    let first : false ≡ bytes_eq (string_bytes s) (kind_name (kind_of t))
    = sym c.if-are_equal.false ∙ compared_bytes c.are_equal.result c.as_bytes.result.now c.as_bytes-2.result.now (string_bytes s)
    (kind_name (kind_of t)) c.are_equal.ensures c.as_bytes.ensures.value (c.as_bytes-2.ensures.value ∙ c.kind_name.ensures) in
    let whole : false ≡ bytes_eq (string_bytes s) (codes "integer") = sym c.if-are_equal-2.false
    ∙ compared_bytes c.are_equal-2.result c.as_bytes-3.result.now (codes "integer") (string_bytes s) (codes "integer") c.are_equal-2.ensures
    c.as_bytes-3.ensures.value refl in
    c.if-are_equal-2.false ∙ type_determined c.args.name.now s t false false (is_whole t) c.in-String.is first whole refl
