-- Lists of schemas.
use Rattle.std.proofs.Common.{◌≡◌, ◌∷◌, [], ◌==◌, false, not, List}
use Rattle.std.proofs.Common.{length, refl, ap, arith, ne_eqb}
use Rattle.tinyjson.specs.View.{items_view}
use Rattle.tinyjson.specs.declared.value.JsonValue.{JsonValue}
use Rattle.tinyjson_schema_keywords.specs.Forms.{is_some_item}

pub some_items : (vs : List JsonValue) → not (length vs == 0) ≡ is_some_item (items_view vs)
some_items [] = refl
some_items (v ∷ vs) = let some : (length (v ∷ vs) == 0) ≡ false = ne_eqb _ _ (omega arith) in ap not some
