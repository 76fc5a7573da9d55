-- The state of a check of a value, which is passed down from schema to subschema.
use Rattle.std.specs.Prelude.{◌≡◌, suc}
use Rattle.tinyjson_schema.specs.declared.walk.Walk.{Walk}

-- One step less is left.
abbrev pub IsDeeper : Walk → Walk → Type 0
IsDeeper w inner = (inner.ground ≡ w.ground) × (w.steps ≡ suc inner.steps)
