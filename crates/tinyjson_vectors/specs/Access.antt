-- Which part of a value the mark sees.
use Rattle.std.specs.Prelude.{Option, Some, None}
use Rattle.tinyjson.specs.declared.value.JsonValue.{JsonValue, JsonValue-F, out-JsonValue}
use Rattle.tinyjson.specs.declared.value.JsonValue.TheOpen.{Null}
use Rattle.tinyjson_vectors.specs.declared.access.NullMark.{NullMark}

abbrev pub mark_in : JsonValue-F JsonValue → Option NullMark
mark_in Null = Some (record {})
mark_in _ = None

-- the mark, of null
abbrev pub mark_part : JsonValue → Option NullMark
mark_part v = mark_in (out-JsonValue v)
