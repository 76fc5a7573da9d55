-- Which part of a value each type sees.
use Rattle.std.specs.Prelude.{Bool, true, false, Option, Some, None, String, Vec}
use Rattle.std.specs.HashMap.{HashMap}
use Rattle.std.specs.declared.alloc.Global.{Global}
use Rattle.std.specs.declared.hash.BuildHasherDefault.{BuildHasherDefault}
use Rattle.std.specs.declared.hash.FoldHasher.{FoldHasher}
use Rattle.tinyjson_number.specs.declared.number.JsonNumber.{JsonNumber}
use Rattle.tinyjson_grammar.specs.Tree.{Tree, null, boolean, number, array, object}
use Rattle.tinyjson.specs.declared.value.JsonValue.{JsonValue, JsonValue-F, out-JsonValue}
use Rattle.tinyjson.specs.declared.value.JsonValue.TheOpen.{Number, Boolean, String as Text, Null, Array, Object}
pub use Rattle.tinyjson_grammar.specs.Tree.{is_string}
pub mod Laws

abbrev pub JsonMap : Type 0
JsonMap = HashMap (String Global) JsonValue (BuildHasherDefault FoldHasher)

-- what one level of a value holds, by its variant
abbrev pub number_in : JsonValue-F JsonValue → Option JsonNumber
number_in (Number x) = Some x
number_in _ = None

abbrev pub boolean_in : JsonValue-F JsonValue → Option Bool
boolean_in (Boolean x) = Some x
boolean_in _ = None

abbrev pub string_in : JsonValue-F JsonValue → Option (String Global)
string_in (Text x) = Some x
string_in _ = None

abbrev pub null_in : JsonValue-F JsonValue → Option (Unit {0})
null_in Null = Some tt
null_in _ = None

abbrev pub array_in : JsonValue-F JsonValue → Option (Vec JsonValue Global)
array_in (Array x) = Some x
array_in _ = None

abbrev pub object_in : JsonValue-F JsonValue → Option JsonMap
object_in (Object x) = Some x
object_in _ = None

-- the content of a value of that variant, and nothing of any other
abbrev pub number_part : JsonValue → Option JsonNumber
number_part v = number_in (out-JsonValue v)

abbrev pub boolean_part : JsonValue → Option Bool
boolean_part v = boolean_in (out-JsonValue v)

abbrev pub string_part : JsonValue → Option (String Global)
string_part v = string_in (out-JsonValue v)

abbrev pub null_part : JsonValue → Option (Unit {0})
null_part v = null_in (out-JsonValue v)

abbrev pub array_part : JsonValue → Option (Vec JsonValue Global)
array_part v = array_in (out-JsonValue v)

abbrev pub object_part : JsonValue → Option JsonMap
object_part v = object_in (out-JsonValue v)

-- which variant a tree is
abbrev pub is_null : Tree → Bool
is_null null = true
is_null _ = false

abbrev pub is_boolean : Tree → Bool
is_boolean (boolean b) = true
is_boolean _ = false

abbrev pub is_number : Tree → Bool
is_number (number d) = true
is_number _ = false

abbrev pub is_array : Tree → Bool
is_array (array ts) = true
is_array _ = false

abbrev pub is_object : Tree → Bool
is_object (object ms) = true
is_object _ = false
