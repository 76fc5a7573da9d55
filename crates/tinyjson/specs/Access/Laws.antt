-- A part that was put is the part that is seen, and putting back what is seen changes nothing.
use Rattle.std.specs.Prelude.{◌≡◌, Bool, Some, Vec, String}
use Rattle.std.proofs.Common.{ap, sym, ◌∙◌}
use Rattle.std.specs.declared.alloc.Global.{Global}
use Rattle.tinyjson_number.specs.declared.number.JsonNumber.{JsonNumber}
use Rattle.tinyjson.specs.Access.{JsonMap, number_in, boolean_in, string_in, array_in, object_in, number_part, boolean_part, string_part}
use Rattle.tinyjson.specs.Access.{array_part, object_part}
use Rattle.tinyjson.specs.declared.value.JsonValue as made
use Rattle.tinyjson.specs.declared.value.JsonValue.{JsonValue, JsonValue-F, out-JsonValue, roll-JsonValue, roll-out-JsonValue}
use Rattle.tinyjson.specs.declared.value.JsonValue.TheOpen.{Number, Boolean, String as Text, Array, Object}
use Rattle.tinyjson.specs.declared.value.JsonValue.TheVariants.{outs-Number, outs-Boolean, outs-String, outs-Array, outs-Object}
use Rattle.tinyjson.specs.declared.value.JsonValue.TheVariants.{rolls-Number, rolls-Boolean, rolls-String, rolls-Array, rolls-Object}

pub number_of_put : (x : JsonNumber) → number_part (made.Number x) ≡ Some x
number_of_put x = ap number_in (outs-Number x)

pub boolean_of_put : (x : Bool) → boolean_part (made.Boolean x) ≡ Some x
boolean_of_put x = ap boolean_in (outs-Boolean x)

pub string_of_put : (x : String Global) → string_part (made.String x) ≡ Some x
string_of_put x = ap string_in (outs-String x)

pub array_of_put : (x : Vec JsonValue Global) → array_part (made.Array x) ≡ Some x
array_of_put x = ap array_in (outs-Array x)

pub object_of_put : (x : JsonMap) → object_part (made.Object x) ≡ Some x
object_of_put x = ap object_in (outs-Object x)

-- a value is determined by its one level
abbrev same_level : (o : JsonValue-F JsonValue) (v : JsonValue) → out-JsonValue v ≡ o → v ≡ roll-JsonValue o
same_level o v h = sym (roll-out-JsonValue v) ∙ ap roll-JsonValue h

number_is : (o : JsonValue-F JsonValue) (x : JsonNumber) → number_in o ≡ Some x → o ≡ Number x
number_is (Number y) x h = cc
number_is _ x h = cc

boolean_is : (o : JsonValue-F JsonValue) (x : Bool) → boolean_in o ≡ Some x → o ≡ Boolean x
boolean_is (Boolean y) x h = cc
boolean_is _ x h = cc

string_is : (o : JsonValue-F JsonValue) (x : String Global) → string_in o ≡ Some x → o ≡ Text x
string_is (Text y) x h = cc
string_is _ x h = cc

array_is : (o : JsonValue-F JsonValue) (x : Vec JsonValue Global) → array_in o ≡ Some x → o ≡ Array x
array_is (Array y) x h = cc
array_is _ x h = cc

object_is : (o : JsonValue-F JsonValue) (x : JsonMap) → object_in o ≡ Some x → o ≡ Object x
object_is (Object y) x h = cc
object_is _ x h = cc

pub put_of_number : (v : JsonValue) (x : JsonNumber) → number_part v ≡ Some x → made.Number x ≡ v
put_of_number v x h = sym (same_level (Number x) v (number_is (out-JsonValue v) x h) ∙ rolls-Number x)

pub put_of_boolean : (v : JsonValue) (x : Bool) → boolean_part v ≡ Some x → made.Boolean x ≡ v
put_of_boolean v x h = sym (same_level (Boolean x) v (boolean_is (out-JsonValue v) x h) ∙ rolls-Boolean x)

pub put_of_string : (v : JsonValue) (x : String Global) → string_part v ≡ Some x → made.String x ≡ v
put_of_string v x h = sym (same_level (Text x) v (string_is (out-JsonValue v) x h) ∙ rolls-String x)

pub put_of_array : (v : JsonValue) (x : Vec JsonValue Global) → array_part v ≡ Some x → made.Array x ≡ v
put_of_array v x h = sym (same_level (Array x) v (array_is (out-JsonValue v) x h) ∙ rolls-Array x)

pub put_of_object : (v : JsonValue) (x : JsonMap) → object_part v ≡ Some x → made.Object x ≡ v
put_of_object v x h = sym (same_level (Object x) v (object_is (out-JsonValue v) x h) ∙ rolls-Object x)
