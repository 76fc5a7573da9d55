-- Members of a map beside the members of its tree, and numbers that are no port.
use Rattle.std.proofs.Common.{◌≡◌, ◌<◌, ◌^◌, ℕ, pos, true, List, Option, Some, option_map, Bor, sym, ap, ◌∙◌, arith}
use Rattle.std.specs.HashMap.{get_by_text}
use Rattle.tinyjson.proofs.Callers.{are_ascii, find_get_literal, object_tree, view_ref, number_tree, naturals_differ}
use Rattle.tinyjson.specs.Access.{JsonMap, object_part, number_part}
use Rattle.tinyjson.specs.Index.{tree_at_key}
use Rattle.tinyjson.specs.Number.{integer_decimal, JsonNumber}
use Rattle.tinyjson.specs.Tree.{number}
use Rattle.tinyjson.specs.View.{view, members_view}
use Rattle.tinyjson.specs.declared.value.JsonValue.{JsonValue}
use Rattle.example_settings.specs.Settings.{IsPort, IsObject}

-- a number that is no whole number from 1 to 65535
pub no_port : (r : Option (Bor JsonValue)) (v : Bor JsonValue) (x : JsonNumber) (n : ℕ) → r ≡ Some v → number_part v.now ≡ Some x
    → x.decimal ≡ integer_decimal (pos n) → n < 2 ^ 64 → ¬ ((0 < n) × (n < 65536))
    → (k : ℕ) → ¬ IsPort (option_map (λ y. view y.now) r) k
no_port r v x n is held whole fits out k (e, low, high) =
    let found : Some (number x.decimal) ≡ Some (number (integer_decimal (pos k))) = ap Some (sym (number_tree v.now x held))
    ∙ (sym (ap (option_map (λ y. view y.now)) is) ∙ e) in
    let same : x.decimal ≡ integer_decimal (pos k) = cc in
    let one : k ≡ n = naturals_differ k n (omega arith) fits (sym same ∙ whole) in
    out (omega arith, omega arith)

pub is_object : (v : JsonValue) (m : JsonMap) → object_part v ≡ Some m → IsObject (view v)
is_object v m held = (members_view m.entries, object_tree v m held)

-- what a map gives at a literal key is the member of the tree
module _ (v : JsonValue) (m : JsonMap) (key : List ℕ) (held : object_part v ≡ Some m) (ascii : are_ascii key ≡ true) where
  pub member_is : (o : Option JsonValue) → o ≡ get_by_text m key → option_map view o ≡ tree_at_key (view v) key
  member_is o got = ap (option_map view) got ∙ (sym (find_get_literal m key ascii)
      ∙ ap (λ t. tree_at_key t key) (sym (object_tree v m held)))

  pub lent_is : (r : Option (Bor JsonValue)) → option_map (λ x. x.now) r ≡ get_by_text m key
      → option_map (λ x. view x.now) r ≡ tree_at_key (view v) key
  lent_is r got = view_ref r ∙ member_is (option_map (λ x. x.now) r) got
