-- References that are followed once; for private contracts.
use Rattle.std.specs.Prelude.{ℕ, Bool, true, false, ◌&&◌, cond, List, [], ◌∷◌, Option, Some, None, string_bytes}
use Rattle.std.specs.Str.{bytes_eq}
use Rattle.tinyjson.specs.Equality.{tree_eq}
use Rattle.tinyjson.specs.Tree.{Tree, string}
use Rattle.tinyjson.specs.View.{view, text}
use Rattle.tinyjson_schema_keywords.specs.References.{target}
use Rattle.tinyjson_schema.specs.declared.lead.Lead.{Lead}

-- there is a tree, and it is this one
abbrev pub is_at : Option Tree → Tree → Bool
is_at None t = false
is_at (Some u) t = tree_eq u t

-- the reference leads to the schema
abbrev pub is_led : Tree → Lead → Bool
is_led root l = is_at (target root (string (text l.reference.now))) (view l.schema.now)

-- each of the references leads to its schema
abbrev pub are_led : Tree → List Lead → Bool
are_led root [] = true
are_led root (l ∷ ls) = is_led root l && are_led root ls

-- the schema of the first reference with these bytes
abbrev pub led : List Lead → List ℕ → Option Tree
led [] bs = None
led (l ∷ ls) bs = cond (bytes_eq (string_bytes l.reference.now) bs) (Some (view l.schema.now)) (led ls bs)
