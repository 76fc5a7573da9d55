-- References that are followed once.
use Rattle.std.proofs.Common.{◌≡◌, ◌++◌, Bool, true, false, cond, List, [], ◌∷◌, Option, Some, None, String, Global, string_bytes}
use Rattle.std.proofs.Common.{bytes_eq, refl, sym, ap, ◌∙◌, true≢false}
use Rattle.std.proofs.lemmas.Bool.{and_parts, and_from}
use Rattle.std.proofs.lemmas.Slice.Eq.{bytes_eq-Decides}
use Rattle.std.specs.Str.{chars}
use Rattle.tinyjson.proofs.Callers.{view_String}
use Rattle.tinyjson.specs.Equality.{tree_eq_Decides}
use Rattle.tinyjson.specs.Tree.{Tree, string}
use Rattle.tinyjson.specs.View.{view, text}
use Rattle.tinyjson.specs.declared.value.JsonValue.{JsonValue}
use Rattle.tinyjson.specs.declared.value.JsonValue.TheVariants as is
use Rattle.tinyjson_schema_keywords.specs.References.{target}
use Rattle.tinyjson_schema.specs.Leads.{is_at, is_led, are_led, led}
use Rattle.tinyjson_schema.specs.declared.lead.Lead.{Lead}

at_some : (o : Option Tree) (t : Tree) → Some t ≡ o → is_at o t ≡ true
at_some None t h = cc
at_some (Some u) t h = let same : u ≡ t = cc in (tree_eq_Decides u t).1 same

some_at : (o : Option Tree) (t : Tree) → is_at o t ≡ true → Some t ≡ o
some_at None t h = absurd (true≢false (sym h))
some_at (Some u) t h = ap (λ (x : Tree). Some x) (sym ((tree_eq_Decides u t).0 h))

more_led : (root : Tree) (ls : List Lead) (l : Lead) → is_led root l ≡ true → are_led root ls ≡ true → are_led root (ls ++ (l ∷ [])) ≡ true
more_led root [] l g h = and_from (is_led root l) true g refl
more_led root (m ∷ ls) l g h =
    let both = and_parts (is_led root m) (are_led root ls) h in
    and_from (is_led root m) (are_led root (ls ++ (l ∷ []))) both.0 (more_led root ls l g both.1)

-- a reference that was followed is added
pub lead_added : (root : Tree) (v : JsonValue) (ls : List Lead) (l : Lead) → v ≡ is.String l.reference.now
    → Some (view l.schema.now) ≡ target root (view v) → are_led root ls ≡ true → are_led root (ls ++ (l ∷ [])) ≡ true
lead_added root v ls l e g h = more_led root ls l (at_some _ _ (g ∙ ap (target root) (ap view e ∙ view_String l.reference.now))) h

-- what is among the references leads there
pub led_leads : (root : Tree) (ls : List Lead) (s : String Global) (t : Tree) → are_led root ls ≡ true → Some t ≡ led ls (string_bytes s)
    → Some t ≡ target root (string (text s))
led_leads root [] s t h e = cc
led_leads root (l ∷ ls) s t h e = by (bytes_eq (string_bytes l.reference.now) (string_bytes s)) refl e
    (led_leads root ls s t (and_parts (is_led root l) (are_led root ls) h).1)
  where
    by : (b : Bool) → bytes_eq (string_bytes l.reference.now) (string_bytes s) ≡ b
        → Some t ≡ cond b (Some (view l.schema.now)) (led ls (string_bytes s))
        → (Some t ≡ led ls (string_bytes s) → Some t ≡ target root (string (text s))) → Some t ≡ target root (string (text s))
    by true q f rec = f ∙ (some_at _ _ (and_parts (is_led root l) (are_led root ls) h).0
        ∙ ap (λ bs. target root (string (chars bs))) ((bytes_eq-Decides (string_bytes l.reference.now) (string_bytes s)).0 q))
    by false q f rec = rec f
