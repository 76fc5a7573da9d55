-- Lists of schemas and of keywords, one after the other.
use Rattle.std.proofs.Common.{◌≡◌, ◌∷◌, [], ℕ, zero, suc, ◌<◌, ◌+◌, Bool, ◌&&◌, List, String, Global, Bor, Vec}
use Rattle.std.proofs.Common.{length, get_or, drop, encode_utf8_all, sym, ap, ◌∙◌, arith, add-one}
use Rattle.tinyjson.proofs.Callers.{view_Array}
use Rattle.tinyjson.specs.Tree.{Tree}
use Rattle.tinyjson.specs.View.{view, text, items_view, members_listed}
use Rattle.tinyjson.specs.declared.value.JsonValue.{JsonValue}
use Rattle.tinyjson.specs.declared.value.JsonValue.TheVariants as is
use Rattle.tinyjson_schema_keywords.specs.Forms.{form_at, is_some_item}
use Rattle.tinyjson_schema.specs.Schemas.{fits, keywords_fit, are_schemas, is_schema_list}

abbrev pub Listed : Type 0
Listed = Bor (String Global) × Bor JsonValue

drop_at : (ps : List Listed) (i : ℕ) (p : Listed) → i < length ps → p ≡ get_or ps i p → drop i ps ≡ p ∷ drop (suc i) ps
drop_at [] i p h e = absurd (omega arith)
drop_at (q ∷ ps) zero p h e = ap (λ x. x ∷ ps) (sym e)
drop_at (q ∷ ps) (suc i) p h e = drop_at ps i p (omega arith) e

-- the keyword of one turn, and those after it
pub keyword_turn : (root : Tree) (whole : Bool) (ps : List Listed) (i : ℕ) (p : Listed) → i < length ps → p ≡ get_or ps i p
    → keywords_fit root whole (members_listed (drop i ps))
    ≡ (fits root whole (form_at (encode_utf8_all (text p.0.now))) (view p.1.now) && keywords_fit root whole
    (members_listed (drop (i + 1) ps)))
keyword_turn root whole ps i p h e = rw add-one (ap (λ xs. keywords_fit root whole (members_listed xs)) (drop_at ps i p h e))

pub list_part : (root : Tree) (v : JsonValue) (l : Vec JsonValue Global) (ys : List JsonValue) → v ≡ is.Array l → ys ≡ l.items
    → (is_some_item (items_view ys) && are_schemas root (items_view ys)) ≡ is_schema_list root (view v)
list_part root v l ys e h = ap (λ zs. is_some_item (items_view zs) && are_schemas root (items_view zs)) h
    ∙ ap (is_schema_list root) (sym (ap view e ∙ view_Array l))
