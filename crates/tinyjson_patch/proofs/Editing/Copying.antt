-- Copies of items and of members, one by one.
use Rattle.std.proofs.Common.{◌≡◌, List, [], ◌∷◌, ◌++◌, Some, String, Global, cond, map, refl, sym, ap, ◌∙◌}
use Rattle.std.specs.BTreeMap.{is_at}
use Rattle.std.specs.Map.{lookup}
use Rattle.std.specs.String.{string_cmp}
use Rattle.tinyjson.specs.View.{text}
use Rattle.tinyjson_grammar.specs.Tree.{Tree, items_of, put}
use Rattle.tinyjson_document.specs.Replaying.{put_members}
use Rattle.tinyjson_patch.specs.private.Edited.{tree, Item, item_tree, items_tree, members_tree}
use Rattle.tinyjson_patch.specs.private.Writing.{listed}
use Rattle.tinyjson_patch.specs.declared.edit.edited.Edited.{Edited}
use Rattle.tinyjson_patch.proofs.Editing.Listed.{Entry, members_inserted}

one_copied : (es : List Item) (b : Item) (ts : List Tree) → map item_tree (es ++ b ∷ []) ++ ts ≡ map item_tree es ++ item_tree b ∷ ts
one_copied [] b ts = refl
one_copied (e ∷ es) b ts = ap (λ us. item_tree e ∷ us) (one_copied es b ts)

-- one item more is copied
pub next_copied : (es es' rest rest' : List Item) (b x : Item) (ts : List Tree) → es' ≡ es ++ b ∷ [] → item_tree b ≡ item_tree x
    → rest ≡ x ∷ rest' → map item_tree es ++ map item_tree rest ≡ ts → map item_tree es' ++ map item_tree rest' ≡ ts
next_copied es es' rest rest' b x ts more same split so_far =
    ap (λ bs. map item_tree bs ++ map item_tree rest') more
    ∙ (one_copied es b (map item_tree rest')
    ∙ (ap (λ t. map item_tree es ++ t ∷ map item_tree rest') same
    ∙ (ap (λ bs. map item_tree es ++ map item_tree bs) (sym split) ∙ so_far)))

append_none : (ts : List Tree) → ts ++ [] ≡ ts
append_none [] = refl
append_none (t ∷ ts) = ap (λ us. t ∷ us) (append_none ts)

pub all_copied : (es rest items : List Item) → rest ≡ [] → map item_tree es ++ map item_tree rest ≡ map item_tree items
    → items_tree es ≡ items_tree items
all_copied es rest items none h =
    ap items_of (sym (append_none (map item_tree es)) ∙ (ap (λ bs. map item_tree es ++ map item_tree bs) (sym none) ∙ h))

-- one member more is copied
pub next_member_copied : (old new rest rest' : List Entry) (k : String Global) (v : Edited) (x : Entry) {ms : _}
    → ((q : String Global)
    → lookup (is_at (string_cmp q)) new ≡ cond (is_at (string_cmp k) q) (Some v) (lookup (is_at (string_cmp q)) old))
    → text k ≡ text x.0 → tree v ≡ tree x.1 → rest ≡ x ∷ rest' → put_members (members_tree old) (listed rest) ≡ ms
    → put_members (members_tree new) (listed rest') ≡ ms
next_member_copied old new rest rest' k v x updates key value split so_far =
    ap (λ ns. put_members ns (listed rest')) (members_inserted old new k v updates
    ∙ (ap (λ j. put j (tree v) (members_tree old)) key ∙ ap (λ t. put (text x.0) t (members_tree old)) value))
    ∙ (ap (λ xs. put_members (members_tree old) (listed xs)) (sym split) ∙ so_far)
