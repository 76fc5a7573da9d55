-- The characters of the text of a tree in an arena are scalar values.
use Rattle.std.proofs.Common.{ℕ, ◌+◌, Bool, true, false, List, [], ◌∷◌, ◌++◌, Option, IfSome, inl, inr, refl, sym, subst}
use Rattle.std.proofs.lemmas.Str.{scalars-chars}
use Rattle.tinyjson.proofs.Callers.{text_of_scalars}
use Rattle.tinyjson.proofs.Callers.Laws.{AreScalars, scalars_append, before_scalars, closing_scalars, colon_scalars}
use Rattle.tinyjson_grammar.specs.Text.{text, items_text, members_text, quoted, before, after_colon, has_no_items, has_no_members}
use Rattle.tinyjson_grammar.specs.Tree.{Tree, null, boolean, number, string, array, object}
use Rattle.tinyjson_grammar.specs.Tree.{Items, no_items, item, Members, no_members, member}
use Rattle.tinyjson_number.specs.Canonical.{IsDecimalAt}
use Rattle.tinyjson_number.specs.Decimal.{Decimal}
use Rattle.tinyjson_number.specs.Numeral.{power_width}
use Rattle.tinyjson_cells.specs.Cell.{IsText, IsNumber, Is, Are, AreMembers}
use Rattle.tinyjson_normal.specs.Normal.{IsKept}
use Rattle.tinyjson_normal.specs.declared.normal.Content.{Content}
use Rattle.tinyjson_normal.specs.declared.normal.Content.TheVariants as content
use Rattle.tinyjson_cells.specs.declared.store.Member.{Member}
use Rattle.tinyjson_cells.specs.declared.store.Cell.{Cell}
use Rattle.tinyjson_cells.specs.declared.store.Span.{Span}
use Rattle.tinyjson_cells.specs.declared.store.Store.{Store}
use Rattle.tinyjson_cells.specs.Texts.{part_of}

-- an indent of scalars, where there is one
module _ (w : Option (List ℕ)) (indent : IfSome w AreScalars) (s : Store) where
  quoted_scalars : (cs : List ℕ) (p : Span) → IsText s cs p → AreScalars (quoted cs)
  quoted_scalars cs p h =
      text_of_scalars w indent 0 (string cs) (subst AreScalars (sym h.characters) (scalars-chars (part_of s.texts p) h.utf8))

  number_canonical : (d : Decimal) (n : Cell) → IsNumber s d n → IsDecimalAt power_width d
  number_canonical d n (inl h) = h.2.canonical
  number_canonical d n (inr h) = subst (IsDecimalAt power_width) h.2.decimal h.2.here.canonical

  mutual
    pub normal_scalars : (k : ℕ) (t : Tree) (n : Cell) → Is s t n → AreScalars (text w k t)
    normal_scalars k null n h = refl
    normal_scalars k (boolean true) n h = refl
    normal_scalars k (boolean false) n h = refl
    normal_scalars k (number d) n h = text_of_scalars w indent k (number d) (number_canonical d n h)
    normal_scalars k (string cs) n h = quoted_scalars cs h.0 h.2
    normal_scalars k (array ts) n h = scalars_append (items_text w (k + 1) true ts) _ (items_scalars (k + 1) true ts h.2 h.4)
        (closing_scalars w indent k (has_no_items ts) 93 refl)
    normal_scalars k (object ms) n h = scalars_append (members_text w (k + 1) true ms) _
        (members_scalars (k + 1) true ms h.2 h.4) (closing_scalars w indent k (has_no_members ms) 125 refl)

    items_scalars : (k : ℕ) (first : Bool) (ts : Items) (ns : List Cell) → Are s ts ns → AreScalars (items_text w k first ts)
    items_scalars k first no_items ns h = refl
    items_scalars k first (item t ts) [] h = absurd h
    items_scalars k first (item t ts) (n ∷ ns) h = scalars_append (before w k first) _ (before_scalars w indent k first)
        (scalars_append (text w k t) _ (normal_scalars k t n h.0) (items_scalars k false ts ns h.1))

    members_scalars : (k : ℕ) (first : Bool) (ms : Members) (es : List Member) → AreMembers s ms es
        → AreScalars (members_text w k first ms)
    members_scalars k first no_members es h = refl
    members_scalars k first (member key t ms) [] h = absurd h
    members_scalars k first (member key t ms) (e ∷ es) h = scalars_append (before w k first) _ (before_scalars w indent k first)
        (scalars_append (quoted key ++ (58 ∷ (after_colon w ++ text w k t))) _ (scalars_append (quoted key) _
        (quoted_scalars key e.key h.0) (colon_scalars w indent w (text w k t) (normal_scalars k t e.value h.1)))
        (members_scalars k false ms es h.2))

-- those of what is kept of a text
pub kept_scalars : (w : Option (List ℕ)) → IfSome w AreScalars → (c : Content) (t : Tree) → IsKept c t → AreScalars (text w 0 t)
kept_scalars w indent (content.Text v) t h = text_of_scalars w indent 0 t h.1
kept_scalars w indent (content.Arena a) t h = normal_scalars w indent a.store 0 t h.0 h.2
