-- Texts and trees.
use Rattle.std.proofs.Common.{◌≤◌, ℕ, List, Option, Some, None, sym, ap, subst, arith}
use Rattle.std.specs.Int.{Width, w32}
use Rattle.tinyjson_number.specs.Numeral.{power_width}
use Rattle.tinyjson_grammar.specs.Tree.{Tree, tree_depth}
use Rattle.tinyjson_grammar.specs.Syntax.{depth, IsWithin}
use Rattle.tinyjson_grammar.specs.Grammar.{IsLoose, IsTextAt}
use Rattle.tinyjson_grammar.specs.Text as written
use Rattle.tinyjson_grammar.specs.Soundness.{IsTreeAt}
use Rattle.tinyjson_grammar.proofs.Callers.Laws.{depth_is, only_tree, IsWhiteIndent, within_le, written_text}
use Rattle.tinyjson_laws.specs.Reading.{OneTree, TextsAreSound, TreesHaveTexts, WiderLimit, WiderRange}
use Rattle.tinyjson_grammar.proofs.Callers.{sound_at, text_sound}
use Rattle.tinyjson_laws.proofs.Wider.{wider_text}

-- the tree of a text keeps the limit of the text
pub tree_within : (width : Width) (limit : Option ℕ) (xs : List ℕ) (t : Tree) → IsTextAt width limit xs t → IsWithin limit (tree_depth t)
tree_within width limit xs t h = within_le limit (tree_depth t) (depth h.loose.value) h.loose.shallow
    (subst (λ u. tree_depth u ≤ depth h.loose.value) (sym h.tree) (depth_is h.loose.value))

-- what a text has, written anew with any white indent
pub rewritten : (width : Width) (limit : Option ℕ) (xs : List ℕ) (t : Tree) (w : Option (List ℕ)) → IsWhiteIndent w
    → IsTextAt width limit xs t → IsTextAt width limit (written.text w 0 t) t
rewritten width limit xs t w i h = written_text width limit w 0 t i (sound_at width limit xs t h) (tree_within width limit xs t h)

pub one_tree : OneTree
one_tree limit xs t u h j = only_tree limit xs t u h j

pub texts_are_sound : TextsAreSound
texts_are_sound limit xs t h = text_sound limit xs t h

pub trees_have_texts : TreesHaveTexts
trees_have_texts t = (λ h. (written.compact t, written_text power_width None None 0 t tt h tt), λ p. texts_are_sound None p.0 t p.1)

-- a text of the loose grammar under another limit that it keeps
abbrev pub loose_at : (limit other : Option ℕ) (xs : List ℕ) (h : IsLoose limit xs) → IsWithin other (depth h.value) → IsLoose other xs
loose_at limit other xs h d = record {
  before = h.before;
  value = h.value;
  after = h.after;
  white_before = h.white_before;
  spelled = h.spelled;
  white_after = h.white_after;
  shallow = d;
  whole = h.whole;
}

at_limit : (width : Width) (limit other : Option ℕ) (xs : List ℕ) (t : Tree) → ((n : ℕ) → IsWithin limit n → IsWithin other n)
    → IsTextAt width limit xs t → IsTextAt width other xs t
at_limit width limit other xs t f h =
    record { loose = loose_at limit other xs h.loose (f _ h.loose.shallow); strict = h.strict; tree = h.tree }

pub wider_limit : WiderLimit
wider_limit m n xs t l h = (
  at_limit power_width (Some m) (Some n) xs t (λ k d. omega arith) h,
  at_limit power_width (Some m) None xs t (λ k d. tt) h,
)

pub wider_range : WiderRange
wider_range limit xs t h = let wide = wider_text limit xs t h
    in (wide, rewritten w32 limit xs t None tt h, λ u j. ap written.compact (only_tree limit xs u t j wide))
