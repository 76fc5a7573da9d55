-- A written text is a text of its tree, so two trees with one compact text are one.
use Rattle.std.proofs.Common.{◌≡◌, ℕ, List, [], Option, None, sym, ◌∙◌, subst, append-nil}
use Rattle.std.specs.Int.{Width}
use Rattle.tinyjson_number.specs.Numeral.{power_width}
use Rattle.tinyjson_grammar.specs.Tree.{Tree, tree_depth}
use Rattle.tinyjson_grammar.specs.Syntax.{text, IsWithin}
use Rattle.tinyjson_grammar.specs.Grammar.{IsText, IsTextAt}
use Rattle.tinyjson_grammar.specs.Text as written
use Rattle.tinyjson_grammar.specs.Soundness.{IsTree, IsTreeAt}
use Rattle.tinyjson_grammar.proofs.Accepts.Text.{only_tree}
use Rattle.tinyjson_grammar.proofs.Texts.TreeTrip.{IsWhiteIndent, spell}

-- a written text, with any limit that the tree keeps
pub written_text : (width : Width) (limit : Option ℕ) (w : Option (List ℕ)) (k : ℕ) (t : Tree) → IsWhiteIndent w → IsTreeAt width t
    → IsWithin limit (tree_depth t) → IsTextAt width limit (written.text w k t) t
written_text width limit w k t i h d =
    let s = spell width w i k t h in record {
      loose = record {
        before = [];
        value = s.value;
        after = [];
        white_before = tt;
        spelled = s.spelled;
        white_after = tt;
        shallow = rw s.depth d;
        whole = sym (append-nil (text s.value) ∙ s.text);
      };
      strict = s.strict;
      tree = sym s.tree;
    }

-- the compact text of a tree is a text of it
pub compact_text : (t : Tree) → IsTree t → IsText None (written.compact t) t
compact_text t h = written_text power_width None None 0 t tt h tt

-- trees that are read from one text
pub from_text : (t u : Tree) (xs ys : List ℕ) → IsText None xs t → IsText None ys u → xs ≡ ys → t ≡ u
from_text t u xs ys h j e = only_tree None ys t u (subst (λ zs. IsText None zs t) e h) j

-- two trees with one compact text are one
pub one_compact : (t u : Tree) → IsTree t → IsTree u → written.compact t ≡ written.compact u → t ≡ u
one_compact t u h j e = from_text t u _ _ (compact_text t h) (compact_text u j) e
