-- The test of two trees for equality.
use Rattle.std.specs.Prelude.{◌≡◌, Bool, true, false, ◌&&◌}
use Rattle.std.specs.Bool.{beq, Decides}
use Rattle.std.specs.Cmp.{IsEquivalence, booleans_Decides, decided}
use Rattle.std.specs.Str.{bytes_eq}
use Rattle.std.proofs.Common.{ap, sym, true≢false, refl}
use Rattle.std.proofs.lemmas.Bool.Decides.{Decides-and, Decides-like}
use Rattle.std.proofs.lemmas.Cmp.{on_equiv}
use Rattle.std.proofs.lemmas.Slice.Eq.{bytes_eq-Decides}
use Rattle.tinyjson_number.specs.Number.{decimal_eq, decimal_eq_Decides}
use Rattle.tinyjson_grammar.specs.Tree.{Tree, null, boolean, number, string, array, object}
use Rattle.tinyjson_grammar.specs.Tree.{Items, no_items, item, Members, no_members, member}
use Rattle.tinyjson.specs.View.{view}
use Rattle.tinyjson.specs.declared.value.JsonValue.{JsonValue}

abbrev mutual
  pub tree_eq : Tree → Tree → Bool
  tree_eq null null = true
  tree_eq (boolean a) (boolean b) = beq a b
  tree_eq (number a) (number b) = decimal_eq a b
  tree_eq (string a) (string b) = bytes_eq a b
  tree_eq (array a) (array b) = items_eq a b
  tree_eq (object a) (object b) = members_eq a b
  tree_eq _ _ = false

  pub items_eq : Items → Items → Bool
  items_eq no_items no_items = true
  items_eq (item t ts) (item u us) = tree_eq t u && items_eq ts us
  items_eq _ _ = false

  pub members_eq : Members → Members → Bool
  members_eq no_members no_members = true
  members_eq (member k t ms) (member l u ns) = bytes_eq k l && (tree_eq t u && members_eq ms ns)
  members_eq _ _ = false

mutual
  pub tree_eq_Decides : (t u : Tree) → Decides (tree_eq t u) (t ≡ u)
  tree_eq_Decides null null = (λ h. refl, λ e. refl)
  tree_eq_Decides (boolean a) (boolean b) = Decides-like _ (λ e. ap boolean e) (λ e. cc) (booleans_Decides a b)
  tree_eq_Decides (number a) (number b) = Decides-like _ (λ e. ap number e) (λ e. cc) (decimal_eq_Decides a b)
  tree_eq_Decides (string a) (string b) = Decides-like _ (λ e. ap string e) (λ e. cc) (bytes_eq-Decides a b)
  tree_eq_Decides (array a) (array b) = Decides-like _ (λ e. ap array e) (λ e. cc) (items_eq_Decides a b)
  tree_eq_Decides (object a) (object b) = Decides-like _ (λ e. ap object e) (λ e. cc) (members_eq_Decides a b)
  tree_eq_Decides _ _ = (λ h. absurd (true≢false (sym h)), λ e. cc)

  pub items_eq_Decides : (ts us : Items) → Decides (items_eq ts us) (ts ≡ us)
  items_eq_Decides no_items no_items = (λ h. refl, λ e. refl)
  items_eq_Decides (item t ts) (item u us) = Decides-like _ (λ p. (λ i. item (p.0 i) (p.1 i))) (λ e. (cc, cc))
      (Decides-and _ _ (tree_eq_Decides t u) (items_eq_Decides ts us))
  items_eq_Decides _ _ = (λ h. absurd (true≢false (sym h)), λ e. cc)

  pub members_eq_Decides : (ms ns : Members) → Decides (members_eq ms ns) (ms ≡ ns)
  members_eq_Decides no_members no_members = (λ h. refl, λ e. refl)
  members_eq_Decides (member k t ms) (member l u ns) =
      Decides-like _ (λ p. (λ i. member (p.0 i) (p.1.0 i) (p.1.1 i))) (λ e. (cc, (cc, cc)))
      (Decides-and _ _ (bytes_eq-Decides k l) (Decides-and _ _ (tree_eq_Decides t u) (members_eq_Decides ms ns)))
  members_eq_Decides _ _ = (λ h. absurd (true≢false (sym h)), λ e. cc)

-- what `==` of two values returns: whether their trees are equal
abbrev pub same_tree : JsonValue → JsonValue → Bool
same_tree v w = tree_eq (view v) (view w)

pub same_tree_equiv : IsEquivalence same_tree
same_tree_equiv = on_equiv view (decided tree_eq tree_eq_Decides)
