-- The example of the standard (JSON Schema 2020-12, Core, 8.2.3.2 and appendix C), and one with contested names: what a
-- dynamic scope decides, by computing.
use Rattle.std.proofs.Common.{◌≡◌, ℕ, true, false, List, [], ◌∷◌, ◌++◌, Some, None, refl, codes, inl, inr, arith}
use Rattle.std.specs.Fmt.{digits}
use Rattle.std.specs.Str.{is_utf8, chars}
use lib.Utf8.{encode}
use Rattle.tinyjson.specs.Tree.{Tree, boolean, string, array, object, no_items, item, Members, no_members, member}
use Rattle.tinyjson.specs.Soundness.{IsTree}
use Rattle.tinyjson_schema_bundle.specs.Bundles.{Marked, marks_of}
use Rattle.tinyjson_schema_bundle.specs.Scopes.{Reached, bundled}
use Rattle.tinyjson_schema_bundle.specs.declared.mark.Kind.TheVariants as kind
use Rattle.tinyjson_schema.specs.Evaluated.{Answers}
use Rattle.tinyjson_schema.specs.Schemas.{is_schema}
use Rattle.tinyjson_schema.specs.Valid.{plain, judge}
use Rattle.tinyjson_schema_laws.specs.Laws.{IsUncontested, IsCopied, IsAlone}
use Rattle.tinyjson_schema_laws.specs.Short.{IsShort}
use Rattle.tinyjson_schema_laws.specs.Scoped.{Scoped, judged, led_to, located_at, outer}

abbrev text : List ℕ → Tree
text cs = string cs

-- nodes with `children`, which are nodes again
abbrev tree_schema : Tree
tree_schema = object (member (codes "$dynamicAnchor") (text (codes "node")) (member (codes "$id") (text (codes "tree"))
    (member (codes "properties") (object (member (codes "children")
    (object (member (codes "items") (object (member (codes "$dynamicRef") (text (codes "#node")) no_members)) no_members))
    (member (codes "data") (boolean true) no_members))) no_members)))

-- the same, where no node has other members
abbrev strict_schema : Tree
strict_schema = object (member (codes "$defs") (object (member (codes "tree") tree_schema no_members))
    (member (codes "$dynamicAnchor") (text (codes "node")) (member (codes "$id") (text (codes "strict-tree"))
    (member (codes "$ref") (text (codes "tree")) (member (codes "unevaluatedProperties") (boolean false) no_members)))))

-- `$ref` leads to the tree, and `$dynamicRef` from there to the strict one
tree_led : led_to (marks_of strict_schema) (outer strict_schema) false (text (codes "tree")) ≡ Some (codes "/$defs/tree")
unfolding is_utf8 chars encode
tree_led = refl

node_led : led_to (marks_of strict_schema) (codes "tree" ∷ outer strict_schema) true (text (codes "#node")) ≡ Some []
unfolding is_utf8 chars encode
node_led = refl

tree_sound : IsTree tree_schema
unfolding encode
tree_sound = (
  (refl, refl, (refl, refl, (refl, ((refl, ((refl, ((refl, refl, tt), (tt, tt)), tt), (tt, tt)), (refl, tt, tt)), (refl, (tt, tt))), tt))),
  (refl, (refl, (tt, tt))),
)

tree_short : IsShort tree_schema
tree_short = (tt, (tt, ((((tt, tt), tt), (tt, tt)), tt)))

-- alone, it is a document of one resource that the laws are about
tree_alone : IsAlone tree_schema
unfolding is_utf8 chars encode
tree_alone = record { sound = tree_sound; short = tree_short; applied = refl }

-- and the strict one is a document of several
strict_uncontested : IsUncontested strict_schema
unfolding is_utf8 chars encode
strict_uncontested = record {
  sound = (
    (refl, ((refl, tree_sound, tt), (tt, tt)), (refl, refl, (refl, refl, (refl, refl, (refl, tt, tt))))),
    (refl, (refl, (refl, (refl, (tt, tt))))),
  );
  several = refl;
  none = refl;
  applied = refl;
}

abbrev one_child : List ℕ → Tree
one_child key = object (member (codes "children") (array (item (object (member key (boolean true) no_members)) no_items)) no_members)

-- the misspelt `daat` of a child is refused, in the document and in the bundled one
misspelt_refused : (g : Scoped) → judged strict_schema false 7 g (one_child (codes "daat")) ≡ false
unfolding is_utf8 chars encode
misspelt_refused g = refl

data_accepted : (g : Scoped) → judged strict_schema false 7 g (one_child (codes "data")) ≡ true
unfolding is_utf8 chars encode
data_accepted g = refl

misspelt_bundled : (g : Answers) → judge (plain (bundled [] strict_schema)) 7 g (bundled [] strict_schema) (one_child (codes "daat"))
    ≡ false
unfolding is_utf8 chars encode
misspelt_bundled g = refl

data_bundled : (g : Answers) → judge (plain (bundled [] strict_schema)) 7 g (bundled [] strict_schema) (one_child (codes "data")) ≡ true
unfolding is_utf8 chars encode
data_bundled g = refl

-- ---- a name that three resources have

abbrev named : Members → Tree
named ms = object (member (codes "n") (object (member (codes "$dynamicAnchor") (text (codes "n")) ms)) no_members)

abbrev list_schema : Tree
list_schema = object (member (codes "$defs") (named no_members) (member (codes "$id") (text (codes "list"))
    (member (codes "items") (object (member (codes "$dynamicRef") (text (codes "#n")) no_members)) no_members)))

-- a list, with this type of its items
abbrev list_of : List ℕ → List ℕ → Tree
list_of uri type = object (member (codes "$defs") (named (member (codes "type") (text type) no_members))
    (member (codes "$id") (text uri) (member (codes "$ref") (text (codes "list")) no_members)))

abbrev refers : List ℕ → Tree
refers uri = object (member (codes "$ref") (text uri) no_members)

abbrev lists_schema : Tree
lists_schema = object (member (codes "$defs") (object (member (codes "l") list_schema (member (codes "s") (list_of (codes "texts")
    (codes "string"))
    (member (codes "t") (list_of (codes "truths") (codes "boolean")) no_members))))
    (member (codes "properties") (object (member (codes "s") (refers (codes "texts")) (member (codes "t") (refers
    (codes "truths")) no_members)))
    no_members))

-- the list is reached from both others, so it has two copies
abbrev both_copies : List Reached
both_copies = ((kind.DynamicName, codes "texts#n", codes "/$defs/s/$defs/n") ∷ [], codes "/$defs/l")
    ∷ ((kind.DynamicName, codes "truths#n", codes "/$defs/t/$defs/n") ∷ [], codes "/$defs/l") ∷ []

abbrev lists : Tree → Tree → Tree
lists s t = object (member (codes "s") (array (item s no_items)) (member (codes "t") (array (item t no_items)) no_members))

right_accepted : (g : Scoped) → judged lists_schema false 6 g (lists (text []) (boolean true)) ≡ true
unfolding is_utf8 chars encode
right_accepted g = refl

wrong_refused : (g : Scoped) → judged lists_schema false 6 g (lists (text []) (text [])) ≡ false
unfolding is_utf8 chars encode
wrong_refused g = refl

right_bundled : (g : Answers)
    → judge (plain (bundled both_copies lists_schema)) 6 g (bundled both_copies lists_schema) (lists (text []) (boolean true)) ≡ true
unfolding is_utf8 chars encode digits
right_bundled g = refl

wrong_bundled : (g : Answers)
    → judge (plain (bundled both_copies lists_schema)) 6 g (bundled both_copies lists_schema) (lists (text []) (text [])) ≡ false
unfolding is_utf8 chars encode digits
wrong_bundled g = refl

-- it is one that the law of copies is about
named_sound : IsTree (named no_members)
unfolding encode
named_sound = ((refl, ((refl, refl, tt), (tt, tt)), tt), (tt, tt))

typed_sound : (type : List ℕ) → IsTree (text type) → IsTree (named (member (codes "type") (text type) no_members))
unfolding encode
typed_sound type h = ((refl, ((refl, refl, (refl, h, tt)), (refl, (tt, tt))), tt), (tt, tt))

refers_sound : (uri : List ℕ) → IsTree (text uri) → IsTree (refers uri)
unfolding encode
refers_sound uri h = ((refl, h, tt), (tt, tt))

list_sound : IsTree list_schema
unfolding encode
list_sound = ((refl, named_sound, (refl, refl, (refl, ((refl, refl, tt), (tt, tt)), tt))), (refl, (refl, (tt, tt))))

list_of_sound : (uri type : List ℕ) → IsTree (text uri) → IsTree (text type) → IsTree (list_of uri type)
unfolding encode
list_of_sound uri type g h = ((refl, typed_sound type h, (refl, g, (refl, refl, tt))), (refl, (refl, (tt, tt))))

lists_sound : IsTree lists_schema
unfolding encode
lists_sound = (
  (
    refl,
    (
      (
        refl,
        list_sound,
        (
          refl,
          list_of_sound (codes "texts") (codes "string") refl refl,
          (refl, list_of_sound (codes "truths") (codes "boolean") refl refl, tt),
        ),
      ),
      (refl, (refl, (tt, tt))),
    ),
    (
      refl,
      ((refl, refers_sound (codes "texts") refl, (refl, refers_sound (codes "truths") refl, tt)), (refl, (tt, tt))),
      tt,
    ),
  ),
  (refl, (tt, tt)),
)

lists_short : IsShort lists_schema
lists_short = (
  (
    (((tt, tt), tt), (tt, ((tt, tt), tt))),
    ((((tt, (tt, tt)), tt), (tt, (tt, tt))), ((((tt, (tt, tt)), tt), (tt, (tt, tt))), tt)),
  ),
  (((tt, tt), ((tt, tt), tt)), tt),
)

lists_copied : IsCopied lists_schema both_copies
unfolding is_utf8 chars encode digits
lists_copied = record {
  sound = lists_sound;
  short = lists_short;
  several = refl;
  applied = refl;
  states = record {
    few = omega arith;
    scopes = (
      (inr (inr (inr (inr (inr (inl refl))))), refl, tt),
      (
        (inr (inr (inr (inr (inr (inr (inr (inr (inl refl)))))))), refl, tt),
        tt,
      ),
    );
  };
}

-- ---- what no law can say

-- Not for all copies do both agree: those for a scope that has the same place under another name are for no scope of the
-- document (`AreCopies`), and still every reference leads to a schema.
abbrev other_name : List ℕ → List ℕ → List Marked
other_name uri place = (kind.DynamicName, uri, place) ∷ []

abbrev and_list : List Marked → List Marked
and_list c = c ++ (kind.DynamicName, codes "list#n", codes "/$defs/l/$defs/n") ∷ []

abbrev wrong_copies : List Reached
wrong_copies = (other_name (codes "texts#m") (codes "/$defs/s/$defs/n"), codes "/$defs/l")
    ∷ (other_name (codes "truths#m") (codes "/$defs/t/$defs/n"), codes "/$defs/l")
    ∷ (and_list (other_name (codes "texts#m") (codes "/$defs/s/$defs/n")), codes "/$defs/l")
    ∷ (and_list (other_name (codes "truths#m") (codes "/$defs/t/$defs/n")), codes "/$defs/l") ∷ []

wrong_copied : (g : Answers)
    → judge (plain (bundled wrong_copies lists_schema)) 6 g (bundled wrong_copies lists_schema) (lists (text []) (text [])) ≡ true
unfolding is_utf8 chars encode digits
wrong_copied g = refl

wrong_copies_applied : is_schema (bundled wrong_copies lists_schema) true (bundled wrong_copies lists_schema) ≡ true
unfolding is_utf8 chars encode digits
wrong_copies_applied = refl

-- A pointer that could name a copy leads nowhere in the document, and nowhere in the bundled one.
abbrev astray_schema : Tree
astray_schema = object (member (codes "$defs") (object (member (codes "l") list_schema (member (codes "s") (list_of (codes "texts")
    (codes "string"))
    (member (codes "t") (list_of (codes "truths") (codes "boolean")) no_members))))
    (member (codes "properties") (object (member (codes "s") (refers (codes "texts")) (member (codes "t") (refers (codes "truths"))
    (member (codes "u") (refers (codes "#/$defs/zz0")) no_members)))) no_members))

astray_nowhere : located_at astray_schema (codes "/$defs/zz0") ≡ None
unfolding is_utf8 chars encode
astray_nowhere = refl

astray_refused : is_schema (bundled both_copies astray_schema) true (bundled both_copies astray_schema) ≡ false
unfolding is_utf8 chars encode digits
astray_refused = refl
