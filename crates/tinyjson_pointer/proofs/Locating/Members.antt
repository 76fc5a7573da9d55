-- The walk over the members of an object.
use Rattle.std.proofs.Common.{◌≡◌, ℕ, Bool, true, false, cond, bytes_eq, List, ◌∷◌, ◌++◌, length, ◌<◌, Option, Some, None, option_map}
use Rattle.std.proofs.Common.{refl, sym, ap, ◌∙◌, subst, append_assoc, arith, length-append, encode_utf8_all}
use Rattle.std.proofs.lemmas.Bool.Decides.{same_from_decides}
use Rattle.std.proofs.lemmas.List.{append_cancel_right}
use Rattle.std.proofs.lemmas.Slice.Eq.{bytes_eq-Decides}
use Rattle.std.proofs.lemmas.Str.{encodes-chars}
use Rattle.std.specs.Prelude.{IsTrue, option_and_then}
use Rattle.std.specs.Str.{IsUtf8, chars}
use Rattle.tinyjson_grammar.specs.Grammar.{IsText}
use Rattle.tinyjson_grammar.specs.Syntax.{Syntax, Pairs, null, boolean, number, string, empty_array, array, empty_object, object, text}
use Rattle.tinyjson_grammar.specs.Syntax.{pairs_text, ArePairs, PairsAreStrict, is_key, tree_of}
use Rattle.tinyjson_grammar.specs.Tree as tree
use Rattle.tinyjson_pointer.specs.Spots.{or_else, if_key}
use Rattle.tinyjson_pointer.specs.declared.place.scan.Scan.TheVariants.{Outside}
use Rattle.tinyjson_pointer.specs.private.Scan.{after_comma, after_colon, without_white}
use Rattle.tinyjson_pointer.specs.private.Keys.{Begun, both, begun_member, last_with, without_whites}
use Rattle.tinyjson_pointer.proofs.Locating.Finding.{member_begun, IsTail, MemberOf, member_of, value_begins, value_without_white}
use Rattle.tinyjson_pointer.proofs.Locating.Finding.{key_without_white, after_member, member_passed}
use Rattle.tinyjson_pointer.proofs.Locating.Splitting.{after_splits}

-- The characters are those of some last members, behind which is r. What is found among all is found among these,
-- or it was found before.
pub record Left (key r : List ℕ) (all : Pairs) (found : Option Begun) (xs : List ℕ) : Type 0 where
  pub pairs : Pairs
  pub are : ArePairs pairs
  pub strict : PairsAreStrict pairs
  pub left : xs ≡ pairs_text pairs ++ 125 ∷ r
  pub answer : option_map (begun_member (125 ∷ r)) (last_with key all)
      ≡ or_else (option_map (begun_member (125 ∷ r)) (last_with key pairs)) found

first_none : (o : Option Begun) → or_else o None ≡ o
first_none None = refl
first_none (Some x) = refl

first_assoc : (o p q : Option Begun) → or_else (or_else o p) q ≡ or_else o (or_else p q)
first_assoc None p q = refl
first_assoc (Some x) p q = refl

first_if : (b : Bool) (x : Begun) (o : Option Begun) → or_else (cond b (Some x) None) o ≡ cond b (Some x) o
first_if true x o = refl
first_if false x o = refl

pub left_begins : (key r xs : List ℕ) (ps : Pairs) → ArePairs ps → PairsAreStrict ps → xs ≡ pairs_text ps ++ 125 ∷ r → Left key r ps None xs
left_begins key r xs ps h z e = record {
  pairs = ps;
  are = h;
  strict = z;
  left = e;
  answer = sym (first_none (option_map (begun_member (125 ∷ r)) (last_with key ps)));
}

-- a member follows
pub left_colon : (key r xs : List ℕ) (all : Pairs) (found : Option Begun) → Left key r all found xs → after_colon xs ≡ None → ⊥
left_colon key r xs all found l h =
    let e = value_begins key r l.pairs (member_of key r l.pairs l.are l.strict) in
    let n : after_colon xs ≡ after_colon (pairs_text l.pairs ++ 125 ∷ r) = ap after_colon l.left in
    none_some _ (sym h ∙ (n ∙ e))
  where
    none_some : (ys : List ℕ) → None ≡ Some ys → ⊥
    none_some ys h = cc

-- what a key is
pub key_tree : (k : Syntax) → IsTrue (is_key k) → tree_of k ≡ tree.string (tree.key_of (tree_of k))
key_tree (string ps) h = refl
key_tree null h = cc
key_tree (boolean b) h = cc
key_tree (number n) h = cc
key_tree (empty_array w) h = cc
key_tree (array es) h = cc
key_tree (empty_object w) h = cc
key_tree (object ps) h = cc

abbrev member_at : (key r xs : List ℕ) (all : Pairs) (found : Option Begun) (l : Left key r all found xs) → MemberOf key r l.pairs
member_at key r xs all found l = member_of key r l.pairs l.are l.strict

abbrev key_at : (key r xs : List ℕ) (all : Pairs) (found : Option Begun) → Left key r all found xs → List ℕ
key_at key r xs all found l = tree.key_of (tree_of (member_at key r xs all found l).name)

some_same : (xs ys : List ℕ) → Some xs ≡ Some ys → xs ≡ ys
some_same xs ys h = cc

-- what follows the colon
value_is : (key r xs value : List ℕ) (all : Pairs) (found : Option Begun) (l : Left key r all found xs) → after_colon xs ≡ Some value
    → value ≡ (let m = member_at key r xs all found l in m.before_value ++ (text m.value ++ (m.behind_value ++ m.tail)))
value_is key r xs value all found l h =
    some_same _ _ (sym h ∙ (ap after_colon l.left ∙ value_begins key r l.pairs (member_at key r xs all found l)))

regroup : (a k b v : List ℕ) → a ++ (k ++ (b ++ 58 ∷ v)) ≡ (a ++ (k ++ b)) ++ 58 ∷ v
regroup a k b v = simp append_assoc

-- what precedes the colon is the text of the key
pub name_text : (key r xs name value : List ℕ) (all : Pairs) (found : Option Begun) (l : Left key r all found xs)
    → after_colon xs ≡ Some value → xs ≡ name ++ 58 ∷ value → IsText None name (tree.string (key_at key r xs all found l))
name_text key r xs name value all found l h e =
    let m = member_at key r xs all found l in
    let v = m.before_value ++ (text m.value ++ (m.behind_value ++ m.tail)) in
    let is : value ≡ v = value_is key r xs value all found l h in
    let both : name ++ 58 ∷ v ≡ (m.before ++ (text m.name ++ m.behind_name)) ++ 58 ∷ v =
    ap (λ ys. name ++ 58 ∷ ys) (sym is) ∙ (sym e ∙ (l.left ∙ (m.whole ∙ regroup m.before (text m.name) m.behind_name v))) in
    record {
      loose = record {
        before = m.before;
        value = m.name;
        after = m.behind_name;
        white_before = m.white.0;
        spelled = m.spelled_name;
        white_after = m.white.1;
        shallow = tt;
        whole = append_cancel_right name (m.before ++ (text m.name ++ m.behind_name)) (58 ∷ v) both;
      };
      strict = m.strict_name.1;
      tree = sym (key_tree m.name m.strict_name.0);
    }

-- the walk goes on after this member, or it was the last one
abbrev pub Goes : (key r : List ℕ) → Pairs → Option Begun → Option (List ℕ) → Type 0
Goes key r all found None = option_map (begun_member (125 ∷ r)) (last_with key all) ≡ found
Goes key r all found (Some next) = Left key r all found next

goes_more : (key r : List ℕ) (all : Pairs) (more : Option Pairs) (tail : List ℕ) (found : Option Begun) → IsTail r more tail
    → option_map (begun_member (125 ∷ r)) (last_with key all)
    ≡ or_else (option_map (begun_member (125 ∷ r)) (option_and_then (last_with key) more)) found
    → Goes key r all found (after_member r more)
goes_more key r all None tail found t h = h
goes_more key r all (Some ps) tail found t h = record { pairs = ps; are = t.1; strict = t.2; left = refl; answer = h }

both_same : (a b c d : List ℕ) → a ≡ c → b ≡ d → both a b ≡ both c d
both_same a b c d h k = ap (λ x. both x b) h ∙ ap (both c) k

pub member_step : (key r xs name value : List ℕ) (all : Pairs) (found : Option Begun) (l : Left key r all found xs) (b : Bool)
    → after_colon xs ≡ Some value → b ≡ bytes_eq key (key_at key r xs all found l)
    → Goes key r all (cond b (Some (without_whites xs value)) found) (after_comma value)
member_step key r xs name value all found l b h is =
    let m = member_at key r xs all found l in
    let v = m.before_value ++ (text m.value ++ (m.behind_value ++ m.tail)) in
    let new = member_begun m.name m.behind_name m.before_value m.value (m.behind_value ++ m.tail) in
    let at : value ≡ v = value_is key r xs value all found l h in
    let key_new : without_white xs ≡ new.key = ap without_white l.left ∙ key_without_white key r l.pairs m in
    let value_new : without_white value ≡ new.value = ap without_white at ∙ value_without_white key r l.pairs m in
    let begun : new ≡ without_whites xs value = both_same _ _ _ _ (sym key_new) (sym value_new) in
    let more = option_map (begun_member (125 ∷ r)) (option_and_then (last_with key) m.more) in
    let passed : after_comma value ≡ after_member r m.more = ap after_comma at ∙ member_passed key r l.pairs m in
    let now : or_else (option_map (begun_member (125 ∷ r)) (last_with key l.pairs)) found
    ≡ or_else more (cond b (Some (without_whites xs value)) found) =
    ap (λ o. or_else o found) m.answer
    ∙ (first_assoc more (if_key key m.name new) found
    ∙ ap (or_else more) (first_if (bytes_eq key (key_at key r xs all found l)) new found
    ∙ (ap (λ c. cond c (Some new) found) (sym is) ∙ ap (λ x. cond b (Some x) found) begun))) in
    subst (Goes key r all (cond b (Some (without_whites xs value)) found)) (sym passed)
    (goes_more key r all m.more m.tail (cond b (Some (without_whites xs value)) found) m.is_more (l.answer ∙ now))

-- each step takes some characters
pub step_shorter : (xs value next name : List ℕ) → xs ≡ name ++ 58 ∷ value → after_comma value ≡ Some next → length next < length xs
step_shorter xs value next name e h =
    let r = after_splits 44 (Outside 0) value next h in
    let a = ap length e ∙ length-append name (58 ∷ value) in
    let b = ap length r.1 ∙ length-append r.0 (44 ∷ next) in
    omega arith

-- texts are equal where their bytes are
pub same_chars : (a b : List ℕ) → IsUtf8 a → IsUtf8 b → bytes_eq a b ≡ bytes_eq (chars a) (chars b)
same_chars a b u v =
    let both = bytes_eq-Decides (chars a) (chars b) in
    let bytes = bytes_eq-Decides a b in
    sym (same_from_decides _ _ both (
      λ e. ap chars (bytes.0 e),
      λ e. bytes.1 (sym (encodes-chars a u) ∙ (ap encode_utf8_all e ∙ encodes-chars b v)),
    ))
