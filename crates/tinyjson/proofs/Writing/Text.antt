-- The texts of containers as bytes, piece by piece.
use Rattle.std.proofs.Common.{◌≡◌, ℕ, Bool, true, false, Option, List, [], ◌∷◌, ◌++◌, length, refl, String}
use Rattle.std.proofs.Common.{string_bytes, arith}
use Rattle.std.specs.declared.alloc.Global.{Global}
use Rattle.std.specs.Str.{chars}
use Rattle.std.specs.Bool.{nat_eq}
use Rattle.std.proofs.lemmas.Bool.Decides.{nat_tests}
use Rattle.tinyjson.specs.declared.value.JsonValue.{JsonValue}
use Rattle.tinyjson_grammar.specs.Text.{text, separator, after_colon, quoted, has_no_items, has_no_members}
use Rattle.std.specs.Ordering.{nat_cmp, match_ordering}
use Rattle.std.specs.Cmp.Lexicographic.{slice_cmp}
use Rattle.std.specs.declared.cmp.Ordering.TheVariants.{Less, Equal, Greater}
use Rattle.tinyjson_grammar.specs.Tree.{Tree, Members, no_members, member, put}
use Rattle.tinyjson.specs.View.{view, items_view, members_view}
use Rattle.tinyjson_output.proofs.Callers.{enc, enc_cons}

pub enc_separator : (first : Bool) → enc (separator first ++ []) ≡ separator first
enc_separator true = refl
enc_separator false = enc_cons 44 [] (omega arith)

-- a member's text: the key, the colon and the value
abbrev pub member_text : Option (List ℕ) → ℕ → List ℕ → JsonValue → List ℕ
member_text w k key v = quoted (chars key) ++ (58 ∷ (after_colon w ++ text w k (view v)))

pub no_items_is : (xs : List JsonValue) → has_no_items (items_view xs) ≡ nat_eq (length xs) 0
no_items_is [] = refl
no_items_is (x ∷ xs) = grind (arith, nat_tests)

put_some : (k : List ℕ) (t : Tree) (ms : Members) → has_no_members (put k t ms) ≡ false
put_some k t no_members = refl
put_some k t (member l u ms) = elim (slice_cmp nat_cmp (enc k) (enc l)) as
    (λ r. has_no_members (match_ordering r (member k t (member l u ms)) (member k t ms) (member l u (put k t ms))) ≡ false)
    [ Less ↦ refl | Equal ↦ refl | Greater ↦ refl ]

pub some_members : (es : List (String Global × JsonValue)) (b : Bool) → (length es ≡ 0 → b ≡ true) → b ≡ false
    → has_no_members (members_view es) ≡ false
some_members [] b h e = let t = h refl in cc
some_members (x ∷ es) b h e = put_some (chars (string_bytes x.0)) (view x.1) (members_view es)
