-- What the scans find among items and members.
use Rattle.std.proofs.Common.{◌≡◌, ℕ, zero, suc, ◌≤◌, Bool, true, false, cond, bytes_eq, List, [], ◌∷◌, ◌++◌, length}
use Rattle.std.proofs.Common.{Option, Some, None, option_map, refl, sym, ap, ◌∙◌, inl, inr, append_assoc, arith, length-append}
use Rattle.std.specs.Prelude.{IsTrue, option_and_then}
use Rattle.tinyjson_grammar.proofs.Callers.Laws.{Begins, begins_append, text_begins}
use Rattle.tinyjson_grammar.proofs.Callers.Laws.{last_element_assoc, element_assoc, last_pair_assoc, pair_assoc}
use Rattle.tinyjson_grammar.specs.Syntax.{Syntax, Elements, Pairs, last_element, element, last_pair, pair, text, elements_text}
use Rattle.tinyjson_grammar.specs.Syntax.{pairs_text}
use Rattle.tinyjson_grammar.specs.Syntax.{AreWhite, IsSpelled, AreElements, ArePairs, IsStrict, PairsAreStrict, is_key, tree_of}
use Rattle.tinyjson_grammar.specs.Tree.{key_of}
use Rattle.tinyjson_pointer.specs.Spots.{Spot, further, nth_spot, if_key, or_else, MemberSpot}
use Rattle.tinyjson_pointer.specs.private.Scan.{after_comma, after_colon, after_commas, without_white}
use Rattle.tinyjson_pointer.specs.private.Parts.{begun}
use Rattle.tinyjson_pointer.specs.private.Keys.{Begun, both, begun_member, further_member, last_with}
use Rattle.tinyjson_pointer.proofs.Locating.Scanning.{part_passes}

pub white_off : (w xs : List ℕ) → AreWhite w → Begins xs → without_white (w ++ xs) ≡ xs
white_off [] xs h b = rw b.2 (rw b.3.0)
white_off (c ∷ cs) xs h b = rw h.0 (white_off cs xs h.1 b)

pub begun_further : (r b : List ℕ) (o : Option Spot) → option_map (begun r) (option_map (further b) o) ≡ option_map (begun r) o
begun_further r b None = refl
begun_further r b (Some p) = refl

-- ---- items

last_item : (v : List ℕ) (s : Syntax) (w r : List ℕ) → AreElements (last_element v s w)
    → after_comma (elements_text (last_element v s w) ++ 93 ∷ r) ≡ None
last_item v s w r h = ap after_comma (last_element_assoc v (text s) w (93 ∷ r)) ∙ part_passes s 44 0 v w (93 ∷ r) (inl refl) h.0 h.1 h.2

next_item : (v : List ℕ) (s : Syntax) (w : List ℕ) (es : Elements) (r : List ℕ) → AreElements (element v s w es)
    → after_comma (elements_text (element v s w es) ++ r) ≡ Some (elements_text es ++ r)
next_item v s w es r h = ap after_comma (element_assoc v (text s) w (elements_text es) r)
    ∙ part_passes s 44 0 v w (44 ∷ (elements_text es ++ r)) (inl refl) h.0 h.1 h.2

pub first_item : (v : List ℕ) (s : Syntax) (w r : List ℕ) → AreWhite v → IsSpelled s
    → without_white ((v ++ (text s ++ w)) ++ r) ≡ text s ++ (w ++ r)
first_item v s w r h k = ap without_white (last_element_assoc v (text s) w r)
    ∙ white_off v (text s ++ (w ++ r)) h (begins_append (text s) (w ++ r) (text_begins s k))

pub item_found : (i : ℕ) (es : Elements) (r : List ℕ) → AreElements es
    → option_map without_white (after_commas i (elements_text es ++ 93 ∷ r)) ≡ option_map (begun (93 ∷ r)) (nth_spot es i)
item_found zero (last_element v s w) r h = ap (λ xs. Some xs) (first_item v s w (93 ∷ r) h.0 h.1)
item_found zero (element v s w es) r h = ap (λ xs. Some xs) (first_item v s (w ++ 44 ∷ elements_text es) (93 ∷ r) h.0 h.1)
item_found (suc i) (last_element v s w) r h = ap (λ o. option_map without_white (option_and_then (after_commas i) o)) (last_item v s w r h)
item_found (suc i) (element v s w es) r h =
    ap (λ o. option_map without_white (option_and_then (after_commas i) o)) (next_item v s w es (93 ∷ r) h)
    ∙ (item_found i es r h.3 ∙ sym (begun_further (93 ∷ r) (v ++ (text s ++ (w ++ 44 ∷ []))) (nth_spot es i)))

later_item : (v t w es : List ℕ) (i : ℕ) → i ≤ length es → suc i ≤ length (v ++ (t ++ (w ++ 44 ∷ es)))
later_item v t w es i h = omega (arith, length-append v (t ++ (w ++ 44 ∷ es)), length-append t (w ++ 44 ∷ es), length-append w (44 ∷ es))

-- an item takes at least one character, but the last
pub item_within : (i : ℕ) (es : Elements) → (nth_spot es i ≡ None → ⊥) → i ≤ length (elements_text es)
item_within zero es h = omega arith
item_within (suc i) (last_element v s w) h = absurd (h refl)
item_within (suc i) (element v s w es) h =
    later_item v (text s) w (elements_text es) i (item_within i es (λ e. h (ap (option_map (further (v ++ (text s ++ (w ++ 44 ∷ []))))) e)))

-- ---- members

-- what begins with a member's key, and with its value, behind which is z
abbrev pub member_begun : Syntax → List ℕ → List ℕ → Syntax → List ℕ → Begun
member_begun k b c s z = both (text k ++ (b ++ 58 ∷ (c ++ (text s ++ z)))) (text s ++ z)

-- the end of the object, or a comma and these members
abbrev pub IsTail : List ℕ → Option Pairs → List ℕ → Type 0
IsTail r None tail = tail ≡ 125 ∷ r
IsTail r (Some ps) tail = (tail ≡ 44 ∷ (pairs_text ps ++ 125 ∷ r)) × ArePairs ps × PairsAreStrict ps

-- a member, and what is behind it: the end of the object, or a comma and more members
pub record MemberOf (key r : List ℕ) (ps : Pairs) : Type 0 where
  pub before : List ℕ
  pub name : Syntax
  pub behind_name : List ℕ
  pub before_value : List ℕ
  pub value : Syntax
  pub behind_value : List ℕ
  pub tail : List ℕ
  pub whole : pairs_text ps ++ 125 ∷ r
      ≡ before ++ (text name ++ (behind_name ++ 58 ∷ (before_value ++ (text value ++ (behind_value ++ tail)))))
  pub white : AreWhite before × AreWhite behind_name × AreWhite before_value × AreWhite behind_value
  pub spelled_name : IsSpelled name
  pub strict_name : IsTrue (is_key name) × IsStrict name
  pub spelled : IsSpelled value
  pub more : Option Pairs
  pub is_more : IsTail r more tail
  pub answer : option_map (begun_member (125 ∷ r)) (last_with key ps)
      ≡ or_else (option_map (begun_member (125 ∷ r)) (option_and_then (last_with key) more))
      (if_key key name (member_begun name behind_name before_value value (behind_value ++ tail)))

if_key_begun : (key r : List ℕ) (k : Syntax) (m : MemberSpot)
    → option_map (begun_member r) (if_key key k m) ≡ if_key key k (begun_member r m)
if_key_begun key r k m = by (bytes_eq key (key_of (tree_of k)))
  where
    by : (b : Bool) → option_map (begun_member r) (cond b (Some m) None) ≡ cond b (Some (begun_member r m)) None
    by true = refl
    by false = refl

or_else_begun : (r b : List ℕ) (o q : Option MemberSpot) → option_map (begun_member r) (or_else (option_map (further_member b) o) q)
    ≡ or_else (option_map (begun_member r) o) (option_map (begun_member r) q)
or_else_begun r b (Some p) q = refl
or_else_begun r b None q = refl

pub member_of : (key r : List ℕ) (ps : Pairs) → ArePairs ps → PairsAreStrict ps → MemberOf key r ps
member_of key r (last_pair a k b c s d) h z = record {
  before = a;
  name = k;
  behind_name = b;
  before_value = c;
  value = s;
  behind_value = d;
  tail = 125 ∷ r;
  whole = last_pair_assoc a (text k) b c (text s) d (125 ∷ r);
  white = (h.0, h.2, h.3, h.5);
  spelled_name = h.1;
  strict_name = (z.0, z.1);
  spelled = h.4;
  more = None;
  is_more = refl;
  answer = if_key_begun key (125 ∷ r) k _;
}
member_of key r (pair a k b c s d ps) h z = record {
  before = a;
  name = k;
  behind_name = b;
  before_value = c;
  value = s;
  behind_value = d;
  tail = 44 ∷ (pairs_text ps ++ 125 ∷ r);
  whole = pair_assoc a (text k) b c (text s) d (pairs_text ps) (125 ∷ r);
  white = (h.0, h.2, h.3, h.5);
  spelled_name = h.1;
  strict_name = (z.0, z.1);
  spelled = h.4;
  more = Some ps;
  is_more = (refl, h.6, z.3);
  answer = or_else_begun (125 ∷ r) _ (last_with key ps) _
      ∙ ap (or_else (option_map (begun_member (125 ∷ r)) (last_with key ps)))
      (if_key_begun key (125 ∷ r) k _
      ∙ ap (λ xs. if_key key k (member_begun k b c s xs)) (append_assoc d (44 ∷ pairs_text ps) (125 ∷ r)));
}

-- where the value begins
pub value_begins : (key r : List ℕ) (ps : Pairs) (m : MemberOf key r ps)
    → after_colon (pairs_text ps ++ 125 ∷ r) ≡ Some (m.before_value ++ (text m.value ++ (m.behind_value ++ m.tail)))
value_begins key r ps m = ap after_colon m.whole
    ∙ part_passes m.name 58 0 m.before m.behind_name (58 ∷ (m.before_value ++ (text m.value ++ (m.behind_value ++ m.tail)))) (inr refl)
    m.white.0 m.spelled_name m.white.1

pub value_without_white : (key r : List ℕ) (ps : Pairs) (m : MemberOf key r ps)
    → without_white (m.before_value ++ (text m.value ++ (m.behind_value ++ m.tail))) ≡ text m.value ++ (m.behind_value ++ m.tail)
value_without_white key r ps m = white_off m.before_value _ m.white.2 (begins_append (text m.value) _ (text_begins m.value m.spelled))

pub key_without_white : (key r : List ℕ) (ps : Pairs) (m : MemberOf key r ps)
    → without_white (pairs_text ps ++ 125 ∷ r)
    ≡ text m.name ++ (m.behind_name ++ 58 ∷ (m.before_value ++ (text m.value ++ (m.behind_value ++ m.tail))))
key_without_white key r ps m =
    ap without_white m.whole ∙ white_off m.before _ m.white.0 (begins_append (text m.name) _ (text_begins m.name m.spelled_name))

-- what follows the value's comma
abbrev pub after_member : List ℕ → Option Pairs → Option (List ℕ)
after_member r more = option_map (λ ps. pairs_text ps ++ 125 ∷ r) more

tail_found : (r : List ℕ) (more : Option Pairs) (tail : List ℕ) → IsTail r more tail → after_comma tail ≡ after_member r more
tail_found r None tail h = ap after_comma h
tail_found r (Some ps) tail h = ap after_comma h.0

pub member_passed : (key r : List ℕ) (ps : Pairs) (m : MemberOf key r ps)
    → after_comma (m.before_value ++ (text m.value ++ (m.behind_value ++ m.tail))) ≡ after_member r m.more
member_passed key r ps m =
    part_passes m.value 44 0 m.before_value m.behind_value m.tail (inl refl) m.white.2 m.spelled m.white.3
    ∙ tail_found r m.more m.tail m.is_more
