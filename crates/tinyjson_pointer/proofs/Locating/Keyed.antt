-- The key that is found, in an object and behind all tokens.
use Rattle.std.proofs.Common.{◌≡◌, ℕ, true, List, [], ◌∷◌, ◌++◌, map, Option, Some, None, option_map, Bor, String, Global, Result, Ok, Err}
use Rattle.std.proofs.Common.{refl, sym, ap, ◌∙◌, subst, append_assoc}
use Rattle.std.proofs.lemmas.List.{map-append}
use Rattle.std.specs.Prelude.{IfSome, option_and_then}
use Rattle.std.specs.Result.{IsErrAnd}
use Rattle.std.specs.Str.{chars}
use Rattle.tinyjson.specs.View.{text as content}
use Rattle.tinyjson.specs.declared.parser.error.JsonParseError.{JsonParseError}
use Rattle.tinyjson_grammar.specs.Syntax.{Syntax, Pairs, null, boolean, number, string, empty_array, array, empty_object, object}
use Rattle.tinyjson_grammar.specs.Syntax.{text, IsSpelled, IsStrict}
use Rattle.tinyjson_pointer.specs.Change.{all_but_last, last_of}
use Rattle.tinyjson_pointer.specs.Places.{named}
use Rattle.tinyjson_pointer.specs.Spots.{Spot, MemberSpot, value_spot, from_key, last_member}
use Rattle.tinyjson_pointer.specs.private.Keys.{within_member, last_with, child_member, named_member, begun_member, member_chars}
use Rattle.tinyjson_pointer.specs.private.Keys.{FindsMember, FindsKey}
use Rattle.tinyjson_pointer.specs.private.Parts.{begun, IsExhausted}
use Rattle.tinyjson_pointer.specs.private.Scan.{without_white, is_closed}
use Rattle.tinyjson_pointer.specs.declared.place.member.Member.{Member}
use Rattle.tinyjson_pointer.proofs.Locating.Keys.{last_value, object_value, member_in}
use Rattle.tinyjson_pointer.proofs.Locating.Parts.{IsPart, named_has}
use Rattle.tinyjson_pointer.proofs.Locating.Walking.{closed_child}

-- ---- errors that are passed on

pub exhausted_member : (r : List ℕ) (o : Option MemberSpot) (result : Result (Option Member) JsonParseError) (e : JsonParseError)
    → IsErrAnd result (λ d. d ≡ e) → IsExhausted e → FindsMember r o result
exhausted_member r o (Ok x) e h k = absurd h
exhausted_member r o (Err d) e h k = subst IsExhausted (sym h) k

pub exhausted_key : (r : List ℕ) (o : Option MemberSpot) (result : Result (Option (Bor (List ℕ))) JsonParseError) (e : JsonParseError)
    → IsErrAnd result (λ d. d ≡ e) → IsExhausted e → FindsKey r o result
exhausted_key r o (Ok x) e h k = absurd h
exhausted_key r o (Err d) e h k = subst IsExhausted (sym h) k

-- ---- the parts of a member that is found

value_chars : (o : Option Member) → option_map (λ m. chars m.value.now) o ≡ option_map (λ b. b.value) (option_map member_chars o)
value_chars None = refl
value_chars (Some m) = refl

begun_values : (r : List ℕ) (o : Option MemberSpot)
    → option_map (λ b. b.value) (option_map (begun_member r) o) ≡ option_map (begun r) (option_map value_spot o)
begun_values r None = refl
begun_values r (Some m) = refl

pub value_found : (r key : List ℕ) (ps : Pairs) (o : Option Member)
    → option_map member_chars o ≡ option_map (begun_member r) (last_with key ps)
    → option_map (λ m. chars m.value.now) o ≡ option_map (begun r) (last_member key ps)
value_found r key ps o h = value_chars o
    ∙ (ap (option_map (λ b. b.value)) h ∙ (begun_values r (last_with key ps) ∙ ap (option_map (begun r)) (last_value key ps)))

key_chars : (o : Option Member) → option_map (λ m. chars m.key.now) o ≡ option_map (λ b. b.key) (option_map member_chars o)
key_chars None = refl
key_chars (Some m) = refl

begun_keys : (r : List ℕ) (o : Option MemberSpot) → option_map (λ b. b.key) (option_map (begun_member r) o) ≡ option_map (from_key r) o
begun_keys r None = refl
begun_keys r (Some m) = refl

pub key_found : (r key : List ℕ) (ps : Pairs) (o : Option Member)
    → option_map member_chars o ≡ option_map (begun_member r) (last_with key ps)
    → option_map (λ m. chars m.key.now) o ≡ option_map (from_key r) (last_with key ps)
key_found r key ps o h = key_chars o ∙ (ap (option_map (λ b. b.key)) h ∙ begun_keys r (last_with key ps))

-- ---- one token

within_key : (r b a : List ℕ) (o : Option MemberSpot)
    → option_map (from_key r) (option_map (within_member b a) o) ≡ option_map (from_key (a ++ r)) o
within_key r b a None = refl
within_key r b a (Some m) =
    ap (λ ys. Some (text m.key ++ (m.before_colon ++ 58 ∷ (m.before_value ++ (text m.value ++ ys))))) (append_assoc m.behind a r)

finds_within : (r b a : List ℕ) (o : Option MemberSpot) (result : Result (Option (Bor (List ℕ))) JsonParseError)
    → FindsKey (a ++ r) o result → FindsKey r (option_map (within_member b a) o) result
finds_within r b a o (Ok x) h = h ∙ sym (within_key r b a o)
finds_within r b a o (Err e) h = h

pub object_key : (s : Syntax) (ps : Pairs) (k r : List ℕ) (result : Result (Option (Bor (List ℕ))) JsonParseError) → s ≡ object ps
    → FindsKey (125 ∷ r) (last_with k ps) result → FindsKey r (child_member s k) result
object_key s ps k r result e h = subst (λ t. FindsKey r (child_member t k) result) (sym e)
    (finds_within r (123 ∷ []) (125 ∷ []) (last_with k ps) result h)

pub closed_key : (s : Syntax) (k r xs : List ℕ) (c : ℕ) → IsSpelled s → c ∷ xs ≡ text s ++ r → is_closed (without_white xs) ≡ true
    → option_map (from_key r) (child_member s k) ≡ None
closed_key (object ps) k r xs c h e closed =
    by (child_member (object ps) k) (ap (option_map (begun r)) (object_value ps k) ∙ closed_child (object ps) k r xs c h e closed)
  where
    by : (o : Option MemberSpot) → option_map (begun r) (option_map value_spot o) ≡ None → option_map (from_key r) o ≡ None
    by None g = refl
    by (Some m) g = cc
closed_key null k r xs c h e closed = refl
closed_key (boolean b) k r xs c h e closed = refl
closed_key (number n) k r xs c h e closed = refl
closed_key (string ps) k r xs c h e closed = refl
closed_key (empty_array w) k r xs c h e closed = refl
closed_key (array es) k r xs c h e closed = refl
closed_key (empty_object w) k r xs c h e closed = refl

head_same : (c d : ℕ) (xs ys : List ℕ) → c ∷ xs ≡ d ∷ ys → c ≡ d
head_same c d xs ys h = cc

pub other_key : (s : Syntax) (k r xs : List ℕ) (c : ℕ) → c ∷ xs ≡ text s ++ r → ¬ (c ≡ 123)
    → option_map (from_key r) (child_member s k) ≡ None
other_key (object ps) k r xs c e h = absurd (h (head_same c 123 xs _ e))
other_key null k r xs c e h = refl
other_key (boolean b) k r xs c e h = refl
other_key (number n) k r xs c e h = refl
other_key (string ps) k r xs c e h = refl
other_key (empty_array w) k r xs c e h = refl
other_key (array es) k r xs c e h = refl
other_key (empty_object w) k r xs c e h = refl

-- ---- all tokens

last_is : (j : List ℕ) (js : List (List ℕ)) (k : List ℕ) → last_of j (js ++ k ∷ []) ≡ k
last_is j [] k = refl
last_is j (l ∷ js) k = last_is l js k

rest_is : (j : List ℕ) (js : List (List ℕ)) (k : List ℕ) → all_but_last j (js ++ k ∷ []) ≡ j ∷ js
rest_is j [] k = refl
rest_is j (l ∷ js) k = ap (λ is. j ∷ is) (rest_is l js k)

named_split : (js : List (List ℕ)) (k : List ℕ) (s : Syntax) → named_member s (js ++ k ∷ []) ≡ option_and_then (member_in k) (named s js)
named_split [] k s = refl
named_split (j ∷ js) k s =
    ap (λ l. option_and_then (member_in l) (named s (all_but_last j (js ++ k ∷ [])))) (last_is j js k)
    ∙ ap (λ is. option_and_then (member_in k) (named s is)) (rest_is j js k)

-- the member of the last token in the container that the others name
pub split_member : (xs fs : List (String Global)) (l : String Global) (s : Syntax) → xs ≡ fs ++ l ∷ []
    → option_and_then (member_in (content l)) (named s (map content fs)) ≡ named_member s (map content xs)
split_member xs fs l s e =
    sym (ap (λ ys. named_member s (map content ys)) e
    ∙ (ap (named_member s) (map-append content fs (l ∷ [])) ∙ named_split (map content fs) (content l) s))

pub no_container : (s : Syntax) (r k : List ℕ) (js : List (List ℕ)) → None ≡ option_map (begun r) (named s js)
    → None ≡ option_map (from_key r) (option_and_then (member_in k) (named s js))
no_container s r k js h = by (named s js) h
  where
    by : (o : Option Spot) → None ≡ option_map (begun r) o → None ≡ option_map (from_key r) (option_and_then (member_in k) o)
    by None g = refl
    by (Some p) g = cc

pub in_container : (s : Syntax) (r k ys : List ℕ) (js : List (List ℕ)) (result : Result (Option (Bor (List ℕ))) JsonParseError)
    → IsSpelled s → IsStrict s → Some ys ≡ option_map (begun r) (named s js)
    → ((t : Syntax) (q : List ℕ) → IsSpelled t → IsStrict t → ys ≡ text t ++ q → FindsKey q (child_member t k) result)
    → FindsKey r (option_and_then (member_in k) (named s js)) result
in_container s r k ys js result h z e f = by (named s js) (named_has js s h z) e
  where
    some_same : (us vs : List ℕ) → Some us ≡ Some vs → us ≡ vs
    some_same us vs g = cc

    by : (o : Option Spot) → IfSome o (IsPart (text s)) → Some ys ≡ option_map (begun r) o
        → FindsKey r (option_and_then (member_in k) o) result
    by None i g = cc
    by (Some p) i g = finds_within r p.before p.behind (child_member p.part k) result
        (f p.part (p.behind ++ r) i.spelled i.strict (some_same ys (begun r p) g))
