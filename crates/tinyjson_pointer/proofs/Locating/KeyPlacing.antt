-- The place of a key that is returned.
use Rattle.std.proofs.Common.{◌≡◌, ℕ, List, ◌∷◌, ◌++◌, Option, Some, None, option_map, refl, sym, ap, ◌∙◌, subst}
use Rattle.std.proofs.Common.{append_assoc, Result, Ok, Err}
use Rattle.std.specs.Prelude.{IfSome}
use Rattle.std.specs.Result.{IsErrAnd}
use Rattle.tinyjson.specs.declared.parser.error.JsonParseError.{JsonParseError}
use Rattle.tinyjson_grammar.specs.Grammar.{IsLoose}
use Rattle.tinyjson_grammar.specs.Syntax.{text, IsStrict}
use Rattle.tinyjson_pointer.specs.Siblings.{child_name}
use Rattle.tinyjson_pointer.specs.Places.{named, HasNoMember, IsKeyPlaceOf, LocatesKey}
use Rattle.tinyjson_pointer.specs.Spots.{MemberSpot, value_spot, from_key}
use Rattle.tinyjson_pointer.specs.declared.place.Place.{Place}
use Rattle.tinyjson_pointer.specs.private.Keys.{named_member}
use Rattle.tinyjson_pointer.specs.private.Parts.{IsBefore}
use Rattle.tinyjson_pointer.proofs.Locating.Keys.{IsMember, named_is, named_value, no_member_named}
use Rattle.tinyjson_pointer.proofs.Locating.Parts.{named_tree, spot_tree}
use Rattle.tinyjson_pointer.proofs.Locating.Placing.{first_position}

whole_key : (l b k c v t d r : List ℕ)
    → l ++ ((b ++ (k ++ (c ++ 58 ∷ (v ++ (t ++ d))))) ++ r) ≡ (l ++ b) ++ (k ++ (c ++ 58 ∷ (v ++ (t ++ (d ++ r)))))
whole_key l b k c v t d r = simp append_assoc

-- no object has that member
pub none_keyed : (xs : List ℕ) (l : IsLoose None xs) (ks : List (List ℕ))
    → None ≡ option_map (from_key l.after) (named_member l.value ks) → HasNoMember xs l ks
none_keyed xs l ks h = λ ms e. no_member_named ks l.value ms (none (named_member l.value ks) h) e
  where
    none : (o : Option MemberSpot) → None ≡ option_map (from_key l.after) o → o ≡ None
    none None g = refl
    none (Some m) g = cc

-- the member with whose key the end of the text begins
pub record FoundKey (xs : List ℕ) (l : IsLoose None xs) (ks : List (List ℕ)) (ys : List ℕ) : Type 0 where
  pub member : MemberSpot
  pub value : named l.value ks ≡ Some (value_spot member)
  pub is : IsMember (text l.value) (child_name ks) member
  pub end : ys ≡ from_key l.after member
  pub whole : xs ≡ (l.before ++ member.before) ++ ys

pub some_keyed : (xs : List ℕ) (l : IsLoose None xs) (ks : List (List ℕ)) (ys : List ℕ) → IsStrict l.value
    → Some ys ≡ option_map (from_key l.after) (named_member l.value ks) → FoundKey xs l ks ys
some_keyed xs l ks ys z h = by (named_member l.value ks) (named_value ks l.value) (named_is ks l.value l.spelled z) h
  where
    some_same : (us vs : List ℕ) → Some us ≡ Some vs → us ≡ vs
    some_same us vs g = cc

    by : (o : Option MemberSpot) → IfSome o (λ m. named l.value ks ≡ Some (value_spot m))
        → IfSome o (IsMember (text l.value) (child_name ks)) → Some ys ≡ option_map (from_key l.after) o → FoundKey xs l ks ys
    by None v i g = cc
    by (Some m) v i g =
        let end : ys ≡ from_key l.after m = some_same ys (from_key l.after m) g in
        record {
          member = m;
          value = v;
          is = i;
          end = end;
          whole = l.whole ∙ (ap (λ zs. l.before ++ (zs ++ l.after)) i.whole
              ∙ (whole_key l.before m.before (text m.key) m.before_colon m.before_value (text m.value) m.behind l.after
              ∙ ap (λ zs. (l.before ++ m.before) ++ zs) (sym end)));
        }

pub placed_key : (xs : List ℕ) (l : IsLoose None xs) (ks : List (List ℕ)) (ys : List ℕ) (place : Place) (f : FoundKey xs l ks ys)
    → IsBefore (l.before ++ f.member.before) place → (m : MemberSpot) × IsKeyPlaceOf xs l ks place m
placed_key xs l ks ys place f b = (
  f.member,
  record {
    named = f.value;
    tree = sym (named_tree ks l.value) ∙ ap (option_map spot_tree) f.value;
    key = f.is.content;
    spelled = f.is.spelled;
    white = f.is.white;
    whole = f.whole ∙ ap (λ zs. (l.before ++ f.member.before) ++ zs) f.end;
    offset = b.0;
    position = b.1 ∙ first_position (l.before ++ f.member.before) f.member.key f.is.spelled;
  },
)

-- an error that is passed on
pub keyed_back : (xs : List ℕ) (ks : List (List ℕ)) (result : Result (Option Place) JsonParseError) (e : JsonParseError)
    → IsErrAnd result (λ d. d ≡ e) → LocatesKey xs ks (Err e) → LocatesKey xs ks result
keyed_back xs ks (Ok x) e h k = absurd h
keyed_back xs ks (Err d) e h k = subst (λ x. LocatesKey xs ks (Err x)) (sym h) k
