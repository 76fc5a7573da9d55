-- What is printed of a part.
use Rattle.std.proofs.Common.{◌≡◌, ℕ, Bool, true, false, List, [], ◌∷◌, ◌++◌, Option, None}
use Rattle.std.proofs.Common.{Some, Result, Ok, Err, inl, inr, ⊎_elim, refl, ◌∙◌, codes, encode_utf8_all}
use Rattle.std.proofs.lemmas.Bool.{false≢true}
use Rattle.std.specs.Result.{IsErr}
use Rattle.std.specs.declared.io.Error.{Error}
use Rattle.tinyjson.proofs.Callers.{Appends_written}
use Rattle.tinyjson.specs.Characters.{line_feed}
use Rattle.tinyjson.specs.Tree.{Tree, null, boolean, number, string, array, object}
use Rattle.tinyjson.specs.Written.{Written, WrittenPart}
use Rattle.tinyjson_cli.specs.Layout.{laid_out}
use Rattle.tinyjson_cli.specs.Texts.{Answers}
use Rattle.tinyjson_cli.specs.declared.texts.NoAnswer.{NoAnswer}
use Rattle.tinyjson_cli.specs.declared.texts.NoAnswer.TheVariants.{Refused, No, Failed}
use Rattle.tinyjson_document.specs.Parts.{string_in}
use Rattle.tinyjson_pointer.specs.Walk.{part_at}
use Rattle.json_part.specs.Part.{GivesMissing, GivesPart, part_or_null, printed, printed_as}
use Rattle.json_part.specs.declared.part.Form.{Form}

pub part_found : (b : Bool) (o : Option Tree) (u : Tree) → o ≡ Some u → part_or_null b o ≡ Some u
part_found true None u e = cc
part_found true (Some t) u e = e
part_found false o u e = e

pub null_found : (b : Bool) (o : Option Tree) → b ≡ true → o ≡ None → part_or_null b o ≡ Some null
null_found true None e h = refl
null_found true (Some t) e h = cc
null_found false o e h = absurd (false≢true e)

pub none_found : (b : Bool) (o : Option Tree) → b ≡ false → o ≡ None → part_or_null b o ≡ None
none_found false o e h = h
none_found true o e h = cc

pub raw_string : (b i : Bool) (t : Tree) (cs : List ℕ) → b ≡ true → string_in t ≡ Some cs
    → encode_utf8_all cs ++ line_feed ∷ [] ≡ printed_as b i t
raw_string true i (string ds) cs e h = cc
raw_string true i null cs e h = cc
raw_string true i (boolean b) cs e h = cc
raw_string true i (number n) cs e h = cc
raw_string true i (array ts) cs e h = cc
raw_string true i (object ms) cs e h = cc
raw_string false i t cs e h = absurd (false≢true e)

pub other_kind : (b i : Bool) (t : Tree) → string_in t ≡ None → laid_out i t ≡ printed_as b i t
other_kind false i t h = refl
other_kind true i (string ds) h = cc
other_kind true i null h = refl
other_kind true i (boolean b) h = refl
other_kind true i (number n) h = refl
other_kind true i (array ts) h = refl
other_kind true i (object ms) h = refl

pub plain : (b i : Bool) (t : Tree) → b ≡ false → laid_out i t ≡ printed_as b i t
plain false i t e = refl
plain true i t e = cc

null_text : (b i : Bool) → codes "null" ++ line_feed ∷ [] ≡ printed_as b i null
unfolding lib.Utf8.encode
null_text true true = refl
null_text true false = refl
null_text false true = refl
null_text false false = refl

module _ (form : Form) (ks : List (List ℕ)) (t : Tree) (old new : Option (List ℕ)) where
  module _ (u : Tree) (is : part_or_null form.or_null (part_at t ks) ≡ Some u) where
    pub part_written : Written old new (printed form u) [] → Answers (GivesPart form ks t) old new (Ok None)
    part_written w = (printed form u, (u, is, refl), Appends_written old new _ w)

    pub part_begun : (r : Result (Option NoAnswer) Error) → IsErr r → WrittenPart old new (printed form u)
        → Answers (GivesPart form ks t) old new r
    part_begun (Ok x) i w = absurd (false≢true i)
    part_begun (Err e) i w = inr (printed form u, (u, is, refl), w)

  -- what is printed where the tokens name no part
  pub missing : (r : Result (Option NoAnswer) Error) → part_at t ks ≡ None → Answers (GivesMissing form.or_null) old new r
      → Answers (GivesPart form ks t) old new r
  missing (Ok None) e h = (h.0, (null, null_found form.or_null _ h.1.0 e, h.1.1 ∙ null_text form.is_raw form.is_indented), h.2)
  missing (Ok (Some (Refused c))) e h = absurd h.0
  missing (Ok (Some (Failed w))) e h = absurd h.0
  missing (Ok (Some (No w))) e h = ((none_found form.or_null _ h.0.0 e, h.0.1), h.1)
  missing (Err x) e h =
      ⊎_elim (λ k. inl k) (λ k. inr (k.0, (null, null_found form.or_null _ k.1.0 e, k.1.1 ∙ null_text form.is_raw form.is_indented), k.2)) h
