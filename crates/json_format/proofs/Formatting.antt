-- What is printed for a text, given its form.
use Rattle.std.proofs.Common.{◌≡◌, ℕ, true, false, List, [], Option, None, Some, Result, Ok, Err, inr}
use Rattle.std.proofs.Common.{encode_utf8_all, option_map, refl, subst, sym}
use Rattle.std.proofs.KnownBytes.{Appends-nil}
use Rattle.std.proofs.lemmas.Bool.{false≢true}
use Rattle.std.specs.Prelude.{◌≢◌, unwrap_or}
use Rattle.std.specs.Result.{IsErr}
use Rattle.std.specs.Str.{chars}
use Rattle.std.specs.declared.io.Error.{Error}
use Rattle.tinyjson.proofs.Callers.{Appends_written}
use Rattle.tinyjson.specs.Written.{Written, WrittenPart}
use Rattle.tinyjson_cli.specs.Tools.{Answered}
use Rattle.tinyjson_cli.specs.declared.status.Status.{Status}
use Rattle.tinyjson_cli.specs.declared.status.Status.TheVariants.{Done, No}
use Rattle.tinyjson_cli.specs.declared.texts.NoAnswer.{NoAnswer}
use Rattle.json_format.specs.Form.{Formats, GivesFormatted, IsForm, name_line}
use Rattle.json_format.specs.declared.form.Formatter.{Formatter}

module _ (a : Formatter) (file : Option (List ℕ)) (xs form : List ℕ) (is : IsForm (chars a.indent.now) xs form)
    (old new : Option (List ℕ)) where
  module _ (prints : a.is_check ≡ false) where
    gives : Formats a file xs (Ok (Done, form)) a
    gives = (subst (λ b. GivesFormatted b (chars a.indent.now) file xs (Ok (Done, form))) (sym prints) (refl, is), refl)

    pub form_written : Written old new form [] → Answered (Formats a file xs) a old new (Ok (Ok Done))
    form_written w = (form, gives, Appends_written old new form w)

    pub form_begun : (r : Result (Result Status NoAnswer) Error) → IsErr r → WrittenPart old new form
        → Answered (Formats a file xs) a old new r
    form_begun (Ok x) j w = absurd (false≢true j)
    form_begun (Err e) j w = inr (Done, form, a, gives, w)

  module _ (checks : a.is_check ≡ true) where
    pub in_form : form ≡ encode_utf8_all xs → Answered (Formats a file xs) a old old (Ok (Ok Done))
    in_form e = (
      [],
      (
        subst (λ b. GivesFormatted b (chars a.indent.now) file xs (Ok (Done, []))) (sym checks)
            (subst (IsForm (chars a.indent.now) xs) e is, refl),
        refl,
      ),
      Appends-nil old,
    )

    module _ (other : form ≢ encode_utf8_all xs) (name : List ℕ) (named : name ≡ name_line file) where
      names : Formats a file xs (Ok (No, name)) a
      names = (
        subst (λ b. GivesFormatted b (chars a.indent.now) file xs (Ok (No, name))) (sym checks) (form, is, other, named),
        refl,
      )

      pub name_written : Written old new name [] → Answered (Formats a file xs) a old new (Ok (Ok No))
      name_written w = (name, names, Appends_written old new name w)

      pub name_begun : (r : Result (Result Status NoAnswer) Error) → IsErr r → WrittenPart old new name
          → Answered (Formats a file xs) a old new r
      name_begun (Ok x) j w = absurd (false≢true j)
      name_begun (Err e) j w = inr (No, name, a, names, w)

-- a name, or the one that stands for it
pub one_or_other : {A B : Type 0} (f : A → B) (o : Option A) (d : A) → f (unwrap_or o d) ≡ unwrap_or (option_map f o) (f d)
one_or_other f None d = refl
one_or_other f (Some x) d = refl
