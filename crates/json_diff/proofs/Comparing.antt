-- What is printed of a value.
use Rattle.std.proofs.Common.{ℕ, Bool, true, false, List, [], Option, None, Result, Ok, Err, inr, refl}
use Rattle.std.proofs.lemmas.Bool.{false≢true}
use Rattle.std.specs.Result.{IsErr}
use Rattle.std.specs.declared.io.Error.{Error}
use Rattle.tinyjson.proofs.Callers.{Appends_written}
use Rattle.tinyjson.specs.Tree.{Tree}
use Rattle.tinyjson.specs.Written.{Written, WrittenPart}
use Rattle.tinyjson_cli.specs.Layout.{laid_out}
use Rattle.tinyjson_cli.specs.Texts.{Answers}
use Rattle.tinyjson_cli.specs.declared.texts.NoAnswer.{NoAnswer}
use Rattle.tinyjson_diff.specs.Merging.{Leads, HasChangesAlone}
use Rattle.tinyjson_diff.specs.Patching.{IsPatchBetween}
use Rattle.json_diff.specs.Compare.{GivesMergePatch, GivesPatch}

module _ (i : Bool) (t u : Tree) (old new : Option (List ℕ)) where
  module _ (p : Tree) (is : Leads t u p × HasChangesAlone t u p) where
    pub merge_written : Written old new (laid_out i p) [] → Answers (GivesMergePatch i t u) old new (Ok None)
    merge_written w = (laid_out i p, (p, is.0, is.1, refl), Appends_written old new _ w)

    pub merge_begun : (r : Result (Option NoAnswer) Error) → IsErr r → WrittenPart old new (laid_out i p)
        → Answers (GivesMergePatch i t u) old new r
    merge_begun (Ok x) j w = absurd (false≢true j)
    merge_begun (Err e) j w = inr (laid_out i p, (p, is.0, is.1, refl), w)

  module _ (p : Tree) (is : IsPatchBetween t u p) where
    pub patch_written : Written old new (laid_out i p) [] → Answers (GivesPatch i t u) old new (Ok None)
    patch_written w = (laid_out i p, (p, is, refl), Appends_written old new _ w)

    pub patch_begun : (r : Result (Option NoAnswer) Error) → IsErr r → WrittenPart old new (laid_out i p)
        → Answers (GivesPatch i t u) old new r
    patch_begun (Ok x) j w = absurd (false≢true j)
    patch_begun (Err e) j w = inr (laid_out i p, (p, is, refl), w)
