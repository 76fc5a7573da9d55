-- What is printed of a value.
use Rattle.std.proofs.Common.{◌≡◌, ℕ, Bool, List, [], ◌∷◌, ◌++◌, Option, None, Result, Ok, Err, inr, ap, refl}
use Rattle.std.proofs.lemmas.Bool.{false≢true}
use Rattle.std.proofs.lemmas.Result.{MatchResult-from_err}
use Rattle.std.specs.Result.{IsErr}
use Rattle.std.specs.declared.io.Error.{Error}
use Rattle.tinyjson.proofs.Callers.{Appends_written, begins, stop}
use Rattle.tinyjson.specs.Tree.{Tree}
use Rattle.tinyjson.specs.Written.{Written, WrittenPart, WritesPrefix}
use Rattle.tinyjson_cli.specs.Layout.{laid_out}
use Rattle.tinyjson_cli.specs.Texts.{Answers}
use Rattle.tinyjson_cli.specs.declared.texts.NoAnswer.{NoAnswer}
use Rattle.tinyjson_patch.specs.Merge.{merge_patch}
use Rattle.json_merge.specs.Apply.{GivesMerged, all_merged}

-- an error before the first write
pub unwritten : {T E : Type 0} (old : Option (List ℕ)) (bytes : List ℕ) (r : Result T E) → IsErr r → WritesPrefix old old bytes r
unwritten old bytes r e = MatchResult-from_err r _ _ e (λ _. stop begins)

-- the last patch is applied to the result of the others
pub last_merged : (t : Tree) (ps : List Tree) (p : Tree) → all_merged t (ps ++ p ∷ []) ≡ merge_patch (all_merged t ps) p
last_merged t [] p = refl
last_merged t (q ∷ ps) p = last_merged (merge_patch t q) ps p

module _ (i : Bool) (ps : List Tree) (t : Tree) (old new : Option (List ℕ)) where
  module _ (u : Tree) (is : u ≡ all_merged t ps) where
    pub line_written : Written old new (laid_out i u) [] → Answers (GivesMerged i ps t) old new (Ok None)
    line_written w = (laid_out i u, ap (laid_out i) is, Appends_written old new _ w)

    pub line_begun : (r : Result (Option NoAnswer) Error) → IsErr r → WrittenPart old new (laid_out i u)
        → Answers (GivesMerged i ps t) old new r
    line_begun (Ok x) j w = absurd (false≢true j)
    line_begun (Err e) j w = inr (laid_out i u, ap (laid_out i) is, w)
