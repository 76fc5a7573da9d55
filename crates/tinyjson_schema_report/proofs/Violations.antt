-- All that a text violates is all that its value violates.
use Rattle.std.proofs.Common.{ℕ, List, None, Result, Ok, Err}
use Rattle.std.specs.Prelude.{IfOk}
use Rattle.tinyjson.specs.Grammar.{IsText}
use Rattle.tinyjson.specs.Tree.{Tree}
use Rattle.tinyjson_schema.specs.Valid.{Root}
use Rattle.tinyjson_schema_report.specs.Verdicts.{ValueGivesEvery, TextGivesEvery, TextGivesAs, IsAs}
use Rattle.tinyjson_schema_report.specs.Verdicts.{TextGives, depth_limit}
use Rattle.tinyjson_schema_report.specs.declared.verdict.every.Every.{Every}
use Rattle.tinyjson_schema_report.specs.declared.verdict.every.Every.TheVariants.{Found, Refused}
use Rattle.tinyjson_schema_report.specs.declared.verdict.Cause.TheVariants as cause
use Rattle.tinyjson_schema_report.specs.declared.verdict.Verdict.{Verdict}

every_gives : (most : ℕ) (s : Root) (xs : List ℕ) (t : Tree) (e : Every) → IsText depth_limit xs t → ValueGivesEvery most xs s t e
    → TextGivesEvery most s xs e
every_gives most s xs t (Found ls) i h = (t, i, h)
every_gives most s xs t (Refused cause.NotUtf8) i h = absurd h
every_gives most s xs t (Refused (cause.NotJson e)) i h = absurd h
every_gives most s xs t (Refused cause.TooDeep) i h = (t, i, h)
every_gives most s xs t (Refused cause.TooMuch) i h = (t, i, h)
every_gives most s xs t (Refused (cause.TooLong m)) i h = absurd h

pub every_of_value : {E : Type 0} (most : ℕ) (s : Root) (xs : List ℕ) (t : Tree) (r : Result Every E) → IsText depth_limit xs t
    → IfOk r (ValueGivesEvery most xs s t) → IfOk r (TextGivesEvery most s xs)
every_of_value most s xs t (Ok e) i h = every_gives most s xs t e i h
every_of_value most s xs t (Err e) i h = tt

pub every_of_verdict : {E : Type 0} (s : Root) (xs : List ℕ) (v : Verdict) (r : Result Every E) → TextGives s xs v → IfOk r (IsAs v)
    → IfOk r (TextGivesAs None s xs)
every_of_verdict s xs v (Ok e) h k = (v, h, k)
every_of_verdict s xs v (Err e) h k = tt
