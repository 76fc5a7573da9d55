-- The output of a program. For private contracts.
use Rattle.std.specs.Prelude.{ℕ, List, Option}
use Rattle.tinyjson_cli.specs.declared.output.Watched.{Watched}

-- what the writer inside has
abbrev pub watched_contents : {W : Type 0} → (W → Option (List ℕ)) → Watched W → Option (List ℕ)
watched_contents contents w = contents w.inner
