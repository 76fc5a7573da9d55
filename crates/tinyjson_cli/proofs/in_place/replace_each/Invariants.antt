use Rattle.std.proofs.Common.{map, drop}
use Rattle.tinyjson_cli.specs.Runs.{input_file}
use Rattle.tinyjson_cli.proofs.Progress.{Replaced_so_far}
use Rattle.tinyjson_cli.proofs.in_place.replace_each.Given as goal

abbrev pub invariant-loop-name : goal.invariant-loop-name
invariant-loop-name g l = Replaced_so_far g.T.Tool.gives (map (λ f. input_file f.now) l.fn.files)
    (map (λ f. input_file f.now) (drop l.name-index l.fn.files)) l.initial.tool l.tool l.status
