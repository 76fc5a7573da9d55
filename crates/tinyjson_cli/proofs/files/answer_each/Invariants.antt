use Rattle.std.proofs.Common.{◌≡◌, [], map, drop}
use Rattle.std.specs.Io.Buffered.{writer_buffer, writer_contents}
use Rattle.tinyjson_cli.specs.Outputs.{watched_contents}
use Rattle.tinyjson_cli.specs.Runs.{input_file}
use Rattle.tinyjson_cli.proofs.Progress.{Answered_so_far}
use Rattle.tinyjson_cli.proofs.files.answer_each.Given as goal

abbrev pub invariant-loop-name : goal.invariant-loop-name
invariant-loop-name g l = writer_buffer l.initial.output ≡ [] → Answered_so_far g.T.Tool.gives
    (map (λ f. input_file f.now) l.fn.files) (map (λ f. input_file f.now) (drop l.name-index l.fn.files))
    l.initial.tool l.tool (writer_contents (watched_contents g.W.Write.contents) l.initial.output)
    (writer_contents (watched_contents g.W.Write.contents) l.output) (writer_buffer l.output) l.status
