use Rattle.tinyjson_path.proofs.Callers.{judged_right}
use Rattle.tinyjson_path.specs.Patterns.{judged}
use Rattle.json_path.proofs.selected.write_answer.Goals as goal

pub returns : goal.returns
returns g c = (judged, judged_right, c.write_found.ensures)
