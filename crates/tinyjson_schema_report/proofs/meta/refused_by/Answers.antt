use Rattle.tinyjson_pointer.proofs.Callers.{place_text}
use Rattle.tinyjson_schema_report.proofs.meta.refused_by.Goals as goal

pub returns : goal.returns
returns c = (place_text c.args.refusal.place.now c.in_ok-place.place c.in_ok-place.ensures.ok, c.in_ok-words.ensures)
