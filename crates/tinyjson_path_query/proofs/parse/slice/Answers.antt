use Rattle.std.proofs.Common.{refl}
use Rattle.tinyjson_path_query.specs.Forms as form
use Rattle.tinyjson_path_query.proofs.Steps.{slice_at}
use Rattle.tinyjson_path_query.proofs.parse.slice.Goals as goal

pub returns : goal.returns
returns c = (
  form.slice c.args.start c.in_ok-end.end c.in_ok-step.step,
  slice_at c.args.start c.in_ok-end.end c.in_ok-step.step c.args.text.now c.after_blanks.result.now c.in_ok-end.rest.now
      c.in_ok-step.after.now c.after_blanks.ensures c.in_ok-end.ensures c.in_ok-step.ensures,
  refl,
)
