use Rattle.json_path.proofs.Writing.{begun_none, begun_some}
use Rattle.json_path.proofs.selected.is_begun_answer.Goals as goal

pub returns-in-Some : goal.returns-in-Some
returns-in-Some c = λ ps. begun_some c.args.form c.args.first.now _ ps c.in-Some.is

pub returns-in-None : goal.returns-in-None
returns-in-None c = λ ps. begun_none c.args.form c.args.first.now ps c.in-None.is
