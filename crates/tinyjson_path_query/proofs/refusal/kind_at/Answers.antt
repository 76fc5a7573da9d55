use Rattle.std.proofs.Common.{sym, subst}
use Rattle.tinyjson_path_query.specs.Refusing.{Says}
use Rattle.tinyjson_path_query.proofs.Meaning.{read_says}
use Rattle.tinyjson_path_query.proofs.refusal.kind_at.Goals as goal

pub returns-then-open_brackets-lt-NESTING_LIMIT-clause-says : goal.returns-then-open_brackets-lt-NESTING_LIMIT-clause-says
returns-then-open_brackets-lt-NESTING_LIMIT-clause-says c =
    subst (Says c.args.before.now c.args.text.now) (sym c.read_kind.ensures) (read_says c.args.before.now c.args.text.now c.args.cause)

pub returns-in-Ok-false-clause-says : goal.returns-in-Ok-false-clause-says
returns-in-Ok-false-clause-says c =
    subst (Says c.args.before.now c.args.text.now) (sym c.read_kind-in-Ok-false.ensures)
    (read_says c.args.before.now c.args.text.now c.args.cause)

pub returns-in_default : goal.returns-in_default
returns-in_default c = record {
  says = subst (Says c.args.before.now c.args.text.now) (sym c.read_kind-in_default.ensures)
      (read_says c.args.before.now c.args.text.now c.args.cause);
  rule = λ _. c.read_kind-in_default.ensures;
  memory = λ m. absurd (c.in_default.not-OutOfMemory m);
}
