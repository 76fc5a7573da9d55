use Rattle.tinyjson_path.proofs.Sameness.{singular_same}
use Rattle.tinyjson_path.proofs.same.+comparing.Goals as goal

pub is_comparable_same-returns-in-SingularQuery-SingularQuery : goal.is_comparable_same-returns-in-SingularQuery-SingularQuery
is_comparable_same-returns-in-SingularQuery-SingularQuery t c = λ same.
    let both = c.in-SingularQuery-SingularQuery in
    singular_same c.args.left.now c.args.right.now both.left both.right both.is-0 both.is-1 (c.is_singular_query_same.ensures same)
