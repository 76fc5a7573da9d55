use Rattle.std.proofs.Common.{◌∙◌, ap, sym}
use Rattle.std.proofs.lemmas.Slice.Eq.{bytes_eq-Decides}
use Rattle.std.specs.Str.{chars}
use Rattle.tinyjson_path.proofs.Chosen.{ends_alike_at_index, ends_alike_at_key}
use Rattle.tinyjson_path.proofs.waiting.is_step_same.Goals as goal

pub returns-in-Item-Item : goal.returns-in-Item-Item
returns-in-Item-Item c = λ same.
    let both = c.in-Item-Item in
    ends_alike_at_index c.args.left.now c.args.right.now both.field-0-0 both.field-0-1 both.left both.right both.is-0 both.is-1 same

pub returns-then-left-right : goal.returns-then-left-right
returns-then-left-right c = λ same.
    let both = c.in-Member-Member in
    ends_alike_at_key c.args.left.now c.args.right.now both.field-0-0 both.field-0-1 both.left both.right both.is-0 both.is-1
    (ap chars ((bytes_eq-Decides both.left.now both.right.now).0 (sym c.eq.ensures ∙ same)))
