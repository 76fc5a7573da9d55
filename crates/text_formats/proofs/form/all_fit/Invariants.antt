use Rattle.std.proofs.Common.{◌≡◌, drop}
use Rattle.text_formats.specs.Form.{has_form}
use Rattle.text_formats.proofs.form.all_fit.Given as goal

abbrev pub invariant-loop-i : goal.invariant-loop-i
invariant-loop-i l = has_form l.form l.text ≡ has_form (drop l.i l.form) (drop l.i l.text)
