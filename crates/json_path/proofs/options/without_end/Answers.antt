use Rattle.std.proofs.Common.{Some, None, inl, inr, refl, arith}
use Rattle.std.proofs.lemmas.Str.Pattern.{strip_suffix_char}
use Rattle.json_path.proofs.options.without_end.Goals as goal

pub returns-in-Some : goal.returns-in-Some
returns-in-Some c = inl (strip_suffix_char 10 c.args.text.now (Some c.in-Some.query) c.in-Some.ensures.cases (omega arith))

pub returns-in-None : goal.returns-in-None
returns-in-None c = inr (refl, strip_suffix_char 10 c.args.text.now None c.in-None.ensures.cases (omega arith))
