use Rattle.std.proofs.Common.{◌∙◌, arith, Some, None}
use Rattle.std.proofs.lemmas.Str.Pattern.{rfind_char}
use Rattle.text_uri.proofs.Slashes.{kept, kept_none}
use Rattle.text_uri.proofs.cutting.through_last_slash.Goals as goal

pub returns-in-Some : goal.returns-in-Some
returns-in-Some c = c.split_at.ensures.front
    ∙ kept c.args.text.now c.in-Some.at (rfind_char 47 c.args.text.now (Some c.in-Some.at) c.in-Some.ensures.cases (omega arith))

pub returns-in-None : goal.returns-in-None
returns-in-None c = kept_none c.args.text.now (rfind_char 47 c.args.text.now None c.in-None.ensures.cases (omega arith))
