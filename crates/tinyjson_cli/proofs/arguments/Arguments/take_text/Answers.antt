use Rattle.std.proofs.Common.{◌∙◌, ap, refl, sym, subst}
use Rattle.std.specs.Str.{IsUtf8}
use Rattle.tinyjson_cli.specs.Arguments.{no_text, with_text, text_or}
use Rattle.tinyjson_cli.proofs.Joining.{text_taken, no_text_taken}
use Rattle.tinyjson_cli.proofs.arguments.Arguments.take_text.Goals as goal

pub returns : goal.returns
returns c =
    let bs = c.in-Ok.value.now in (
      with_text c.args.letter bs,
      ap (text_or c.args.letter) (sym c.in-Ok.ensures.cases.0)
          ∙ text_taken c.args.letter bs (subst IsUtf8 (sym c.in-Ok.ensures.cases.0) c.in-Ok.ensures.cases.1),
      c.in_ok-add_text.ensures,
    )

pub returns-in_default : goal.returns-in_default
returns-in_default c = (no_text c.args.letter, no_text_taken c.args.letter c.args.bytes.now c.in_default.ensures.cases.0, refl)
