use Rattle.std.proofs.Common.{◌≡◌, ap, sym, ◌∙◌, Ok, arith, subst, drop, length-drop}
use Rattle.tinyjson_cli.specs.Arguments.{given_of, nothing, operand, option_gives}
use Rattle.tinyjson_cli.specs.declared.arguments.Next.TheVariants.{Any}
use Rattle.tinyjson_cli.proofs.Joining.{join_nothing, no_memory, short_word, plain_word, dashed_word, dashes_alone}
use Rattle.tinyjson_cli.proofs.arguments.Arguments.take_option.Goals as goal
use Rattle.tinyjson_cli.proofs.arguments.Arguments.take_option.Goals.{then-bytes-lt2-via-then-bytes-lt2}
use Rattle.tinyjson_cli.proofs.arguments.Arguments.take_option.Goals.{then-bytes-lt2-via-else-bytes-lt2+then-bytes-ne45}

pub returns-then-bytes-lt2 : goal.returns-then-bytes-lt2
returns-then-bytes-lt2 c =
    let same = c.as_bytes-bytes.ensures.value in
    let w = c.as_bytes-bytes.result.now in
    let is : option_gives c.args.known.now w ≡ Ok (operand w, Any) = elim c.then-bytes-lt2.branch [
      | then-bytes-lt2-via-then-bytes-lt2 b ↦ short_word c.args.known.now w b.if-bytes-lt2.true
      | then-bytes-lt2-via-else-bytes-lt2+then-bytes-ne45 b ↦ plain_word c.args.known.now w b.if-bytes-lt2.false b.if-bytes-ne45.true
    ] in
    (operand c.args.word.now, subst (λ v. option_gives c.args.known.now v ≡ Ok (operand v, Any)) same is, c.in_ok-add_operand.ensures)

pub returns-then-bytes-eq2 : goal.returns-then-bytes-eq2
returns-then-bytes-eq2 c =
    let w = c.as_bytes-bytes.result.now in
    let known = c.args.known.now in (
      nothing,
      ap (option_gives known) (sym c.as_bytes-bytes.ensures.value)
          ∙ (dashed_word known w c.if-bytes-lt2.false c.if-bytes-ne45.false c.if-bytes-ne45-2.false
          ∙ dashes_alone known w (drop 2 w) (omega (arith, length-drop 2 w, c.if-bytes-eq2.true))),
      join_nothing _,
    )

pub returns-in_err-add_operand : goal.returns-in_err-add_operand
returns-in_err-add_operand c =
    no_memory (option_gives c.args.known.now c.args.word.now) (given_of c.args.self.now) (given_of c.add_operand.new.self) c.from_residual.result
    c.from_residual.ensures.1
