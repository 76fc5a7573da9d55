use Rattle.std.proofs.Common.{sym, arith}
use Rattle.example_settings.proofs.Reading.{no_port}
use Rattle.example_settings.proofs.settings.port.Goals as goal

pub returns-in_default : goal.returns-in_default
returns-in_default c = no_port c.args.member c.in_ok-value.value c.in_ok-get.field-0.now c.in-Some.n c.in_ok-value.was
    (sym c.in_ok-get.ensures) c.in-Some.ensures.value c.in-Some.ensures.range (λ w. let h = c.if-n-lt65536.false in omega arith)

pub returns-in_default-2 : goal.returns-in_default-2
returns-in_default-2 c = no_port c.args.member c.in_ok-value.value c.in_ok-get.field-0.now c.in-Some.n c.in_ok-value.was
    (sym c.in_ok-get.ensures) c.in-Some.ensures.value c.in-Some.ensures.range (λ w. let h = c.if-n-gt0.false in omega arith)
