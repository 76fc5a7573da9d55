use Rattle.std.proofs.Common.{true≢false, sym, ap, ◌∙◌}
use Rattle.tinyjson_schema_keywords.specs.Applied.{schema_at}
use Rattle.tinyjson_schema_table.specs.Links.{led_by}
use Rattle.tinyjson_schema_table.proofs.link.is_single.Goals as goal

pub returns-in_default : goal.returns-in_default
returns-in_default c h s = absurd (true≢false (sym h))

pub returns-in-Single : goal.returns-in-Single
returns-in-Single c h s = ap (schema_at s) (c.is_keyword.ensures h) ∙ ap (led_by s) (sym c.in-Single.is)
