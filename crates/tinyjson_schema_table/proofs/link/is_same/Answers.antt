use Rattle.std.proofs.Common.{sym, ap, ◌∙◌}
use Rattle.tinyjson_schema_table.specs.Links.{led_by}
use Rattle.tinyjson_schema_table.proofs.link.is_same.Goals as goal

pub returns-in-Single : goal.returns-in-Single
returns-in-Single c h s = ap (led_by s) c.in-Single.is ∙ c.is_single.ensures h s

pub returns-in-Listed : goal.returns-in-Listed
returns-in-Listed c h s = ap (led_by s) c.in-Listed.is ∙ c.is_listed.ensures h s

pub returns-in-Keyed : goal.returns-in-Keyed
returns-in-Keyed c h s = ap (led_by s) c.in-Keyed.is ∙ c.is_keyed.ensures h s
