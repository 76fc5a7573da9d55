use Rattle.json_lines.proofs.Given.{checked_next}
use Rattle.json_lines.proofs.lines.read_next.Goals as goal

pub returns-in-Some-None : goal.returns-in-Some-None
returns-in-Some-None g c =
    checked_next _ _ c.read_line_checked.new.line.items c.args.options.limit c.args.options.max_line c.in-Some-None.limit
    c.read_line_checked.result c.in-Some-None.is-0 c.in-Some-None.is-1 c.read_line_checked.ensures
