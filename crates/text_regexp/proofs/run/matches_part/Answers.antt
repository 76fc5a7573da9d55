use Rattle.std.proofs.Common.{◌∙◌, None, ap}
use Rattle.text_regexp.specs.Marked.{standing}
use Rattle.text_regexp.proofs.Running.{standing_same}
use Rattle.text_regexp.proofs.run.matches_part.Goals as goal

pub returns-clause-same : goal.returns-clause-same
returns-clause-same c =
    c.place_assertions.ensures.stood ∙ (ap (standing None None) c.clear-2.ensures ∙ (c.search_between-found.ensures.same
    ∙ standing_same None None c.args.root.now c.requires.kept c.requires.stood))
