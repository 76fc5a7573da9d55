use Rattle.std.proofs.Common.{refl, subst, sym}
use Rattle.std.specs.Prelude.{codes}
use Rattle.tinyjson_grammar.specs.Syntax.{AreWhite}
use Rattle.tinyjson.proofs.Callers.{chars_literal}
use Rattle.tinyjson_laws.proofs.round_trips.tab_and_read.Goals as goal

pub indented_and_read-requires : goal.indented_and_read-requires
indented_and_read-requires c = subst AreWhite (sym (chars_literal (codes "\t") refl)) (refl, tt)
