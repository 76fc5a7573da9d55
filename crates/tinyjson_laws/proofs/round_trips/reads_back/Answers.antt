use Rattle.std.proofs.Common.{rules, ◌≡◌, sym, subst, ◌∙◌, None, Ok, Err}
use Rattle.std.specs.Prelude.{IsTrue}
use Rattle.std.specs.Str.{chars}
use Rattle.tinyjson.specs.Equality.{tree_eq_Decides}
use Rattle.tinyjson_grammar.specs.Text.{compact}
use Rattle.tinyjson.specs.View.{view}
use Rattle.tinyjson_laws.proofs.CallLaws as laws
use Rattle.tinyjson_laws.proofs.round_trips.reads_back.Goals as goal

pub returns-in-Ok-from_str : goal.returns-in-Ok-from_str
returns-in-Ok-from_str c =
    let v = c.args.value.now in
    let e : chars c.as_str.result.now ≡ compact (view v) = search rules in
    let same : view c.in-Ok-from_str.back ≡ view v = laws.reads_back v None _ (Ok c.in-Ok-from_str.back) tt e c.in-Ok-from_str.ensures in
    subst IsTrue (sym c.eq.ensures) ((tree_eq_Decides (view c.in-Ok-from_str.back) (view v)).1 same)

pub returns : goal.returns
returns c =
    let v = c.args.value.now in
    let e : chars c.as_str.result.now ≡ compact (view v) = search rules in
    c.kind.ensures ∙ laws.reads_back v None _ (Err c.in-Err.error) tt e c.in-Err.ensures
