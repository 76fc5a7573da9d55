use Rattle.std.proofs.Common.{[], ◌∷◌}
use Rattle.std.proofs.KnownBytes.{Keeps-refl}
use Rattle.tinyjson.proofs.Callers.{begins, goes, stops}
use Rattle.tinyjson_document.specs.Document.{tree}
use Rattle.json_path.proofs.Writing.{root_given, rest_begun, rest_written}
use Rattle.json_path.proofs.selected.write_left.Goals as goal

pub returns-then-contains : goal.returns-then-contains
returns-then-contains g c = λ ps same. (
  root_given c.args.places.now ps _ _ same c.contains.ensures c.if-contains.true,
  Keeps-refl _,
)

pub returns-in_err-write_without : goal.returns-in_err-write_without
returns-in_err-write_without g c = λ ps same.
    let p = c.args.places.now in
    rest_begun p ps (tree c.args.root) _ _ _ same (root_given p ps _ _ same c.contains.ensures c.if-contains.false)
    c.from_residual.ensures.0 (stops (10 ∷ []) c.in_err-write_without.ensures begins)

pub returns-in_err-write_all : goal.returns-in_err-write_all
returns-in_err-write_all g c = λ ps same.
    let p = c.args.places.now in
    rest_begun p ps (tree c.args.root) _ _ _ same (root_given p ps _ _ same c.contains.ensures c.if-contains.false)
    c.from_residual-in_err-write_all.ensures.0
    (stops [] c.in_err-write_all.ensures (goes (10 ∷ []) c.in_ok-write_without.ensures begins))

pub returns : goal.returns
returns g c = λ ps same.
    let p = c.args.places.now in
    rest_written p ps (tree c.args.root) _ _ same (root_given p ps _ _ same c.contains.ensures c.if-contains.false)
    (goes [] c.in_ok-write_all.ensures (goes (10 ∷ []) c.in_ok-write_without.ensures begins))
