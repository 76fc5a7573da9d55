use Rattle.std.proofs.Common.{◌≡◌, true, sym, subst}
use Rattle.tinyjson_path.proofs.Errors.{error_of_rest}
use Rattle.tinyjson_path.proofs.Within.{Within, among, within_among, within_trans}
use Rattle.tinyjson_path.specs.Strings.{are_among, segments_strings, strings_in}
use Rattle.tinyjson_path.specs.Waiting.{waits_strings, waits_view}
use Rattle.tinyjson_view.specs.Views.{tree_of}
use Rattle.tinyjson_path.proofs.selection.Selection.next.Goals as goal

pub returns-in_err-next-clause-err : goal.returns-in_err-next-clause-err
returns-in_err-next-clause-err c =
    let root = tree_of c.args.self.now.finder.root in
    let old = waits_strings (waits_view c.replace-waiting.result.items) in
    error_of_rest (segments_strings c.args.self.now.segments.now) old root c.in_err-next.field-0.0 c.from_residual.result
    c.from_residual.ensures.1
    (within_among old (strings_in root)
    (subst (λ v. are_among (waits_strings (waits_view v.items)) (strings_in root) ≡ true) (sym c.replace-waiting.ensures.value)
    c.args.self.now.within))
    c.in_err-next.ensures.err

pub invariant_of-self-2 : goal.invariant_of-self-2
invariant_of-self-2 c =
    let root = tree_of c.args.self.now.finder.root in
    let old = waits_strings (waits_view c.replace-waiting.result.items) in
    let new = waits_strings (waits_view c.next_found.new.waiting.items) in
    record {
      within = subst (λ r. are_among new (strings_in (tree_of r)) ≡ true) (sym c.next_found.ensures.root)
          (among new (strings_in root) (within_trans new old (strings_in root) c.in_ok-next.ensures.within
          (within_among old (strings_in root)
          (subst (λ v. are_among (waits_strings (waits_view v.items)) (strings_in root) ≡ true) (sym c.replace-waiting.ensures.value)
          c.args.self.now.within))));
    }
