use Rattle.std.proofs.Common.{◌≡◌, ◌++◌, reverse, subst, sym}
use Rattle.std.specs.Prelude.{OnOk}
use Rattle.tinyjson_path.proofs.Chosen.{are_children, are_kept}
use Rattle.tinyjson_path.proofs.Repeating.{on_puts}
use Rattle.tinyjson_path.specs.Nodes.{path_of, part_view, children}
use Rattle.tinyjson_path.specs.Waiting.{AreChildren, waits_view, waits_at, wants}
use Rattle.tinyjson_path.specs.declared.children.Wanted.TheVariants.{Containers}
use Rattle.tinyjson_view.proofs.Callers.{sorted_in, value_sound}
use Rattle.tinyjson_view.specs.Views.{tree_of}
use Rattle.tinyjson_path.proofs.waiting.push_containers.Goals as goal

pub returns-clause-view : goal.returns-clause-view
returns-clause-view c = subst (λ z. OnOk c.push_reversed.result (waits_view c.push_reversed.new.waiting.items
    ≡ waits_view c.args.waiting.now.items ++ reverse (waits_at c.args.segment z))) c.in_ok-containers.ensures c.push_reversed.ensures.view

pub returns-clause-marked : goal.returns-clause-marked
returns-clause-marked c =
    let n = c.args.node.now in
    let t = tree_of n.value in
    on_puts (part_view n) _ c.push_reversed.result c.args.waiting.now.items c.push_reversed.new.waiting.items
    (subst (AreChildren (part_view n)) (sym c.in_ok-containers.ensures)
    (are_kept (part_view n) (wants Containers) (children (path_of n) t) (are_children (path_of n) t (sorted_in t (value_sound n.value)))))
    c.push_reversed.ensures.marked
