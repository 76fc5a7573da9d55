use Rattle.std.proofs.Common.{◌≡◌, ◌++◌, List, length, map, drop}
use Rattle.tinyjson_path.specs.Answers.{answer_of, found_view}
use Rattle.tinyjson_path.specs.Nodes.{Part, path_of, part_view, parts_view, children}
use Rattle.tinyjson_view.specs.Views.{tree_of}
use Rattle.tinyjson_path.specs.Queries.{found_by, union, selector_parts, selected_by, holds_of, kept, some_hold, all_hold}
use Rattle.tinyjson_path.specs.Strings.{strings_in, Within}
use Rattle.tinyjson_path.proofs.Repeating.{AreSound}
use Rattle.tinyjson_path.proofs.Waits.{pops_of}
use Rattle.tinyjson_path.specs.Waiting.{waits_view, waits_left, waits_parts, waits_strings}
use Rattle.tinyjson_path.proofs.Selected.{AreWithin}
use Rattle.tinyjson_path.proofs.select.Finder.+selecting.Given as goal

abbrev pub invariant-next_found-loop-node : goal.invariant-next_found-loop-node
invariant-next_found-loop-node l = record {
  root : l.self.root ≡ l.fn.self.root;
  left :
      waits_left l.segments (tree_of l.fn.self.root) (waits_view l.waiting.items)
      ≡ waits_left l.segments (tree_of l.fn.self.root) (waits_view l.fn.waiting.items);
  within : AreWithin (waits_strings (waits_view l.fn.waiting.items)) (waits_parts (waits_view l.waiting.items));
  sound : AreSound l.segments (tree_of l.fn.self.root) (drop l.low l.waiting.items);
}

abbrev pub decreases-next_found-loop-node : goal.decreases-next_found-loop-node
decreases-next_found-loop-node l = pops_of l.segments (tree_of l.fn.self.root) (waits_view l.waiting.items)

abbrev pub invariant-found_from-loop-waiting : goal.invariant-found_from-loop-waiting
invariant-found_from-loop-waiting l = record {
  root : l.self.root ≡ l.fn.self.root;
  left :
      (ps : List Part) × (found_view l.found ≡ answer_of ps)
      × (ps ++ waits_left l.segments (tree_of l.fn.self.root) (waits_view l.waiting.items)
      ≡ found_by l.segments (tree_of l.fn.self.root) (tree_of l.value));
  within : Within (waits_strings (waits_view l.waiting.items)) (strings_in (tree_of l.value));
}

abbrev pub decreases-found_from-loop-waiting : goal.decreases-found_from-loop-waiting
decreases-found_from-loop-waiting l = length (waits_left l.segments (tree_of l.fn.self.root) (waits_view l.waiting.items))

abbrev pub invariant-select_each-loop-selector : goal.invariant-select_each-loop-selector
invariant-select_each-loop-selector l = record {
  root : l.self.root ≡ l.fn.self.root;
  left :
      parts_view l.selected.items
      ++ union (map selector_parts (drop l.selector-index l.selectors)) (tree_of l.fn.self.root) (part_view l.node)
      ≡ parts_view l.fn.selected.items ++ selected_by l.selectors (tree_of l.fn.self.root) (part_view l.node);
}

abbrev pub invariant-push_kept-loop-child : goal.invariant-push_kept-loop-child
invariant-push_kept-loop-child l = record {
  root : l.self.root ≡ l.fn.self.root;
  left :
      parts_view l.selected.items
      ++ kept (holds_of l.expression (tree_of l.fn.self.root)) (parts_view (drop l.child-index l.child-items))
      ≡ parts_view l.fn.selected.items
      ++ kept (holds_of l.expression (tree_of l.fn.self.root)) (children (path_of l.node) (tree_of l.node.value));
}

abbrev pub invariant-holds_at-loop-choice : goal.invariant-holds_at-loop-choice
invariant-holds_at-loop-choice l = record {
  root : l.self.root ≡ l.fn.self.root;
  left :
      some_hold (map holds_of (drop l.choice-index l.choice-items)) (tree_of l.fn.self.root) (tree_of l.here)
      ≡ holds_of l.expression (tree_of l.fn.self.root) (tree_of l.here);
}

abbrev pub invariant-holds_at-loop-condition : goal.invariant-holds_at-loop-condition
invariant-holds_at-loop-condition l = record {
  root : l.self.root ≡ l.fn.self.root;
  left :
      all_hold (map holds_of (drop l.condition-index l.condition-items)) (tree_of l.fn.self.root) (tree_of l.here)
      ≡ holds_of l.expression (tree_of l.fn.self.root) (tree_of l.here);
}
