use Rattle.std.proofs.Common.{◌≡◌, ℕ, ◌+◌, ◌<◌, List, [], ◌∷◌, ◌++◌, drop, get_or, length, map, String, Global, sym, ap, ◌∙◌, append_assoc}
use Rattle.std.proofs.lemmas.List.{map-append}
use Rattle.tinyjson.specs.Words.{text, compact}
use Rattle.tinyjson_path.proofs.Callers.{drop_at}
use Rattle.tinyjson_path.specs.Nodes.{parts_view}
use Rattle.tinyjson_path.specs.Views.{tree_of}
use Rattle.tinyjson_path.specs.declared.node.Located.{Located}
use Rattle.example_path.specs.Texts.{part_texts}
use Rattle.example_path.proofs.node_texts.Goals as goal

-- one more text is that of the next node
one_more : (ns : List Located) (i : ℕ) (n : Located) (ss more : List (String Global)) (s : String Global) (all : List (List ℕ)) → i < length ns
    → n ≡ get_or ns i n → text s ≡ compact (tree_of n.value) → more ≡ ss ++ s ∷ []
    → map text ss ++ part_texts (parts_view (drop i ns)) ≡ all → map text more ++ part_texts (parts_view (drop (i + 1) ns)) ≡ all
one_more ns i n ss more s all l g e m h =
    let left : List (List ℕ) = part_texts (parts_view (drop (i + 1) ns)) in
    ap (λ z. map text z ++ left) m
    ∙ (ap (λ z. z ++ left) (map-append text ss (s ∷ []))
    ∙ (append_assoc (map text ss) (text s ∷ []) left
    ∙ (ap (λ z. map text ss ++ z ∷ left) e
    ∙ (sym (ap (λ z. map text ss ++ part_texts (parts_view z)) (drop_at ns i n l g)) ∙ h))))

pub loop-node-preserved : goal.loop-node-preserved
loop-node-preserved c =
    one_more c.args.nodes.now c.loop-node.node-index c.node-item.result c.loop-node.texts.items c.push.new.self.items c.in-Ok.text
    (part_texts (parts_view c.args.nodes.now)) c.loop-node-test.true c.node-item.is c.in-Ok.ensures c.in_ok-push-in-Ok.ensures.items
    c.loop-node.invariant
