use Rattle.std.proofs.Common.{◌≤◌, true, length, string_bytes, arith}
use Rattle.std.proofs.lemmas.Map.Text.{hash_set_updates_text}
use Rattle.std.specs.HashSet.{contains_text}
use Rattle.json_path.proofs.Leaving.{stays_bounded}
use Rattle.json_path.proofs.places.Places.add.Goals as goal

pub returns-clause-paths : goal.returns-clause-paths
returns-clause-paths c =
    hash_set_updates_text (string_bytes c.args.path) c.args.self.now.paths c.insert.new.self true c.in_ok-insert.ensures.updates

pub returns-clause-bounded : goal.returns-clause-bounded
returns-clause-bounded c = λ h bs e.
    let short : length (string_bytes c.args.path) ≤ c.longer-self.result
    = omega (arith, c.args.path.bytes.ok.0, c.len.ensures, c.longer-self.ensures.second) in
    stays_bounded (string_bytes c.args.path) bs (contains_text c.args.self.now.paths bs) (contains_text c.insert.new.self bs)
    c.args.self.now.longest c.longer-self.result
    (hash_set_updates_text (string_bytes c.args.path) c.args.self.now.paths c.insert.new.self true c.in_ok-insert.ensures.updates bs)
    (h bs) c.longer-self.ensures.first short e
