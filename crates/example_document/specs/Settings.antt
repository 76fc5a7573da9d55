-- The port of a server, in the tree of its settings.
use Rattle.std.specs.Prelude.{Option, codes, option_and_then}
use Rattle.tinyjson.specs.Words.{Tree}
use Rattle.tinyjson.specs.Index.{tree_at_key}

abbrev pub port_in : Tree → Option Tree
port_in t = option_and_then (λ server. tree_at_key server (codes "port")) (tree_at_key t (codes "server"))
