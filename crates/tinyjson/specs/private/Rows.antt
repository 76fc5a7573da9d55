-- The types of a value's containers, as the clauses on what a `&mut` lends name them. For private contracts.
use denote.RattleType.{RattleType}
use Rattle.std.specs.Prelude.{◌≡◌}
use Rattle.std.specs.contracts.alloc.Global as global
use Rattle.std.specs.contracts.vec.Vec as vec
use Rattle.std.specs.contracts.impls.GlobalAllocator.TheImpl.{ghosts}
use Rattle.std.specs.contracts.string.String as text
use Rattle.std.specs.contracts.collections.HashMap as map
use Rattle.std.specs.contracts.hash.BuildHasherDefault as builder
use Rattle.std.specs.contracts.hash.FoldHasher as fold
use Rattle.std.specs.contracts.impls.StringHash.TheImpl as hash
use Rattle.std.specs.contracts.impls.StringPartialEq.TheImpl as eq
use Rattle.std.specs.contracts.prelude.BuildHasherDefaultBuildHasher.TheImpl as build
use Rattle.std.specs.contracts.prelude.FoldHasherHasher.TheImpl as hasher
use Rattle.tinyjson.specs.contracts.value.JsonValue.{the_row}

abbrev pub array_row : RattleType
array_row = vec.the_row the_row global.the_row ghosts

abbrev pub object_row : RattleType
object_row =
    map.the_row (text.the_row global.the_row ghosts) the_row (builder.the_row fold.the_row) global.the_row fold.the_row
    (eq.ghosts global.the_row ghosts eq.no_dict eq.no_dict) (hash.ghosts global.the_row ghosts hash.no_dict hash.no_dict)
    (build.ghosts fold.the_row hasher.ghosts build.no_dict
    (record { is_clone = λ x y. y ≡ x; is_infallible = λ _. Unit {0} }) build.no_dict) hasher.ghosts ghosts
