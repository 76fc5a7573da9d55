-- JSON Merge Patch (RFC 7396, section 2), over trees.
use Rattle.std.specs.Prelude.{Option, Some, None, unwrap_or}
use Rattle.tinyjson.specs.Tree.{Tree, null, object, Members, no_members, member, find, put, remove}

-- the members of an object; the contents of another target are ignored
abbrev pub members_of : Tree → Members
members_of (object ms) = ms
members_of _ = no_members

abbrev mutual
  -- `MergePatch(Target, Patch)`: a patch that is no object replaces the target
  pub merge_patch : Tree → Tree → Tree
  merge_patch t (object ps) = object (merge_members (members_of t) ps)
  merge_patch t p = p

  -- Each member of the patch in turn: null removes the member; another value is merged into the member or, if
  -- there is none, into null, which is no object.
  pub merge_members : Members → Members → Members
  merge_members ms no_members = ms
  merge_members ms (member k null ps) = merge_members (remove k ms) ps
  merge_members ms (member k p ps) = merge_members (put k (merge_patch (unwrap_or (find k ms) null) p) ms) ps

-- the member that one of the patch leaves, which is null or gives the merged r
abbrev pub left_by : Tree → Tree → Option Tree
left_by null r = None
left_by p r = Some r

-- what the merged members have at a key, where the target had o, and the patch has the second
abbrev pub merged_at : Option Tree → Option Tree → Option Tree
merged_at o None = o
merged_at o (Some p) = left_by p (merge_patch (unwrap_or o null) p)
