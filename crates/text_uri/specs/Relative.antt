-- The reference that leads from one path to another (RFC 3986, section 4.2).
use Rattle.std.specs.Prelude.{ℕ, ◌&&◌, ◌==◌, List, [], ◌∷◌, ◌++◌, cond, codes, length, drop}
use Rattle.text_uri.specs.Letters.{is_slash, through_last_slash}
use Rattle.text_uri.specs.Resolving.{begins_with_slash}

-- what both texts begin with
abbrev pub both_begin : List ℕ → List ℕ → List ℕ
both_begin (c ∷ cs) (d ∷ ds) = cond (c == d) (c ∷ both_begin cs ds) []
both_begin _ _ = []

-- the innermost folder that has both files
abbrev pub shared : List ℕ → List ℕ → List ℕ
shared base target = through_last_slash (both_begin base target)

-- `../` for each folder
abbrev pub ups : List ℕ → List ℕ
ups [] = []
ups (c ∷ cs) = cond (is_slash c) (codes "../" ++ ups cs) (ups cs)

-- out of the folders that do not have the target, and on to it
abbrev pub reference_past : ℕ → List ℕ → List ℕ → List ℕ
reference_past n base target = cond ((n == 0) && begins_with_slash target) target (ups (drop n base) ++ drop n target)

abbrev pub relative_reference : List ℕ → List ℕ → List ℕ
relative_reference base target = reference_past (length (shared base target)) base target
