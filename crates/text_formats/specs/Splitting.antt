-- For private contracts.
use Rattle.std.specs.Prelude.{ℕ, List, Option, option_map}
use denote.Ref.{Bor}
use Rattle.text_formats.specs.declared.uri.Parts.{Parts}
use Rattle.text_uri.specs.Parts as uri

abbrev pub now : Option (Bor (List ℕ)) → Option (List ℕ)
now part = option_map (λ x. x.now) part

-- the part and the rest
abbrev pub cut_now : Option (Bor (List ℕ)) × Bor (List ℕ) → uri.Cut
cut_now cut = (now cut.0, cut.1.now)

abbrev pub parts_of : Parts → uri.Parts
parts_of p = record {
  scheme = now p.scheme;
  authority = now p.authority;
  path = p.path.now;
  query = now p.query;
  fragment = now p.fragment;
}
