-- For private contracts.
use Rattle.std.specs.Prelude.{ℕ, Bool, List, Option, option_map}
use denote.Ref.{Bor}
use Rattle.text_uri.specs.Letters.{is_slash, is_number_sign}
use Rattle.text_uri.specs.Parts.{Parts, Cut, ends_path, ends_authority, ends_scheme}
use Rattle.text_uri.specs.declared.parts.Reference.{Reference}
use Rattle.text_uri.specs.declared.cutting.End.{End}
use Rattle.text_uri.specs.declared.cutting.End.TheVariants as at

-- the part ends at the byte
abbrev pub ends : End → ℕ → Bool
ends at.Scheme = ends_scheme
ends at.Authority = ends_authority
ends at.Path = ends_path
ends at.Query = is_number_sign
ends at.Segment = is_slash

abbrev pub now : Option (Bor (List ℕ)) → Option (List ℕ)
now part = option_map (λ x. x.now) part

-- the part and the rest
abbrev pub cut_now : Option (Bor (List ℕ)) × Bor (List ℕ) → Cut
cut_now cut = (now cut.0, cut.1.now)

abbrev pub parts_of : Reference → Parts
parts_of r = record {
  scheme = now r.scheme;
  authority = now r.authority;
  path = r.path.now;
  query = now r.query;
  fragment = now r.fragment;
}
