-- Examples of RFC 3986, sections 5.2.4 and 5.4, computed.
use Rattle.std.proofs.Common.{◌≡◌, Some, None, codes, refl}
use Rattle.text_uri.specs.Dots.{without_dots}
use Rattle.text_uri.specs.Parts.{split}
use Rattle.text_uri.specs.Resolving.{resolved, without_fragment, fragment_of}

split_all : split (codes "foo://example.com:8042/over/there?name=ferret#nose") ≡ record {
  scheme = Some (codes "foo");
  authority = Some (codes "example.com:8042");
  path = codes "/over/there";
  query = Some (codes "name=ferret");
  fragment = Some (codes "nose");
}
split_all = refl

split_urn : split (codes "urn:example:animal:ferret:nose") ≡ record {
  scheme = Some (codes "urn");
  authority = None;
  path = codes "example:animal:ferret:nose";
  query = None;
  fragment = None;
}
split_urn = refl

no_scheme : split (codes "a/b:c?#") ≡ record {
  scheme = None;
  authority = None;
  path = codes "a/b:c";
  query = Some (codes "");
  fragment = Some (codes "");
}
no_scheme = refl

dots_of_a_path : without_dots (codes "/a/b/c/./../../g") ≡ codes "/a/g"
dots_of_a_path = refl

dots_between : without_dots (codes "mid/content=5/../6") ≡ codes "mid/6"
dots_between = refl

up : resolved (codes "http://a/b/c/d;p?q") (codes "../g") ≡ codes "http://a/b/g"
up = refl

above_the_root : resolved (codes "http://a/b/c/d;p?q") (codes "../../../../g") ≡ codes "http://a/g"
above_the_root = refl

query_of_the_base : resolved (codes "http://a/b/c/d;p?q#f") (codes "#s") ≡ codes "http://a/b/c/d;p?q#s"
query_of_the_base = refl

no_fragment_of_the_base : resolved (codes "http://a/b/c/d;p?q#f") (codes "") ≡ codes "http://a/b/c/d;p?q"
no_fragment_of_the_base = refl

merged_behind_an_authority : resolved (codes "http://a") (codes "g") ≡ codes "http://a/g"
merged_behind_an_authority = refl

no_base : resolved (codes "") (codes "a/../b#c") ≡ codes "/b#c"
no_base = refl

-- texts that are split otherwise than into the parts that they are of
other_authority : resolved (codes "") (codes "/.//a") ≡ codes "//a"
other_authority = refl

other_scheme : resolved (codes "") (codes "./a:b") ≡ codes "a:b"
other_scheme = refl

first_mark : fragment_of (codes "a#b#c") ≡ Some (codes "b#c")
first_mark = refl

before_the_mark : without_fragment (codes "a#b#c") ≡ codes "a"
before_the_mark = refl
