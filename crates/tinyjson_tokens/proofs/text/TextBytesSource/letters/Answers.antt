use Rattle.std.proofs.Common.{rules, arith, ◌≡◌, ◌<◌, ◌++◌, ◌∷◌, true, [], ℕ, length, get_or, refl, sym, append-nil}
use Rattle.std.proofs.lemmas.Bool.Decides.{nat_tests}
use Rattle.std.specs.Char.{len_utf8}
use Rattle.std.proofs.lemmas.Str.{IsUtf8-had}
use Rattle.tinyjson_grammar.specs.Characters.{text}
use Rattle.tinyjson_bytes.specs.Scan.{is_plain}
use Rattle.tinyjson_tokens.proofs.Letters.{text_sight, printed_plain, run_ascii, run_run}
use Rattle.tinyjson_tokens.proofs.Slices.{ascii_next, char_boundary}
use Rattle.tinyjson_tokens.proofs.Sources.{Takes_nil}
use Rattle.tinyjson_tokens.proofs.text.TextBytesSource.letters.Goals as goal

pub loop-init : goal.loop-init
loop-init c = record {
  plain = record { taken = []; pass = tt; takes = Takes_nil text_sight c.args.self.now; added = sym (append-nil (text c.args.string.now)) };
  left = search (rules, arith);
}

pub returns-then-byte-lt32-clause-plain : goal.returns-then-byte-lt32-clause-plain
returns-then-byte-lt32-clause-plain c = run_run _ _ _ _ _ _ _ c.loop.invariant.plain c.plain.ensures.plain

pub invariant_of-self : goal.invariant_of-self
invariant_of-self c =
    let self = c.loop.self in
    let h : self.at < length self.text.now = search (rules, arith) in
    let b = get_or self.text.now self.at 0 in
    let low : b < 128 = search (rules, arith) in
    record {
      utf8 = self.utf8;
      boundary = char_boundary self.text.now (IsUtf8-had self.text.now self.utf8) self.at self.boundary b 1
          (ascii_next self.text.now self.at b h refl low) (small b low);
    }
  where
    small : (b : ℕ) → b < 128 → 1 ≡ len_utf8 b
    small b h = grind (arith, nat_tests, h)

pub loop-preserved : goal.loop-preserved
loop-preserved c =
    let self = c.loop.self in
    let h : self.at < length self.text.now = search (rules, arith) in
    let b = get_or self.text.now self.at 0 in
    let low : b < 128 = search (rules, arith) in
    let printed : is_plain b ≡ true = printed_plain b (search rules) (search rules) (search (rules, arith)) in
    let added : text c.push.new.string ≡ text c.loop.string ++ b ∷ [] = search rules in
    record {
      plain = run_ascii _ self _ _ _ _ b c.loop.invariant.plain h refl low refl refl printed added;
      left = omega (arith, c.loop.invariant.left);
    }

pub returns-clause-plain : goal.returns-clause-plain
returns-clause-plain c = run_run _ _ _ _ _ _ _ c.loop.invariant.plain c.plain-2.ensures.plain
