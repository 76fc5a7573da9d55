use Rattle.std.proofs.Common.{rules, refl, ◌∷◌}
use Rattle.std.specs.Fmt.{HasWritten}
use Rattle.tinyjson_number.specs.Text.{integer_text}
use Rattle.std.proofs.lemmas.Grind.{put_four, put_five}
use Rattle.tinyjson_number.proofs.Layouts.{ascii_front, ascii_back, four_parts, five_parts}
use Rattle.tinyjson_number.proofs.text.write_layout.Goals as goal

pub write_ascii-requires : goal.write_ascii-requires
write_ascii-requires g c = ascii_front c.args.layout.sign.now _ c.requires

pub write_ascii-requires-2 : goal.write_ascii-requires-2
write_ascii-requires-2 g c = let l = c.args.layout in ascii_front l.front.now _ (ascii_back l.sign.now _ c.requires)

pub write_ascii-requires-3 : goal.write_ascii-requires-3
write_ascii-requires-3 g c = let l = c.args.layout in ascii_front l.middle.now _
    (ascii_back l.front.now _ (ascii_back l.sign.now _ c.requires))

pub write_ascii-requires-4 : goal.write_ascii-requires-4
write_ascii-requires-4 g c = let l = c.args.layout in ascii_front l.back.now _
    (ascii_back l.middle.now _ (ascii_back l.front.now _ (ascii_back l.sign.now _ c.requires)))

pub returns-in-None : goal.returns-in-None
returns-in-None g c = λ plain ok.
    let a = c.in_ok-write_ascii.ensures plain refl in
    let b = c.in_ok-write_ascii-2.ensures a.plain refl in
    let d = c.in_ok-write_ascii-3.ensures b.plain refl in
    let e = c.in_ok-write_ascii-4.ensures d.plain refl in
    put_four g.W.Write.write_str_gives _ _ _ _ _ _ _ _ _ _ a b d e (four_parts c.args.layout c.in-None.is)

pub returns-in-Some : goal.returns-in-Some
returns-in-Some g c = λ plain ok.
    let a = c.in_ok-write_ascii.ensures plain refl in
    let b = c.in_ok-write_ascii-2.ensures a.plain refl in
    let d = c.in_ok-write_ascii-3.ensures b.plain refl in
    let e = c.in_ok-write_ascii-4.ensures d.plain refl in
    let n = c.in-Some.exponent in
    let w : HasWritten g.W.Write.write_str_gives c.write_ascii-4.new.f (101 ∷ integer_text n) c.write_exponent.new.f =
    let z = c.write_exponent.ensures e.plain ok in search rules in
    put_five g.W.Write.write_str_gives _ _ _ _ _ _ _ _ _ _ _ _ a b d e w (five_parts c.args.layout n c.in-Some.is)
