use Rattle.std.proofs.Common.{rules, arith, ◌≡◌, sym, [], ap}
use Rattle.std.proofs.lemmas.Result.{err_from_is_err_and}
use Rattle.tinyjson_grammar.specs.Characters.{text}
use Rattle.tinyjson_grammar.specs.Machine.{next, quoted, plain}
use Rattle.tinyjson_tokens.specs.Steps.{within}
use Rattle.tinyjson_tokens.proofs.Reading.Steps.{Leads_nil, Leads_to, Leads_trans, Refuses_after}
use Rattle.tinyjson_tokens.proofs.reader.TokenReader.pieces.Goals as goal

pub loop-units-init : goal.loop-units-init
loop-units-init g c =
    let sight = g.S.Source.sight in
    let b : c.clear.new.self.items ≡ [] = search rules in
    record {
      reads = λ limit fs. Leads_to sight limit _ _ (Leads_nil sight limit _ _)
          (ap (λ y. next fs (quoted plain (text c.args.buffer.now) y)) (sym b));
      left = search rules;
    }

pub returns-in_err-piece-clause-reads : goal.returns-in_err-piece-clause-reads
returns-in_err-piece-clause-reads g c = λ limit fs.
    let sight = g.S.Source.sight in
    let p = err_from_is_err_and c.from_residual.result c.from_residual.ensures.1 in
    rw (p.1, p.2) (Refuses_after sight limit _ _ _ _ (c.loop-units.invariant.reads limit fs) (c.in_err-piece.ensures.reads limit fs))

pub returns-in_err-settle-clause-reads : goal.returns-in_err-settle-clause-reads
returns-in_err-settle-clause-reads g c = λ limit fs.
    let sight = g.S.Source.sight in
    let p = err_from_is_err_and c.from_residual-in_err-settle.result c.from_residual-in_err-settle.ensures.1 in
    let a = ap (within fs c.piece.new.string c.piece.new.units.items) c.if-not-branch.true in
    let l = Leads_trans sight limit _ _ _ (c.loop-units.invariant.reads limit fs)
    (Leads_to sight limit _ _ (c.in_ok-piece.ensures.reads limit fs) a) in
    rw (p.1, p.2) (Refuses_after sight limit _ _ _ _ l (c.in_err-settle.ensures.reads limit fs))

pub returns-in_err-plain-clause-reads : goal.returns-in_err-plain-clause-reads
returns-in_err-plain-clause-reads g c = λ limit fs.
    let sight = g.S.Source.sight in
    let p = err_from_is_err_and c.from_residual-in_err-plain.result c.from_residual-in_err-plain.ensures.1 in
    let a = ap (within fs c.piece.new.string c.piece.new.units.items) c.if-not-branch.true in
    let b = ap (λ us. next fs (quoted plain (text c.settle.new.string) us)) (sym c.as_slice.ensures.value) in
    let l = Leads_trans sight limit _ _ _ (c.loop-units.invariant.reads limit fs)
    (Leads_to sight limit _ _ (c.in_ok-piece.ensures.reads limit fs) a) in
    let m = Leads_trans sight limit _ _ _ l (Leads_to sight limit _ _ (c.in_ok-settle.ensures.reads limit fs) b) in
    rw (p.1, p.2) (Refuses_after sight limit _ _ _ _ m (c.in_err-plain.ensures.reads limit fs))

pub loop-units-preserved : goal.loop-units-preserved
loop-units-preserved g c =
    let sight = g.S.Source.sight in
    record {
      reads = λ limit fs.
          let a = ap (within fs c.piece.new.string c.piece.new.units.items) c.if-not-branch.true in
          let b = ap (λ us. next fs (quoted plain (text c.settle.new.string) us)) (sym c.as_slice.ensures.value) in
          let d = ap (λ us. next fs (quoted plain (text c.plain.new.string) us)) c.as_slice.ensures.value in
          let l = Leads_trans sight limit _ _ _ (c.loop-units.invariant.reads limit fs)
          (Leads_to sight limit _ _ (c.in_ok-piece.ensures.reads limit fs) a) in
          let m = Leads_trans sight limit _ _ _ l (Leads_to sight limit _ _ (c.in_ok-settle.ensures.reads limit fs) b) in
          Leads_trans sight limit _ _ _ m (Leads_to sight limit _ _ (c.in_ok-plain.ensures.reads limit fs) d);
      left = omega (arith, c.piece.ensures.left, c.settle.ensures.left, c.plain.ensures.left, c.loop-units.invariant.left);
    }

pub returns-clause-reads : goal.returns-clause-reads
returns-clause-reads g c = λ limit fs.
    let sight = g.S.Source.sight in
    Leads_trans sight limit _ _ _ (c.loop-units.invariant.reads limit fs)
    (Leads_to sight limit _ _ (c.in_ok-piece.ensures.reads limit fs)
    (ap (within fs c.piece.new.string c.piece.new.units.items) c.if-not-branch.false))
