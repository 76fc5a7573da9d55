use Rattle.std.proofs.Common.{◌∙◌, sym}
use Rattle.text_regexp.proofs.Automata.{same_list, state_had}
use Rattle.text_regexp.proofs.automaton.Automaton.place_of.Goals as goal

pub returns : goal.returns
returns c =
    let s = c.in_ok-known.known.now in
    let l = c.in_ok-known.ensures.lookup in (
      s,
      state_had c.args.self.now.states.items c.deref.result.now c.in_ok-place.place s c.deref.ensures.value l.3.0 l.1,
      sym c.as_slice.ensures.value ∙ (same_list c.as_slice.result.now c.as_slice-2.result.now c.ne.result c.ne.ensures c.if-ne.false
          ∙ c.as_slice-2.ensures.value),
    )
