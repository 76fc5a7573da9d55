-- The field says only that a proof of `Ready` exists. An entailment is a proposition, so the proof may be opened in front of the walk that
-- Rattle made.
use seplogic.Bi.Basic.{Entails-prop}
use mathlib.Core.Logic.{∥∥₁_elim}
use base.Logic.{via, mono_r}
use denote.Triple.Entry.{on_entry}
use borrow.Fn.Kinds.{sig_of}
use contract.Monad.{fact_mono}
use Rattle.tinyjson_tokens.specs.Cursor.{Ready}
use Rattle.tinyjson_tokens.proofs.cursor.Characters.ready.Statement.{statement}
use Rattle.tinyjson_tokens.proofs.cursor.Characters.ready.Lts as lts
use Rattle.tinyjson_tokens.proofs.cursor.Characters.ready.Reads as reads
use Rattle.tinyjson_tokens.proofs.cursor.Characters.ready.Tie as tie

pub ready_spec : {M : Type 1} → statement M
ready_spec {M} = tie.close (λ I L g d dd w met dropped 𝓤 𝓛 𝓣 y. ∥∥₁_elim y.0.3.0.now.ready (Entails-prop 𝓤.op _ _) (λ is.
    via 𝓤 _ (mono_r 𝓤 (on_entry 𝓛 (sig_of 2 (lts.ps I L g d dd) (lts.r I L g d dd)) y.0.0 y.0.1 y.0.3 y.0.4)
    (fact_mono 𝓤 _ (Ready g.can_next g.remaining y.0.3.0.now.cursor) (λ _. is)))
    (lts.spec I L g d dd (λ κs a. Ready g.can_next g.remaining a.0.now.cursor) (reads.Post I L g d dd) (λ c. c.requires) 𝓤 𝓛 𝓣 y)))
