-- Reading an input to its end. For private contracts.
use Rattle.std.specs.Prelude.{◌≡◌, ℕ, List, Option, Result, MatchResult, ◌⊎◌}
use Rattle.std.specs.Io.KnownBytes.{Consumes, IsAtEnd}
use Rattle.std.specs.declared.alloc.Global.{Global}
use Rattle.std.specs.declared.vec.Vec.{Vec}
use Rattle.jsonnorm.specs.declared.fault.RunFault.{RunFault}
use Rattle.jsonnorm.specs.declared.fault.RunFault.TheVariants.{OutOfMemory, Reading}

-- These bytes were read, and they were all, or a read failed or there was no memory.
pub record ReadsToEnd (unread left : Option (List ℕ)) (result : Result (Vec ℕ Global) RunFault) : Type 0 where
  pub read : List ℕ
  pub taken : Consumes unread left read
  pub answer : MatchResult result (λ bytes. (bytes.items ≡ read) × IsAtEnd left) (λ e. (e ≡ OutOfMemory) ⊎ (e ≡ Reading))
