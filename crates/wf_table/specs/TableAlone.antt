-- What one call makes of a block when it is made alone, as words: the block after, and status and results.
use Rattle.std.specs.Prelude.{◌≡◌, ℕ, ℤ, List}
use Rattle.ob_interface.specs.Call.{ObjectCall}
use Rattle.wf_table.specs.declared.engine_turn.EngineTurn.TheVariants.{Returned, Trapped}
use Rattle.wf_table.specs.Meaning.{Meaning, body, kept, kept_trap}

-- the body returns after some number of steps; or it traps, and the block is the old one
pub data EndsAlone {Run : Type 0} (m : Meaning Run) (call : ObjectCall) (before : List ℤ) : List ℤ → List ℤ → Type 0 where
  returns : (count : ℕ) → (body m count before call).turn ≡ Returned → EndsAlone m call before (body m count before call).block (kept m (body m count before call).run)
  traps : (count k : ℕ) → (body m count before call).turn ≡ Trapped k → EndsAlone m call before before (kept_trap m k)
