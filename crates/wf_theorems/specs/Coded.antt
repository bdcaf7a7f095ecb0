-- When two engines do the same.
use Rattle.std.specs.Prelude.{◌≡◌, ℤ, List}
use Rattle.ob_interface.specs.Call.{ObjectCall, Reply}
use Rattle.wf_table.specs.Law.{Effects}
use Rattle.wf_table.specs.Meaning.{Meaning}

-- the blocks, calls and runs that the first takes are taken by the other, and it does the same with them
pub record DoesTheSame {Run : Type 0} (m : Meaning Run) (lawful : List ℤ → Type 0) (fits : ObjectCall → Type 0) (ready : Run → Type 0) (Effect : Effects) (n : Meaning Run) (also_lawful : List ℤ → Type 0) (also_fits : ObjectCall → Type 0) (also_ready : Run → Type 0) (Also : Effects) : Type 0 where
  pub meaning : m ≡ n
  pub lawful_too : (block : List ℤ) → lawful block → also_lawful block
  pub fits_too : (call : ObjectCall) → fits call → also_fits call
  pub ready_too : (run : Run) → ready run → also_ready run
  pub effect : (call : ObjectCall) (block after : List ℤ) (reply : Reply) → Effect call block after reply → Also call block after reply

-- of some engines those of the same code do the same
abbrev pub DoSameByCode : {E Code Run : Type 0} → (code : E → Code) → (meaning : E → Meaning Run) → (lawful : E → List ℤ → Type 0) → (fits : E → ObjectCall → Type 0) → (ready : E → Run → Type 0) → (effect : E → Effects) → Type 0
DoSameByCode {E} code meaning lawful fits ready effect =
    (a b : E) → code a ≡ code b →
    DoesTheSame (meaning a) (lawful a) (fits a) (ready a) (effect a) (meaning b) (lawful b) (fits b) (ready b) (effect b)
