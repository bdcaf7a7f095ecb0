-- The calls that were read of texts are what workers are given.
use Rattle.std.proofs.Common.{◌<◌, ◌≤◌, ℕ, List, map, subst, sym}
use Rattle.ob_desk_serve.specs.PromisesOfServeTexts.{AreReadCalls}
use Rattle.ob_interface.specs.declared.processes.TheConstants.{MOST_PROCESSES}
use Rattle.ob_object_compile.specs.Asked.{Asked}
use Rattle.ob_object_compile.specs.Compilation.{ObjectParts}
use Rattle.ob_text_words.specs.ScriptCalls.{ScriptCall}

module _ (a : Asked) (scripts : List ℕ) (o : ObjectParts) (calls : List ScriptCall) (h : AreReadCalls a scripts o calls) where
  pub some : 0 < o.processes
  some = subst (λ (k : ℕ). 0 < k) (sym h.1.compiled.processes) h.1.compiled.some

  pub few : o.processes ≤ MOST_PROCESSES
  few = subst (λ (k : ℕ). k ≤ MOST_PROCESSES) (sym h.1.compiled.processes) h.1.compiled.few
