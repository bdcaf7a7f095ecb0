-- What holds of the calls that values of the program stand for holds of the values.
use Rattle.std.proofs.Common.{◌≡◌, ◌<◌, ℕ, List, All, map, sym, subst}
use Rattle.std.specs.Prelude.{slice_index_or}
use Rattle.std.proofs.lemmas.List.{length-map}
use Rattle.std.proofs.Math.ListN.{get_or-map}
use Rattle.ob_code_correct.specs.CodeMeaning.{EngineParts}
use Rattle.ob_code_correct.specs.Compiled.{Fits, IsFitting}
use Rattle.ob_object_compile.specs.Compilation.{ObjectParts}
use Rattle.ob_object_compile.specs.Sound.{IsSoundObject}
use Rattle.ob_object_perform.proofs.PerformObjects.{fits_engine}
use Rattle.ob_text_words.specs.ScriptCalls
use Rattle.ob_text_words.specs.ScriptCalls.{object_call, script_call_of}
use Rattle.ob_text_words.specs.declared.script_call.ScriptCall.{ScriptCall}

All_unmapped : (P : ScriptCalls.ScriptCall → Type 0) (xs : List ScriptCall) (calls : List ScriptCalls.ScriptCall) → map script_call_of xs ≡ calls → All P calls → All (λ x. P (script_call_of x)) xs
All_unmapped P xs calls same h =
    let mapped = subst (λ (cs : List ScriptCalls.ScriptCall). All P cs) (sym same) h in
    λ k d below. subst P (get_or-map script_call_of xs k d) (mapped k (script_call_of d) (rw length-map below))

-- so of the calls of an object's run what a machine asks for
module _ (o : ObjectParts) (calls : List ScriptCalls.ScriptCall) (made : List ScriptCall) (made_are : map script_call_of made ≡ calls) where
  pub callers_below : (n : ℕ) → n ≡ o.processes → All (λ c. c.process < o.processes) calls → All (λ c. c.process < n) made
  callers_below n n_is below =
      All_unmapped (λ c. c.process < n) made calls made_are (subst (λ (k : ℕ). All (λ c. c.process < k) calls) (sym n_is) below)

  pub fit_engine : IsSoundObject o → (parts : EngineParts) → parts ≡ o.engine → All (λ c. Fits o.program (object_call c)) calls →
      All (λ c. IsFitting parts.exports (object_call (script_call_of c))) made
  fit_engine sound parts parts_are fit =
      All_unmapped (λ c. IsFitting parts.exports (object_call c)) made calls made_are
      (λ k d below. subst (λ (e : EngineParts). IsFitting e.exports (object_call (slice_index_or calls k d))) (sym parts_are)
      (fits_engine o sound (object_call (slice_index_or calls k d)) (fit k d below)))
