-- What is found of an object with scripts, as what is answered of bytes.
use Rattle.std.proofs.Common.{◌≡◌, ℕ, List, Option, ap, subst}
use Rattle.std.proofs.Math.Logic.{∥∥₁_map}
use Rattle.ob_meaning.specs.Resolved.{IsResolved}
use Rattle.ob_checked.specs.Exports.{signatures}
use Rattle.ob_code_correct.specs.CodeMeaning.{EngineParts}
use Rattle.ob_interface.specs.Call.{Reply}
use Rattle.ob_interface.specs.Export.{CallFits}
use Rattle.ob_object_compile.proofs.Openings.{module_resolved}
use Rattle.ob_object_compile.specs.Asked.{Asked}
use Rattle.ob_object_run.specs.LegalOrder.{CallEnds}
use Rattle.ob_object_outcomes.proofs.Fitting.{each_fits}
use Rattle.ob_object_outcomes.proofs.OutcomesNamed.{fault_is}
use Rattle.ob_object_outcomes.proofs.OutcomesSimulated.{EachFits}
use Rattle.ob_object_outcomes.specs.Scripted.{AreFitting, IsScripted, ScriptedParts}
use Rattle.ob_object_outcomes.specs.declared.finding.OutcomesFault.{OutcomesFault}
use Rattle.ob_object_outcomes.specs.declared.finding.OutcomesFault.TheVariants as Faults
use Rattle.ob_object_outcomes.specs.OutcomesFaults.{of_texts}
use Rattle.ob_object_calls.specs.SequentialRun.{IsSeqRefusal}
use Rattle.ob_object_calls.specs.declared.sequential.SeqTextFault.{SeqTextFault}
use Rattle.ob_object_calls.specs.declared.sequential.SeqTextFault.TheVariants as Seq
use Rattle.ob_object_outcomes.proofs.WholesCrossing.{wholes_named}
use Rattle.ob_object_outcomes.specs.Wholes.{AreWholesOf, AreWholesPlaced, IsWholesFault, IsWholesFaultHere}
use Rattle.ob_meaning.specs.ByPositionStore.{Activation}
use Rattle.ob_text_words.specs.Words.{Word}
use Rattle.wf_outcomes.specs.OutcomeOrders.{IsItself}
use Rattle.wf_whole_outcomes.specs.Wholes.{AreWholes, WholeTold}

module _ (a : Asked) (script : List ℕ) (s : ScriptedParts) (is : IsScripted a script s) (fit : AreFitting s) where
  resolved : IsResolved s.object.program
  resolved = module_resolved a.text s.object.program is.compiled.is_module

  budget_is : s.object.engine.budget ≡ a.budget
  budget_is = ap (λ (e : EngineParts). e.budget) is.compiled.engine_is

  each : EachFits (CallFits (signatures s.object.program)) s.scripts
  each = each_fits (CallFits (signatures s.object.program)) s.scripts fit

  pub wholes_are : (wholes : List (WholeTold Activation Reply)) → AreWholesPlaced s wholes → AreWholesOf a script s wholes
  wholes_are wholes h = record {
    scripted = is;
    wholes = ∥∥₁_map (subst (λ (b : ℕ). ∥ AreWholes IsItself (CallEnds s.object.program b) s.scripts s.object.opening wholes ∥₁) budget_is h)
        (wholes_named s.object.program a.budget resolved s.scripts each is.compiled.opens.state s.object.opening is.compiled.opens.same wholes);
  }

  pub wholes_fault_is : (asked : Option Word) (most : ℕ) (e : OutcomesFault) → IsWholesFaultHere s asked most e → IsWholesFault a script asked most e
  wholes_fault_is asked most (Faults.Texts e) h = absurd h
  wholes_fault_is asked most Faults.NoQuestion h = fault_is a script s is fit asked most Faults.NoQuestion h
  wholes_fault_is asked most Faults.TooMany h = record { parts = s; scripted = is; many = h }
  wholes_fault_is asked most (Faults.NotAlways path) h = fault_is a script s is fit asked most (Faults.NotAlways path) h
  wholes_fault_is asked most Faults.NoMemory h = tt

pub wholes_texts_told : (a : Asked) (script : List ℕ) (asked : Option Word) (most : ℕ) (e : SeqTextFault) → IsSeqRefusal a script e → IsWholesFault a script asked most (of_texts e)
wholes_texts_told a script asked most (Seq.Compile e) h = (h, λ same. cc)
wholes_texts_told a script asked most (Seq.Script e) h = (h, λ same. cc)
wholes_texts_told a script asked most Seq.NoMemory h = tt
