-- What is found of an object with scripts, as what is answered of bytes.
use Rattle.std.proofs.Common.{◌≡◌, ℕ, List, Option, Some, None, ap, subst}
use Rattle.std.proofs.Math.Logic.{∥∥₁_map}
use Rattle.std.specs.Prelude.{IfSome}
use Rattle.ob_meaning.specs.Resolved.{IsResolved}
use Rattle.ob_checked.specs.Exports.{signatures}
use Rattle.ob_code_correct.specs.CodeMeaning.{EngineParts}
use Rattle.ob_interface.specs.Export.{CallFits}
use Rattle.ob_object_compile.proofs.Openings.{module_resolved}
use Rattle.ob_object_compile.specs.Asked.{Asked}
use Rattle.ob_object_run.specs.LegalOrder.{CallEnds}
use Rattle.ob_object_outcomes.proofs.OutcomesCrossing.{always_named, first_named, outcomes_named}
use Rattle.ob_object_outcomes.proofs.Fitting.{each_fits, question_fits}
use Rattle.ob_object_outcomes.proofs.OutcomesSimulated.{EachFits}
use Rattle.ob_object_outcomes.specs.Outcomes.{AlwaysHere, AreOutcomesOf, ArePlaced, HoldsAlways}
use Rattle.ob_object_outcomes.specs.OutcomesFaults.{IsFaultHere, IsOutcomesFault}
use Rattle.ob_object_outcomes.specs.Questions.{FailsFirst, Holds}
use Rattle.ob_object_outcomes.specs.Scripted.{AreFitting, IsScripted, ScriptedParts}
use Rattle.ob_object_outcomes.specs.OutcomesView.{Outcomes}
use Rattle.ob_object_outcomes.specs.declared.finding.OutcomesFault.{OutcomesFault}
use Rattle.ob_object_outcomes.specs.declared.finding.OutcomesFault.TheVariants as Faults
use Rattle.ob_text_words.specs.Words.{Word}
use Rattle.wf_outcomes.specs.Outcomes.{AlwaysGood}
use Rattle.wf_outcomes.specs.OutcomeOrders.{AreOutcomes, IsItself}

module _ (a : Asked) (script : List ℕ) (s : ScriptedParts) (is : IsScripted a script s) (fit : AreFitting s) where
  resolved : IsResolved s.object.program
  resolved = module_resolved a.text s.object.program is.compiled.is_module

  budget_is : s.object.engine.budget ≡ a.budget
  budget_is = ap (λ (e : EngineParts). e.budget) is.compiled.engine_is

  each : EachFits (CallFits (signatures s.object.program)) s.scripts
  each = each_fits (CallFits (signatures s.object.program)) s.scripts fit

  pub outcomes_are : (o : Outcomes) → ArePlaced s o → AreOutcomesOf a script s o
  outcomes_are o h = record {
    scripted = is;
    outcomes = outcomes_named s.object.program a.budget resolved s.scripts each is.compiled.opens.state s.object.opening is.compiled.opens.same o.calls o.ends
        (subst (λ (b : ℕ). AreOutcomes IsItself (CallEnds s.object.program b) s.scripts s.object.opening o.calls o.ends) budget_is h);
  }

  always_is : (name : Word) → AlwaysHere s name → HoldsAlways a script s name
  always_is name h = record {
    scripted = is;
    number = h.number;
    question = h.question;
    always = ∥∥₁_map
        (subst (λ (b : ℕ). ∥ AlwaysGood (CallEnds s.object.program b) s.scripts s.object.opening (Holds (CallEnds s.object.program b) h.number) ∥₁) budget_is h.always)
        (always_named s.object.program a.budget resolved s.scripts each is.compiled.opens.state s.object.opening is.compiled.opens.same h.number
        (question_fits (signatures s.object.program) name h.number h.question));
  }

  pub always_all : (asked : Option Word) → IfSome asked (AlwaysHere s) → IfSome asked (HoldsAlways a script s)
  always_all None h = tt
  always_all (Some name) h = always_is name h

  pub fault_is : (asked : Option Word) (most : ℕ) (e : OutcomesFault) → IsFaultHere s asked most e → IsOutcomesFault a script asked most e
  fault_is asked most (Faults.Texts e) h = absurd h
  fault_is asked most Faults.NoQuestion h = record { parts = s; scripted = is; asks = h }
  fault_is asked most Faults.TooMany h = record { parts = s; scripted = is; many = h }
  fault_is asked most (Faults.NotAlways path) h = record {
    parts = s;
    scripted = is;
    name = h.name;
    is = h.is;
    number = h.number;
    question = h.question;
    first = ∥∥₁_map
        (subst (λ (b : ℕ). ∥ FailsFirst (CallEnds s.object.program b) s.scripts s.object.opening (Holds (CallEnds s.object.program b) h.number) path.items ∥₁) budget_is h.first)
        (first_named s.object.program a.budget resolved s.scripts each is.compiled.opens.state s.object.opening is.compiled.opens.same h.number
        (question_fits (signatures s.object.program) h.name h.number h.question) path.items);
  }
  fault_is asked most Faults.NoMemory h = tt
