-- What is found by an exploration of an object with scripts, as what is said of these.
use Rattle.std.proofs.Common.{◌≡◌, ℕ, List, Option, Some, None, subst, refl}
use Rattle.std.specs.Prelude.{IfSome}
use Rattle.ob_interface.specs.Call.{ObjectCall}
use Rattle.ob_object_run.specs.LegalOrder.{CallEnds}
use Rattle.ob_object_outcomes.specs.Asking.{IsAsked, IsFailing, SaysNoQuestion}
use Rattle.ob_object_outcomes.specs.Outcomes.{AlwaysHere, ArePlaced}
use Rattle.ob_object_outcomes.specs.OutcomesFaults.{HasMany, IsFaultHere}
use Rattle.ob_object_outcomes.specs.Questions.{FailsFirst, Holds}
use Rattle.ob_object_outcomes.specs.Scripted.{ScriptedParts}
use Rattle.ob_object_outcomes.specs.OutcomesView.{Outcomes}
use Rattle.ob_object_outcomes.specs.declared.finding.OutcomesFault.{OutcomesFault}
use Rattle.ob_object_outcomes.specs.declared.finding.OutcomesFault.TheVariants as Faults
use Rattle.ob_meaning.specs.ByPositionStore.{Activation}
use Rattle.ob_text_words.specs.Words.{Word}
use Rattle.ob_typing.specs.Program.{Program}
use Rattle.wf_outcomes.specs.Explored.{HasMore}
use Rattle.wf_outcomes.specs.Outcomes.{AlwaysGood}
use Rattle.wf_outcomes.specs.OutcomeOrders.{AreOutcomes, IsItself}

-- what is said of a program, a budget, scripts and an opening is said of an object with scripts whose these are
module _ (s : ScriptedParts) (program : Program) (budget : ℕ) (scripts : List (List ObjectCall)) (opening : Activation)
    (program_is : program ≡ s.object.program) (budget_is : budget ≡ s.object.engine.budget) (scripts_are : scripts ≡ s.scripts) (opening_is : opening ≡ s.object.opening) where
  moved : (P : Program → ℕ → List (List ObjectCall) → Activation → Type 0) → P program budget scripts opening → P s.object.program s.object.engine.budget s.scripts s.object.opening
  moved P h =
      subst (λ (o : Activation). P s.object.program s.object.engine.budget s.scripts o) opening_is
      (subst (λ (calls : List (List ObjectCall)). P s.object.program s.object.engine.budget calls opening) scripts_are
      (subst (λ (b : ℕ). P s.object.program b scripts opening) budget_is
      (subst (λ (p : Program). P p budget scripts opening) program_is h)))

  pub placed_are : (o : Outcomes) → AreOutcomes IsItself (CallEnds program budget) scripts opening o.calls o.ends → ArePlaced s o
  placed_are o h = moved (λ p b calls a. AreOutcomes IsItself (CallEnds p b) calls a o.calls o.ends) h

  pub many_are : (asked : Option Word) (most : ℕ) → HasMore (CallEnds program budget) scripts opening most → HasMany s asked most
  many_are asked most h = moved (λ p b calls a. HasMore (CallEnds p b) calls a most) h

  pub always_here : (asked : Option Word) (question : Option ℕ) → IsAsked s asked question →
      IfSome question (λ number. ∥ AlwaysGood (CallEnds program budget) scripts opening (Holds (CallEnds program budget) number) ∥₁) → IfSome asked (AlwaysHere s)
  always_here None question is h = tt
  always_here (Some name) None is h = absurd is
  always_here (Some name) (Some number) is h = record {
    number = number;
    question = is;
    always = moved (λ p b calls a. ∥ AlwaysGood (CallEnds p b) calls a (Holds (CallEnds p b) number) ∥₁) h;
  }

  pub fails_here : (asked : Option Word) (question : Option ℕ) (most : ℕ) (e : OutcomesFault) → IsAsked s asked question → IsFailing (CallEnds program budget) scripts opening question e → IsFaultHere s asked most e
  fails_here asked question most (Faults.Texts e) is h = absurd h
  fails_here asked question most Faults.NoQuestion is h = absurd h
  fails_here asked question most Faults.TooMany is h = absurd h
  fails_here None question most (Faults.NotAlways path) is h = absurd (none_asked question is h.1)
    where
      none_asked : (q : Option ℕ) → IsAsked s None q → q ≡ Some h.0 → ⊥
      none_asked None is some = cc
      none_asked (Some number) is some = is
  fails_here (Some name) question most (Faults.NotAlways path) is h = record {
    name = name;
    is = refl;
    number = h.0;
    question = subst (IsAsked s (Some name)) h.1 is;
    first = moved (λ p b calls a. ∥ FailsFirst (CallEnds p b) calls a (Holds (CallEnds p b) h.0) path.items ∥₁) h.2;
  }
  fails_here asked question most Faults.NoMemory is h = tt

pub no_question : (s : ScriptedParts) (asked : Option Word) (most : ℕ) (e : OutcomesFault) → SaysNoQuestion s asked e → IsFaultHere s asked most e
no_question s asked most (Faults.Texts e) h = absurd h
no_question s asked most Faults.NoQuestion h = h
no_question s asked most Faults.TooMany h = absurd h
no_question s asked most (Faults.NotAlways path) h = absurd h
no_question s asked most Faults.NoMemory h = absurd h
