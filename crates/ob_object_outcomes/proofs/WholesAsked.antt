-- What is found by an exploration of an object with scripts, as what is said of these.
use Rattle.std.proofs.Common.{◌≡◌, ℕ, List, Option, refl, subst}
use Rattle.ob_interface.specs.Call.{ObjectCall, Reply}
use Rattle.ob_object_run.specs.LegalOrder.{CallEnds}
use Rattle.ob_object_outcomes.proofs.OutcomesAsked.{fails_here}
use Rattle.ob_object_outcomes.specs.Asking.{IsAsked, IsFailing, SaysNoQuestion}
use Rattle.ob_object_outcomes.specs.OutcomesFaults.{of_exploring}
use Rattle.ob_object_outcomes.specs.Scripted.{ScriptedParts}
use Rattle.ob_object_outcomes.specs.declared.finding.OutcomesFault.{OutcomesFault}
use Rattle.ob_object_outcomes.specs.declared.finding.OutcomesFault.TheVariants as Faults
use Rattle.ob_object_outcomes.specs.Wholes.{AreWholesPlaced, HasManyTold, IsWholesFaultHere, IsWholesTrouble}
use Rattle.ob_meaning.specs.ByPositionStore.{Activation}
use Rattle.ob_text_words.specs.Words.{Word}
use Rattle.ob_typing.specs.Program.{Program}
use Rattle.wf_outcomes.specs.declared.exploring.ExploreFault.{ExploreFault}
use Rattle.wf_outcomes.specs.declared.exploring.ExploreFault.TheVariants as Explore
use Rattle.wf_outcomes.specs.Explored.{HasMore}
use Rattle.wf_outcomes.specs.OutcomeOrders.{IsItself}
use Rattle.wf_whole_outcomes.proofs.Merging.{more_told_by}
use Rattle.wf_whole_outcomes.specs.Tellings.{HasMoreTold}
use Rattle.wf_whole_outcomes.specs.Wholes.{AreWholes, WholeTold}

-- what is said of a program, a budget, scripts and an opening is said of an object with scripts whose these are
module _ (s : ScriptedParts) (program : Program) (budget : ℕ) (scripts : List (List ObjectCall)) (opening : Activation)
    (program_is : program ≡ s.object.program) (budget_is : budget ≡ s.object.engine.budget) (scripts_are : scripts ≡ s.scripts) (opening_is : opening ≡ s.object.opening) where
  moved : (P : Program → ℕ → List (List ObjectCall) → Activation → Type 0) → P program budget scripts opening → P s.object.program s.object.engine.budget s.scripts s.object.opening
  moved P h =
      subst (λ (o : Activation). P s.object.program s.object.engine.budget s.scripts o) opening_is
      (subst (λ (calls : List (List ObjectCall)). P s.object.program s.object.engine.budget calls opening) scripts_are
      (subst (λ (b : ℕ). P s.object.program b scripts opening) budget_is
      (subst (λ (p : Program). P p budget scripts opening) program_is h)))

  pub wholes_placed : (wholes : List (WholeTold Activation Reply)) → ∥ AreWholes IsItself (CallEnds program budget) scripts opening wholes ∥₁ → AreWholesPlaced s wholes
  wholes_placed wholes h = moved (λ p b calls a. ∥ AreWholes IsItself (CallEnds p b) calls a wholes ∥₁) h

  many_placed : (most : ℕ) → ∥ HasMoreTold (CallEnds program budget) scripts opening most ∥₁ → HasManyTold s most
  many_placed most h = moved (λ p b calls a. ∥ HasMoreTold (CallEnds p b) calls a most ∥₁) h

  pub exploring_told : (asked : Option Word) (most : ℕ) (e : ExploreFault) → (e ≡ Explore.TooMany → HasMore (CallEnds program budget) scripts opening most) → IsWholesFaultHere s asked most (of_exploring e)
  exploring_told asked most Explore.TooMany h = many_placed most ∣ more_told_by (CallEnds program budget) scripts opening most (h refl) ∣₁
  exploring_told asked most Explore.NoMemory h = tt

  pub trouble_here : (asked : Option Word) (question : Option ℕ) (most : ℕ) (e : OutcomesFault) → IsAsked s asked question → IsWholesTrouble (CallEnds program budget) scripts opening question most e →
      IsWholesFaultHere s asked most e
  trouble_here asked question most (Faults.Texts e) is h = absurd h
  trouble_here asked question most Faults.NoQuestion is h = absurd h
  trouble_here asked question most Faults.TooMany is h = many_placed most h
  trouble_here asked question most (Faults.NotAlways path) is h =
      fails_here s program budget scripts opening program_is budget_is scripts_are opening_is asked question most (Faults.NotAlways path) is h
  trouble_here asked question most Faults.NoMemory is h = tt

pub none_asked : (s : ScriptedParts) (asked : Option Word) (most : ℕ) (e : OutcomesFault) → SaysNoQuestion s asked e → IsWholesFaultHere s asked most e
none_asked s asked most (Faults.Texts e) h = absurd h
none_asked s asked most Faults.NoQuestion h = h
none_asked s asked most Faults.TooMany h = absurd h
none_asked s asked most (Faults.NotAlways path) h = absurd h
none_asked s asked most Faults.NoMemory h = absurd h

-- the trouble of a search that was told, and of a question
module _ {State : Type 0} (Effect : ObjectCall → State → State → Reply → Type 0) (scripts : List (List ObjectCall)) (opening : State) (question : Option ℕ) (most : ℕ) where
  pub failing_is : (e : OutcomesFault) → IsFailing Effect scripts opening question e → IsWholesTrouble Effect scripts opening question most e
  failing_is (Faults.Texts e) h = absurd h
  failing_is Faults.NoQuestion h = absurd h
  failing_is Faults.TooMany h = absurd h
  failing_is (Faults.NotAlways path) h = h
  failing_is Faults.NoMemory h = tt

  pub telling_is : (e : ExploreFault) → (e ≡ Explore.TooMany → ∥ HasMoreTold Effect scripts opening most ∥₁) → IsWholesTrouble Effect scripts opening question most (of_exploring e)
  telling_is Explore.TooMany h = h refl
  telling_is Explore.NoMemory h = tt
