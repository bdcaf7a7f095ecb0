-- What holds of items and of runs by them, over each meaning of an engine.
use Rattle.std.specs.Prelude.{◌≡◌, ℕ, ℤ, List}
use Rattle.ob_interface.specs.Call.{ObjectCall}
use Rattle.ob_text_words.specs.declared.item.Item.{Item}
use Rattle.wf_play.specs.ItemSteps.{AreItemSteps, StandsFor}
use Rattle.wf_play.specs.Played.{IsPlayFault, IsPlayed}
use Rattle.wf_play.specs.declared.playing.PlayFault.TheVariants as Faults
use Rattle.wf_table.specs.declared.process.Sizes.{Sizes}
use Rattle.wf_table.specs.Meaning.{Meaning}
use Rattle.wf_table.specs.Object.{State}

module _ {Run : Type 0} (m : Meaning Run) where
  -- from one state an item stands for one number of steps
  abbrev pub ItemStandsForOneNumber : Type 0
  ItemStandsForOneNumber = (z : Sizes) (item : Item) (k other : ℕ) (s : State Run) → StandsFor m z item k s → StandsFor m z item other s → k ≡ other

  -- and items for one list of steps, which leads to one state
  abbrev pub ItemsStandForOneRun : Type 0
  ItemsStandForOneRun = (z : Sizes) (limit : ℕ) (items : List Item) (s after another : State Run) (steps others : List ℕ) →
      AreItemSteps m z limit items s steps after → AreItemSteps m z limit items s others another → (steps ≡ others) × (after ≡ another)

  -- blocks, calls and engines of which the meaning speaks
  module _ (lawful : List ℤ → Type 0) (fits : ObjectCall → Type 0) (ready : Run → Type 0) where
    -- where an item is too long, there is no run of the scripts and the items
    abbrev pub LongItemsAreNoRun : Type 0
    LongItemsAreNoRun = (n number : ℕ) (opening : List ℤ) (scripts : List (ℕ × ObjectCall)) (items : List Item) (s : State Run) →
        IsPlayFault m ready n opening scripts items (Faults.TooLong number) → IsPlayed m lawful fits ready n opening scripts items s → ⊥

    -- what runs of the same scripts and items, on objects that begin with one block, agree in
    abbrev pub AgreeIn : {A : Type 0} → (State Run → A) → Type 0
    AgreeIn shown = (n : ℕ) (opening : List ℤ) (scripts : List (ℕ × ObjectCall)) (items : List Item) (s other : State Run) →
        IsPlayed m lawful fits ready n opening scripts items s → IsPlayed m lawful fits ready n opening scripts items other → shown s ≡ shown other
