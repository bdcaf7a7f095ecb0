-- What the items of a schedule stand for, at the states where they begin: steps of one process.
use Rattle.std.specs.Prelude.{◌≡◌, ℕ, zero, suc, ◌-◌, ◌<◌, ◌≤◌, ◌⊎◌, Bool, true, false, List, [], ◌∷◌, ◌++◌, replicate, slice_get, Some, take}
use Rattle.ob_text_words.specs.declared.item.Item.{Item}
use Rattle.ob_text_words.specs.declared.item.Item.TheVariants as Items
use Rattle.ob_text_words.specs.Schedule.{process_of}
use Rattle.wf_object.specs.Halted.{is_halted}
use Rattle.wf_object.specs.InARow.{after_steps}
use Rattle.wf_table.specs.declared.process.Sizes.{Sizes}
use Rattle.wf_table.specs.Meaning.{Meaning}
use Rattle.wf_table.specs.Object.{Answer, Replies, State, answer_of, label_of}
use Rattle.wf_table.specs.Schedule.{steps_of}

-- a step's answer is the reply to a call
abbrev pub IsReply : Answer → Type 0
IsReply (Replies id reply) = Unit {0}
IsReply _ = ⊥

module _ {Run : Type 0} (m : Meaning Run) (z : Sizes) where
  -- the last of so many steps answers
  abbrev pub EndsWithAnswer : ℕ → ℕ → State Run → Type 0
  EndsWithAnswer p zero s = ⊥
  EndsWithAnswer p (suc k) s = IsReply (answer_of m z (after_steps m z p k s) p)

  abbrev pub IsHaltedAfter : ℕ → ℕ → State Run → Type 0
  IsHaltedAfter p k s = is_halted (after_steps m z p k s) p ≡ true

  -- p*count ends after so many steps; p:LABEL where p stands at the label, or is halted; p! where p answers, or is halted
  abbrev pub IsAtEnd : Item → ℕ → State Run → Type 0
  IsAtEnd (Items.Steps p count) k s = k ≡ count
  IsAtEnd (Items.Until p label) k s = (label_of (after_steps m z p k s) p ≡ label) ⊎ IsHaltedAfter p k s
  IsAtEnd (Items.ToAnswer p) k s = EndsWithAnswer p k s ⊎ IsHaltedAfter p k s

  -- an item stands for the least number of steps after which it is at its end
  pub record StandsFor (item : Item) (k : ℕ) (s : State Run) : Type 0 where
    pub ends : IsAtEnd item k s
    pub least : (j : ℕ) → j < k → IsAtEnd item j s → ⊥

  -- it stands for no number of steps up to the limit
  abbrev pub IsBeyond : ℕ → Item → State Run → Type 0
  IsBeyond limit item s = (k : ℕ) → k ≤ limit → IsAtEnd item k s → ⊥

  -- the steps that the item stands for, within the limit, lead from one state to the other, and the schedule is longer by them
  pub record IsItemRun (limit : ℕ) (item : Item) (s after : State Run) : Type 0 where
    pub steps : ℕ
    pub stands : StandsFor item steps s
    pub few : steps ≤ limit
    pub leads : after ≡ after_steps m z (process_of item) steps s
    pub turns : steps_of after.records.schedule ≡ steps_of s.records.schedule ++ replicate steps (process_of item)

  -- an item is played to its end, or stands for too many steps
  abbrev pub IsItemPlayed : ℕ → Item → State Run → Bool → State Run → Type 0
  IsItemPlayed limit item s true after = IsItemRun limit item s after
  IsItemPlayed limit item s false after = IsBeyond limit item s

  -- items one after the other, each of at most so many steps: from one state, the process of each step, to another state
  pub data AreItemSteps (limit : ℕ) : List Item → State Run → List ℕ → State Run → Type 0 where
    none : {s : State Run} → AreItemSteps limit [] s [] s
    more : {item : Item} {items : List Item} {k : ℕ} {s after : State Run} {steps : List ℕ} →
        StandsFor item k s → k ≤ limit → AreItemSteps limit items (after_steps m z (process_of item) k s) steps after →
        AreItemSteps limit (item ∷ items) s (replicate k (process_of item) ++ steps) after

  -- the items' steps lead from one state to the other, and the schedule is longer by them
  pub record HasPlayed (limit : ℕ) (items : List Item) (s after : State Run) : Type 0 where
    pub steps : List ℕ
    pub plays : AreItemSteps limit items s steps after
    pub turns : steps_of after.records.schedule ≡ steps_of s.records.schedule ++ steps

  -- the item of this number, from 1, is the first one that stands for more steps than the limit
  pub record IsFirstBeyond (limit : ℕ) (items : List Item) (s : State Run) (number : ℕ) : Type 0 where
    pub item : Item
    pub counted : 1 ≤ number
    pub here : slice_get items (number - 1) ≡ Some item
    pub steps : List ℕ
    pub state : State Run
    pub before : AreItemSteps limit (take (number - 1) items) s steps state
    pub beyond : IsBeyond limit item state
