-- What is found of a history.
use Rattle.std.specs.Prelude.{◌≡◌, ℕ, ◌+◌, ◌-◌, ◌<◌, ◌≤◌, ◌^◌, List, [], ◌∷◌, length, take, slice_get, Option, Some, MatchOption, Contains}
use Rattle.ob_interface.specs.Call.{ObjectCall, Reply}
use Rattle.wf_history.specs.declared.event.CallId.{CallId}
use Rattle.wf_history.specs.History.{Event, End}
use Rattle.wf_history.specs.Legal.{IsLegal}
use Rattle.wf_order.specs.declared.find.Verdict.{Verdict}
use Rattle.wf_order.specs.declared.find.Verdict.TheVariants as Verdicts
use Rattle.wf_order.specs.Steps.{Configuration, Leads, start_at}

-- no two are the same
abbrev pub AreApart : {A : Type 0} → List A → Type 0
AreApart [] = Unit {0}
AreApart (x ∷ xs) = ¬ Contains xs x × AreApart xs

module _ {State Call Reply : Type 0} (Effect : Call → State → State → Reply → Type 0) (opening : State) (history : List (Event Call Reply)) where
  abbrev pub HasLegal : Type 0
  HasLegal = (order : List CallId) × (last : State) × IsLegal Effect opening history order last

  -- steps lead from the start to more configurations than so many
  pub record HasMore (processes most : ℕ) : Type 0 where
    pub reached : List (Configuration State)
    pub apart : AreApart reached
    pub path : (c : Configuration State) → Contains reached c → (ids : List CallId) × Leads Effect history (start_at processes opening) ids c
    pub more : most < length reached

module _ {State Call Reply : Type 0} (Effect : Call → State → State → Reply → Type 0) (opening : State) (history : List (Event Call Reply)) where
  -- so many first events have a legal order, and with the next event, at which a call ends, they have none
  pub record IsLastLegal (place : ℕ) : Type 0 where
    pub id : CallId
    pub reply : Reply
    pub end : slice_get history place ≡ Some (End id reply)
    pub legal : HasLegal Effect opening (take place history)
    pub none : ¬ HasLegal Effect opening (take (place + 1) history)

  -- the first events, up to a place, have one, and up to a later place they have none
  pub record IsBetween (legal illegal : ℕ) : Type 0 where
    pub order : legal < illegal
    pub within : illegal ≤ length history
    pub has : HasLegal Effect opening (take legal history)
    pub none : ¬ HasLegal Effect opening (take illegal history)

  -- more configurations than so many are reached in a beginning of the history
  pub record HasMoreFront (processes most : ℕ) : Type 0 where
    pub count : ℕ
    pub more : HasMore Effect opening (take count history) processes most

-- so many configurations are enough for each search of a history of so many processes and events
abbrev pub enough : ℕ → ℕ → ℕ
enough processes events = (processes + 2) ^ (events + 1)

-- a beginning has more configurations than the most that were to be looked at, and they were not enough
abbrev pub IsTooMuch : {M : Type 0} → (ObjectCall → M → M → Reply → Type 0) → M → List (Event ObjectCall Reply) → (processes most : ℕ) → Type 0
IsTooMuch Effect opening history processes most = HasMoreFront Effect opening history processes most × (most < enough processes (length history))

-- of a beginning that has a legal order and a later one that has none, this far apart: two that are nearer, or too much was to be looked at
abbrev pub IsHalved : {M : Type 0} → (ObjectCall → M → M → Reply → Type 0) → M → List (Event ObjectCall Reply) → (processes most distance : ℕ) → Option (ℕ × ℕ) → Type 0
IsHalved Effect opening history processes most distance half =
    MatchOption half (IsTooMuch Effect opening history processes most)
    (λ h. IsBetween Effect opening history h.0 h.1 × (h.1 - h.0 < distance))

-- the place of the end with which there ceases to be a legal order, or too much was to be looked at
abbrev pub IsLastFound : {M : Type 0} → (ObjectCall → M → M → Reply → Type 0) → M → List (Event ObjectCall Reply) → (processes most : ℕ) → Option ℕ → Type 0
IsLastFound Effect opening history processes most place =
    MatchOption place (IsTooMuch Effect opening history processes most) (λ k. IsLastLegal Effect opening history k)

-- A legal order; or the end with which there ceases to be one; or that some beginning of the history has more configurations
-- than the most that were to be looked at.
abbrev pub IsVerdict : {M : Type 0} → (ObjectCall → M → M → Reply → Type 0) → M → List (Event ObjectCall Reply) → ℕ → Verdict → Type 0
IsVerdict {M} Effect opening history most (Verdicts.Legal order) = (last : M) × IsLegal Effect opening history order.items last
IsVerdict Effect opening history most (Verdicts.Illegal id place) =
    (last : IsLastLegal Effect opening history place) × (last.id ≡ id) × ¬ HasLegal Effect opening history
IsVerdict Effect opening history most Verdicts.TooMany = (processes : ℕ) × HasMoreFront Effect opening history processes most
