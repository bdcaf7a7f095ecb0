-- The parts of a history: the calls that have one value as an argument, apart from the others.
use Rattle.std.specs.Prelude.{◌≡◌, ℕ, zero, suc, List, [], ◌∷◌, ◌++◌, Option, None, Some, Contains, slice_get}
use Rattle.ob_interface.specs.Call.{ObjectCall, Reply}
use Rattle.ob_interface.specs.declared.scalar.Scalar.{Scalar}
use Rattle.wf_history.specs.declared.event.CallId.{CallId}
use Rattle.wf_history.specs.History.{Event, Begin, Applied, End}
use Rattle.wf_history.specs.Legal.{HasBegun}

abbrev pub Events : Type 0
Events = List (Event ObjectCall Reply)

-- the argument of a call at a place, which counts from 1
abbrev pub argument_at : (by : ℕ) → ObjectCall → Option Scalar
argument_at zero call = None
argument_at (suc place) call = slice_get call.arguments place

module _ (all : Events) (by : ℕ) (value : Scalar) where
  -- the call has begun, with this value at that place
  pub record IsWith (id : CallId) : Type 0 where
    pub call : ObjectCall
    pub begun : HasBegun all id call
    pub argument : argument_at by call ≡ Some value

  -- such a call begins or ends
  abbrev pub IsOwn : Event ObjectCall Reply → Type 0
  IsOwn (Begin id call) = IsWith id
  IsOwn (Applied ids) = ⊥
  IsOwn (End id reply) = IsWith id

  -- the events at which such calls begin and end, in their order
  pub data ArePicked : (events part : Events) → Type 0 where
    none : ArePicked [] []
    own : {e : Event ObjectCall Reply} {es part : Events} → IsOwn e → ArePicked es part → ArePicked (e ∷ es) (e ∷ part)
    other : {e : Event ObjectCall Reply} {es part : Events} → ¬ IsOwn e → ArePicked es part → ArePicked (e ∷ es) part

  -- the part of the history that has this value
  abbrev pub IsPart : Events → Type 0
  IsPart part = ArePicked all part

module _ (by : ℕ) where
  -- Events behind others at which calls began with these values: each call has the argument, and further values stand in the order in
  -- which they first come.
  pub data BringValues : (before : List Scalar) → Events → (after : List Scalar) → Type 0 where
    none : {values : List Scalar} → BringValues values [] values
    quiet : {values after : List Scalar} {e : Event ObjectCall Reply} {es : Events} → ((id : CallId) (call : ObjectCall) → e ≡ Begin id call → ⊥) →
        BringValues values es after → BringValues values (e ∷ es) after
    known : {values after : List Scalar} {id : CallId} {call : ObjectCall} {es : Events} (value : Scalar) → argument_at by call ≡ Some value → Contains values value →
        BringValues values es after → BringValues values (Begin id call ∷ es) after
    new : {values after : List Scalar} {id : CallId} {call : ObjectCall} {es : Events} (value : Scalar) → argument_at by call ≡ Some value → ¬ Contains values value →
        BringValues (values ++ value ∷ []) es after → BringValues values (Begin id call ∷ es) after

  -- the values of the argument, each once, in the order in which calls first begin with them
  abbrev pub AreValues : Events → List Scalar → Type 0
  AreValues events values = BringValues [] events values

  -- the first call that has no such argument
  pub record IsShort (events : Events) (id : CallId) : Type 0 where
    pub before : Events
    pub call : ObjectCall
    pub rest : Events
    pub parts : events ≡ before ++ Begin id call ∷ rest
    pub short : argument_at by call ≡ None
    pub values : List Scalar
    pub earlier : AreValues before values
