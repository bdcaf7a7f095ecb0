-- Two runs of a module's object, one after the other.
use Rattle.std.specs.Prelude.{◌≡◌, ◌⊎◌, ℕ, List, [], ◌∷◌, ◌++◌}
use Rattle.ob_meaning.specs.Same.{SameState}
use Rattle.ob_carry.specs.Carried.{Entry}
use Rattle.ob_carry.specs.NamedValues.{CarryBack}
use Rattle.ob_interface.specs.Call.{ObjectCall, Reply}
use Rattle.ob_meaning.specs.ByNameObject.{State, replies_to, state_behind}
use Rattle.ob_object_compile.specs.Asked.{by_body, by_values}
use Rattle.ob_object_compile.specs.Compilation.{IsShort}
use Rattle.ob_object_perform.specs.Performance.{IsPerformance, IsRefusal}
use Rattle.ob_object_perform.specs.Texts.{Texts, run_texts}
use Rattle.ob_object_perform.specs.declared.performing.PerformFault.{PerformFault}
use Rattle.ob_text_record.specs.Record.{Record}
use Rattle.ob_object_twice.specs.declared.twice.Turn as Rust
use Rattle.ob_typing.specs.Program.{Program}
use Rattle.wf_history.specs.declared.event.CallId.{CallId}
use Rattle.wf_history.specs.History.{Event}
use Rattle.wf_history.specs.Legal.{HasBegun, RepliesAgree}

-- how many processes share the object, the scripts of their calls, and the schedule
pub record Turn : Type 0 where
  pub processes : ℕ
  pub scripts : List ℕ
  pub schedule : List ℕ

abbrev pub turn_of : Rust.Turn → Turn
turn_of t = record { processes = t.processes; scripts = t.scripts.now; schedule = t.schedule.now }

-- the texts of the first run, whose object begins by the module's body
abbrev pub first_texts : (text : List ℕ) (budget : ℕ) → Turn → Texts
first_texts text budget turn = run_texts (by_body text turn.processes budget) turn.scripts turn.schedule

-- and of the second one, whose object begins with values
abbrev pub second_texts : (text : List ℕ) (budget : ℕ) → Turn → List Entry → Texts
second_texts text budget turn values = run_texts (by_values text turn.processes budget values) turn.scripts turn.schedule

-- the record is one of a run of an object that begins with the state of a record before
pub record GoesOn (text : List ℕ) (budget : ℕ) (turn : Turn) (before r : Record) : Type 0 where
  pub values : List Entry
  pub performs : IsPerformance (second_texts text budget turn values) r
  pub begins : ∥ performs.object.opening ≡ before.state ∥₁

-- each id of an order began as the call that stands at its place
abbrev pub AreCallsOf : List (Event ObjectCall Reply) → List CallId → List ObjectCall → Type 0
AreCallsOf history [] [] = Unit {0}
AreCallsOf history (id ∷ ids) (call ∷ calls) = HasBegun history id call × AreCallsOf history ids calls
AreCallsOf history ids calls = ⊥

-- The calls of the first order, and behind them those of the second, made one at a time by name with the budget from the opening: each
-- call of either record that ended has the reply of its place, and the second record has the state behind them all.
pub record IsMeantTwice (program : Program) (budget : ℕ) (opening : State) (first second : Record) : Type 0 where
  pub calls : List ObjectCall
  pub calls_are : AreCallsOf first.history first.order calls
  pub others : List ObjectCall
  pub others_are : AreCallsOf second.history second.order others
  pub replies : List Reply
  pub agree : RepliesAgree first.history first.order replies
  pub more : List Reply
  pub more_agree : RepliesAgree second.history second.order more
  pub made : replies_to program budget opening (calls ++ others) ≡ replies ++ more
  pub last : SameState program (state_behind program budget opening (calls ++ others)) second.state

-- so it is by the program of the first run, from the state with which its object begins
abbrev pub AreMeantInTurn : Texts → (first second : Record) → Type 0
AreMeantInTurn t first second =
    (p : IsPerformance t first) → ∥ IsMeantTwice p.object.program t.asked.budget p.compiled.opens.state first second ∥₁

-- there is a first run, and the fault is one of a second run that begins with values which come to the state that the first one left
pub record IsSecondRefused (text : List ℕ) (budget : ℕ) (first second : Turn) (fault : PerformFault) : Type 0 where
  pub before : Record
  pub performs : IsPerformance (first_texts text budget first) before
  pub values : List Entry
  pub carried : CarryBack performs.object.program values before.state
  pub refused : IsRefusal IsShort (second_texts text budget second values) fault

-- the fault is one of the first run, or else of the second
abbrev pub IsRefusedTwice : (text : List ℕ) (budget : ℕ) (first second : Turn) → PerformFault → Type 0
IsRefusedTwice text budget first second fault =
    IsRefusal IsShort (first_texts text budget first) fault ⊎ IsSecondRefused text budget first second fault
