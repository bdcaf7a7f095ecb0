-- With which state the calls of a record begin, by position and by name: one state, or one trap.
use Rattle.std.proofs.Common.{◌≡◌, ◌∙◌, refl, subst, sym, List, [], ◌∷◌, map, ℕ, Option, Some, None}
use Rattle.ob_meaning.specs.Resolved.{IsResolved, AreDistinct, as_parameter, module_scope}
use Rattle.ob_meaning.specs.Same.{SameActivation, SameState, Scopes}
use Rattle.ob_mean.specs.Faults.{IsOpenFault}
use Rattle.ob_mean.specs.declared.openings.OpenFault.{OpenFault}
use Rattle.ob_mean.specs.declared.openings.OpenFault.TheVariants as Open
use Rattle.ob_meaning.specs.ByNameObject.{State}
use Rattle.ob_meaning.specs.ByNameStore as Names
use Rattle.ob_object_calls.proofs.Openings as Openings
use Rattle.ob_object_calls.specs.Beginnings.{BeginsNamed, BeginsPlaced, IsBeginningFault, TrapsNamed, TrapsPlaced}
use Rattle.ob_meaning.specs.ByPositionStatements.{Outcome, Done, Trap}
use Rattle.ob_meaning.specs.ByPositionStore.{Activation, Store}
use Rattle.ob_text_reading.specs.Openings as Lines
use Rattle.ob_text_reading.specs.Openings.{AreOpenings, IsOpening}
use Rattle.ob_text_reading.specs.RecordLines as Heads
use Rattle.ob_text_reading.specs.RecordLines.{IsHead, IsRecord, Line, Told}
use Rattle.ob_typing.specs.Program.{Program, Variable}

-- the values that a record tells are those of lines that open the variables
abbrev pub AreOpened : List Variable → Option Activation → Type 0
AreOpened variables None = Unit {0}
AreOpened variables (Some held) = (ls : List Line) × AreOpenings variables ls held

head_opened : (variables : List Variable) {ls : List Line} {n b : ℕ} {carried : Option Activation} → IsHead variables ls n b carried → AreOpened variables carried
head_opened variables (Heads.of_version_1 title count) = tt
head_opened variables (Heads.of_version_2 title count turns) = tt
head_opened variables (Heads.of_version_3 {openings = openings} title count turns each) = (openings, each)

pub record_opened : (program : Program) (text : List ℕ) (tells : Told) → IsRecord program text tells → AreOpened program.variables tells.carried
record_opened program text tells r = head_opened program.variables r.heads

-- a state by name in which each variable has the value that its line says
module _ (scopes : Scopes) (k : ℕ) where
  opened_named : {variables : List Variable} {ls : List Line} {held : Activation} → AreDistinct (map as_parameter variables) → AreOpenings variables ls held →
      (state : State) × SameActivation scopes k (map as_parameter variables) state held
  opened_named distinct Lines.none = ([], tt)
  opened_named distinct (Lines.more {variable = variable} opens rest) =
      let later = opened_named distinct.1 rest in
      (record { name = variable.name; held = Names.Holds opens.entry.value } ∷ later.0, ((refl, distinct.0), ((refl, opens.same), later.1)))

module _ (program : Program) (good : IsResolved program) where
  pub beginning_named : (carried : Option Activation) → AreOpened program.variables carried → (activation : Activation) → BeginsPlaced program carried activation →
      (state : State) × BeginsNamed program carried state × SameState program state activation
  beginning_named None opened activation h = Openings.opening_named program good activation h
  beginning_named (Some held) opened activation h =
      let s = opened_named (module_scope program ∷ []) 0 good.distinct opened.1 in
      (s.0, s.1, subst (λ (a : Activation). SameState program s.0 a) (sym h) s.1)

  pub beginning_placed : (carried : Option Activation) (state : State) → BeginsNamed program carried state →
      (activation : Activation) × BeginsPlaced program carried activation × SameState program state activation
  beginning_placed None state h = Openings.opening_placed program good state h
  beginning_placed (Some held) state h = (held, refl, h)

  pub trap_named : (carried : Option Activation) (k : ℕ) → TrapsPlaced program carried k → TrapsNamed program carried k
  trap_named None k h = Openings.trap_named program good k h
  trap_named (Some held) k h = h

  pub trap_placed : (carried : Option Activation) (k : ℕ) → TrapsNamed program carried k → TrapsPlaced program carried k
  trap_placed None k h = Openings.trap_placed program good k h
  trap_placed (Some held) k h = h

abbrev done : ℕ → Store → Outcome
done left store = Done left store

abbrev trapped : ℕ → Outcome
trapped k = Trap k

done_or_trapped : (left k : ℕ) (store : Store) → done left store ≡ trapped k → ⊥
done_or_trapped left k store e = cc

same_trap : (k j : ℕ) → trapped k ≡ trapped j → k ≡ j
same_trap k j e = cc

pub one_state : (program : Program) (carried : Option Activation) (state other : Activation) → BeginsPlaced program carried state → BeginsPlaced program carried other → state ≡ other
one_state program None state other h k = let is = h.1 in let is' = k.1 in cc
one_state program (Some held) state other h k = h ∙ sym k

pub no_trap : (program : Program) (carried : Option Activation) (state : Activation) (k : ℕ) → BeginsPlaced program carried state → TrapsPlaced program carried k → ⊥
no_trap program None state k h traps = done_or_trapped h.0 k (state ∷ []) (sym h.1 ∙ traps)
no_trap program (Some held) state k h traps = traps

pub one_trap : (program : Program) (carried : Option Activation) (k j : ℕ) → TrapsPlaced program carried k → TrapsPlaced program carried j → k ≡ j
one_trap program None k j h i = same_trap k j (sym h ∙ i)
one_trap program (Some held) k j h i = absurd h

-- where the body fails, the fault is told of an object that begins by it
pub body_fails : (program : Program) (e : OpenFault) → IsOpenFault program e → IsBeginningFault program None e
body_fails program (Open.Trap k) h = h
body_fails program Open.NoMemory h = tt
