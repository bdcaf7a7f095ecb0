-- What the faults of a compilation say, from what those of its parts say.
use Rattle.std.proofs.Common.{◌≡◌, ◌≢◌, ℕ, ◌<◌, List, length, true, false, subst, refl, arith}
use Rattle.ob_meaning.specs.Resolved.{IsResolved}
use Rattle.ob_object_compile.proofs.CarryFaults.{carriable_have_no_fault}
use Rattle.ob_carry.specs.declared.carrying.CarryFault.{CarryFault}
use Rattle.ob_carry.specs.declared.carrying.CarryFault.TheVariants as Carry
use Rattle.ob_check.specs.CheckedText.{IsNumberedText, IsTextFault, TellsTextMemoryApart}
use Rattle.ob_check.specs.declared.module_text.TextFault.{TextFault}
use Rattle.ob_check.specs.declared.module_text.TextFault.TheVariants as Text
use Rattle.ob_code_scheme.specs.Scheme.{code_of}
use Rattle.ob_mean.specs.declared.openings.OpenFault.{OpenFault}
use Rattle.ob_mean.specs.declared.openings.OpenFault.TheVariants as Open
use Rattle.ob_object_compile.specs.Asked.{Asked, Beginning, BeginsWith, ByBody, ByValues}
use Rattle.ob_meaning.specs.ByNameObject as Named
use Rattle.ob_meaning.specs.ByNameObject.{State}
use Rattle.ob_object_compile.specs.Compilation.{BodyFails, HasNone, IsNumbered, IsObjectFault, IsObjectOf, IsRefusal, IsShort, ObjectParts, OpeningFails, TellsMemoryApart, ValuesFail, most_instructions}
use Rattle.ob_object_compile.specs.CompilationParts.{IsBeginningFault, IsBodyFault, IsEngineFault, IsValuesFault, of_text}
use Rattle.ob_object_compile.specs.declared.compiling.CompileFault.{CompileFault}
use Rattle.ob_object_compile.specs.declared.compiling.CompileFault.TheVariants as Faults
use Rattle.ob_object_compile.proofs.Openings.{fault_named, module_resolved}
use Rattle.ob_typing.specs.ModuleText.{IsModule}
use Rattle.ob_typing.specs.Program.{Program}

-- ---- of the text

numbered_text : (e : TextFault) → IsNumbered (of_text e) → IsNumberedText e
numbered_text (Text.Scan e) h = h.1
numbered_text (Text.Parse e) h = h.1
numbered_text (Text.Check e) h = h.1
numbered_text Text.NoMemory h = let bad : true ≡ false = h.0 in cc

module _ (Allowed : Program → Type 0) (a : Asked) where
  text_says : (e : TextFault) → IsTextFault a.text e → IsObjectFault Allowed a (of_text e)
  text_says (Text.Scan e) h = h
  text_says (Text.Parse e) h = h
  text_says (Text.Check e) h = h
  text_says Text.NoMemory h = tt

  text_memory : (e : TextFault) → TellsTextMemoryApart e → TellsMemoryApart (of_text e)
  text_memory (Text.Scan e) h = (refl, h)
  text_memory (Text.Parse e) h = (refl, h)
  text_memory (Text.Check e) h = (refl, h)
  text_memory Text.NoMemory h = tt

  pub text_refused : (e : TextFault) → IsTextFault a.text e → (IsNumberedText e → (program : Program) → IsModule a.text program → ⊥) → TellsTextMemoryApart e →
      IsRefusal Allowed a (of_text e)
  text_refused e says none memory = record {
    says = text_says e says;
    none = λ h o c. none (numbered_text e h) o.program c.is_module;
    memory = text_memory e memory;
  }

-- ---- of the engine

module _ (a : Asked) (program : Program) (is : IsModule a.text program) (alone : (other : Program) → IsModule a.text other → other ≡ program) where
  long_here : most_instructions < length (code_of program).instructions → IsShort program → ⊥
  long_here h short = absurd (omega (arith, short, h))

  engine_says : (e : CompileFault) → IsEngineFault program e → IsObjectFault IsShort a e
  engine_says Faults.TooLong h = record { program = program; is_module = is; long = h; ruled_out = long_here h }
  engine_says Faults.NoMemory h = tt
  engine_says Faults.Processes h = absurd h
  engine_says Faults.Budget h = absurd h
  engine_says (Faults.Text e) h = absurd h
  engine_says (Faults.Open e) h = absurd h
  engine_says (Faults.Carry e) h = absurd h

  engine_none : (e : CompileFault) → IsEngineFault program e → IsNumbered e → HasNone IsShort a
  engine_none Faults.TooLong h numbered o c = long_here h (subst IsShort (alone o.program c.is_module) c.allowed)
  engine_none Faults.NoMemory h numbered o c = let bad : true ≡ false = numbered.0 in cc
  engine_none Faults.Processes h numbered o c = absurd h
  engine_none Faults.Budget h numbered o c = absurd h
  engine_none (Faults.Text e) h numbered o c = absurd h
  engine_none (Faults.Open e) h numbered o c = absurd h
  engine_none (Faults.Carry e) h numbered o c = absurd h

  engine_memory : (e : CompileFault) → IsEngineFault program e → TellsMemoryApart e
  engine_memory Faults.TooLong h = tt
  engine_memory Faults.NoMemory h = tt
  engine_memory Faults.Processes h = absurd h
  engine_memory Faults.Budget h = absurd h
  engine_memory (Faults.Text e) h = absurd h
  engine_memory (Faults.Open e) h = absurd h
  engine_memory (Faults.Carry e) h = absurd h

  pub engine_refused : (e : CompileFault) → IsEngineFault program e → IsRefusal IsShort a e
  engine_refused e h = record { says = engine_says e h; none = engine_none e h; memory = engine_memory e h }

-- ---- of the beginning

module _ (program : Program) (good : IsResolved program) where
  body_fails : (beginning : Beginning) (e : OpenFault) → IsBodyFault beginning program e → BodyFails beginning program e
  body_fails ByBody e h = fault_named program good e h.0
  body_fails (ByValues values) e h = absurd h

  values_fail : (beginning : Beginning) (e : CarryFault) → IsValuesFault beginning program e → ValuesFail beginning program e
  values_fail ByBody e h = absurd h
  values_fail (ByValues values) e h = h.0

  body_memory : (beginning : Beginning) (e : OpenFault) → IsBodyFault beginning program e → e ≢ Open.NoMemory
  body_memory ByBody e h = h.1
  body_memory (ByValues values) e h = absurd h

  values_memory : (beginning : Beginning) (e : CarryFault) → IsValuesFault beginning program e → e ≢ Carry.NoMemory
  values_memory ByBody e h = absurd h
  values_memory (ByValues values) e h = h.1

  -- with such a fault there is no state with which the program begins so
  traps_not : (e : OpenFault) (state : State) → OpeningFails program e → e ≢ Open.NoMemory → Named.IsOpening program state → ⊥
  traps_not (Open.Trap k) state h known opens = let is = opens.1 in cc
  traps_not Open.NoMemory state h known opens = known refl

  body_begins_not : (beginning : Beginning) (e : OpenFault) → IsBodyFault beginning program e → (state : State) → BeginsWith beginning program state → ⊥
  body_begins_not ByBody e h state begins = traps_not e state (fault_named program good e h.0) h.1 begins
  body_begins_not (ByValues values) e h state begins = absurd h

  values_begin_not : (beginning : Beginning) (e : CarryFault) → IsValuesFault beginning program e → (state : State) → BeginsWith beginning program state → ⊥
  values_begin_not ByBody e h state begins = absurd h
  values_begin_not (ByValues values) e h state begins = carriable_have_no_fault program.variables values e h.1 begins.carriable h.0

module _ (Allowed : Program → Type 0) (a : Asked) (program : Program) (is : IsModule a.text program) (allowed : Allowed program) (alone : (other : Program) → IsModule a.text other → other ≡ program) where
  abbrev good : IsResolved program
  good = module_resolved a.text program is

  beginning_says : (e : CompileFault) → IsBeginningFault a.beginning program e → IsObjectFault Allowed a e
  beginning_says (Faults.Open e) h = record { program = program; is_module = is; allowed = allowed; fails = body_fails program good a.beginning e h }
  beginning_says (Faults.Carry e) h = record { program = program; is_module = is; allowed = allowed; fails = values_fail program good a.beginning e h }
  beginning_says Faults.NoMemory h = tt
  beginning_says Faults.TooLong h = absurd h
  beginning_says Faults.Processes h = absurd h
  beginning_says Faults.Budget h = absurd h
  beginning_says (Faults.Text e) h = absurd h

  begins_here : (o : ObjectParts) (c : IsObjectOf Allowed a o) → BeginsWith a.beginning program c.opens.state
  begins_here o c = subst (λ (p : Program). BeginsWith a.beginning p c.opens.state) (alone o.program c.is_module) c.opens.opens

  beginning_none : (e : CompileFault) → IsBeginningFault a.beginning program e → IsNumbered e → HasNone Allowed a
  beginning_none (Faults.Open e) h numbered o c = body_begins_not program good a.beginning e h c.opens.state (begins_here o c)
  beginning_none (Faults.Carry e) h numbered o c = values_begin_not program good a.beginning e h c.opens.state (begins_here o c)
  beginning_none Faults.NoMemory h numbered o c = let bad : true ≡ false = numbered.0 in cc
  beginning_none Faults.TooLong h numbered o c = absurd h
  beginning_none Faults.Processes h numbered o c = absurd h
  beginning_none Faults.Budget h numbered o c = absurd h
  beginning_none (Faults.Text e) h numbered o c = absurd h

  beginning_memory : (e : CompileFault) → IsBeginningFault a.beginning program e → TellsMemoryApart e
  beginning_memory (Faults.Open e) h = body_memory program good a.beginning e h
  beginning_memory (Faults.Carry e) h = values_memory program good a.beginning e h
  beginning_memory Faults.NoMemory h = tt
  beginning_memory Faults.TooLong h = absurd h
  beginning_memory Faults.Processes h = absurd h
  beginning_memory Faults.Budget h = absurd h
  beginning_memory (Faults.Text e) h = absurd h

  pub beginning_refused : (e : CompileFault) → IsBeginningFault a.beginning program e → IsRefusal Allowed a e
  beginning_refused e h = record { says = beginning_says e h; none = beginning_none e h; memory = beginning_memory e h }
