-- The machine of a desk that was closed on an object, and its record.
use Rattle.std.proofs.Common.{◌≡◌, ◌∙◌, ℕ, List, ap, refl, subst, sym}
use Rattle.std.proofs.Math.Logic.{∥∥₁_map}
use Rattle.std.specs.Prelude.{Option, ℤ}
use Rattle.ob_meaning.specs.ByPositionStore.{Activation}
use Rattle.ob_code_engine.specs.CodeEngine.{CompiledParts}
use Rattle.ob_code_correct.specs.CodeMeaning.{EngineParts, code_meaning}
use Rattle.ob_code_correct.specs.Compiled.{HasReserve, IsFitting}
use Rattle.ob_code_correct.specs.Parts.{IsLawfulFor}
use Rattle.ob_layout.specs.Layout.{LayoutParts}
use Rattle.ob_code_machine.specs.Body.{Run}
use Rattle.ob_code_scheme.specs.Layout.{encoded}
use Rattle.ob_desk_floor.specs.Close as Close
use Rattle.ob_desk_floor.specs.Desk.{Desk}
use Rattle.ob_desk_floor.specs.declared.fault.CloseFault.{CloseFault}
use Rattle.ob_desk_floor.specs.Seat.{Seat}
use Rattle.ob_desk_serve.specs.PromisesOfServe.{IsLegalRecord, IsMeantRecord, IsRecordOf, desk_of}
use Rattle.ob_meaning.specs.Same.{SameState}
use Rattle.ob_meaning.specs.ByNameObject as Named
use Rattle.ob_object_compile.specs.Compilation.{ObjectParts}
use Rattle.ob_object_compile.specs.Sound.{IsSoundObject}
use Rattle.ob_object_run.specs.LegalOrder.{IsLegalOrder}
use Rattle.ob_text_record.specs.Record.{Record, carried_from}
use Rattle.ob_object_run.specs.Recorded.{IsLegalFor, IsMeantFor, IsMeantOrder, IsNamedObjectOf, IsObject, IsObjectOf}
use Rattle.ob_text_words.specs.ScriptCalls.{ScriptCall}
use Rattle.wf_object.specs.View.{Object}
use Rattle.wf_play.specs.Played.{scripts_of}
use Rattle.wf_table.specs.Runs.{IsRun, performed}

-- a closed machine over code
abbrev pub IsClosed : Desk EngineParts → Object CompiledParts Run → Type 0
IsClosed d m = Close.IsClosed (λ (x : CompiledParts). x.parts) (λ x. code_meaning x.parts) (λ x. IsLawfulFor x.parts) (λ x. IsFitting x.parts.exports) (λ x. HasReserve x.parts) d m

-- what closing over code tells
abbrev pub TellsClosing : Desk EngineParts → List Seat → CloseFault → Type 0
TellsClosing d seats e = Close.TellsClosing (λ (x : CompiledParts). x.parts) (λ x. code_meaning x.parts) (λ x. IsLawfulFor x.parts) (λ x. IsFitting x.parts.exports) (λ x. HasReserve x.parts) d seats e

-- the state with which a sound object begins has the words of the object
opening_of : (o : ObjectParts) → IsSoundObject o → IsObjectOf o.program o.engine o.opening (encoded o.opening)
opening_of o sound = record {
  compiled = record { well = sound.well; parts_are = sound.engine_is };
  encodes = record { typed = sound.begins; words_are = refl };
}

-- of an engine of the object's parts, with the words of its opening
module _ (o : ObjectParts) (parts : EngineParts) (words : List ℤ) (sound : IsSoundObject o) (code : parts ≡ o.engine) (opening : words ≡ encoded o.opening) where
  object_of : IsObjectOf o.program parts o.opening words
  object_of =
      subst (λ (p : EngineParts). IsObjectOf o.program p o.opening words) (sym code)
      (subst (λ (ws : List ℤ). IsObjectOf o.program o.engine o.opening ws) (sym opening) (opening_of o sound))

  -- the opening is lawful for the engine
  pub lawful_opening : IsLawfulFor parts words
  lawful_opening = record { program = o.program; compiled = object_of.compiled; is = record { state = o.opening; encodes = object_of.encodes } }

  budget : parts.budget ≡ o.engine.budget
  budget = ap (λ (p : EngineParts). p.budget) code

  module _ (layout : LayoutParts) (laid : layout ≡ o.layout) where
    variables : o.program.variables ≡ layout.variables
    variables = sym (ap (λ (l : LayoutParts). l.variables) (laid ∙ sound.layout_is))

    -- it is an object with the variables of the layout
    pub is_object : ∥ IsObject layout.variables parts words ∥₁
    is_object = ∣ record { program = o.program; same = variables; opening = o.opening; is = object_of } ∣₁

    -- a record over the engine has a legal order by the object's program
    pub legal_of : (r : Record) → IsLegalFor layout.variables parts words r → IsLegalRecord o r
    legal_of r legal =
        subst (λ (k : ℕ). ∥ IsLegalOrder o.program k o.opening r.history r.order r.state ∥₁) budget (legal o.program o.opening variables object_of)

    named_of : (state : Named.State) → SameState o.program state o.opening → IsNamedObjectOf o.program parts state words
    named_of state same = record { resolved = sound.resolved; activation = o.opening; same = same; is = object_of }

    -- and by what its calls mean
    pub meant_of : (r : Record) (was : Option Activation) → IsMeantFor layout.variables parts words r → IsMeantRecord o (record r { carried = was })
    meant_of r was meant = λ state same.
        ∥∥₁_map (subst (λ (k : ℕ). ∥ IsMeantOrder o.program k state r ∥₁) budget (meant o.program state variables (named_of state same)))
        (λ m. record { last = m.last; legal = m.legal; same = m.same })

module _ (o : ObjectParts) (scripts : List ScriptCall) (m : Object CompiledParts Run) (closed : IsClosed (desk_of o scripts) m) where
  -- the run to the machine, as one of the object
  pub run_of : IsRun (code_meaning o.engine) (IsLawfulFor o.engine) (IsFitting o.engine.exports) (HasReserve o.engine) o.processes (encoded o.opening) (performed (scripts_of scripts) m.state.records.schedule) m.state
  run_of =
      let acts = performed (scripts_of scripts) m.state.records.schedule in
      subst (λ (p : EngineParts). IsRun (code_meaning p) (IsLawfulFor p) (IsFitting p.exports) (HasReserve p) o.processes (encoded o.opening) acts m.state) closed.code_is closed.runs

  -- what a record shows of what the machine saw
  pub record Shows (r : Record) : Type 0 where
    pub processes : r.processes ≡ o.processes
    pub budget : r.budget ≡ o.engine.budget
    pub carried : r.carried ≡ carried_from o.carried o.opening
    pub history : r.history ≡ m.state.records.history
    pub order : r.order ≡ m.state.records.order
    pub schedule : r.schedule ≡ m.state.records.schedule
    pub legal : IsLegalRecord o r
    pub meant : IsMeantRecord o r

  pub record_of_closed : (r : Record) → Shows r → IsRecordOf o scripts r
  record_of_closed r h = record {
    state = m.state;
    runs = run_of;
    processes = h.processes;
    budget = h.budget;
    carried = h.carried;
    history = h.history;
    order = h.order;
    schedule = h.schedule;
    legal = h.legal;
    meant = h.meant;
  }
