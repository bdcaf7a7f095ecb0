-- The record of a run of an object fits the object's module, and its text is verified.
use Rattle.std.proofs.Common.{◌≡◌, ℕ, ◌<◌, ◌^◌, Bool, List, Option, length, ap, subst, sym, ◌∙◌}
use Rattle.std.specs.Prelude.{ℤ, take}
use Rattle.std.proofs.Math.Logic.{∥∥₁_elim, ∥∥₁_map}
use Rattle.ll_cell.specs.Cell.{block_of}
use Rattle.ob_code_engine.specs.CodeEngine.{CompiledParts}
use Rattle.ob_code_correct.specs.CodeMeaning.{EngineParts, code_meaning}
use Rattle.ob_code_correct.specs.Compiled.{HasReserve, IsFitting}
use Rattle.ob_code_correct.specs.Named.{CallMeans, PositionsCarryLegal}
use Rattle.ob_code_correct.specs.Parts.{IsEffectOf, IsLawfulFor}
use Rattle.ob_code_machine.specs.Body.{Run}
use Rattle.ob_code_scheme.specs.Layout.{encoded}
use Rattle.ob_object_compile.specs.Asked.{Asked, Beginning, ByBody, ByValues, is_carried}
use Rattle.ob_object_compile.specs.Compilation.{IsObjectOf, ObjectParts, Opens}
use Rattle.ob_object_compile.specs.Sound.{IsSoundObject, ObjectsAreSound}
use Rattle.ob_laws.proofs.Records.{writable}
use Rattle.ob_laws.specs.Printed.{PerformedIsWritable, PrintedIsVerified}
use Rattle.ob_object_perform.specs.Performance.{carried_in}
use Rattle.ob_text_record.specs.Record.{Record, carried_from}
use Rattle.ob_object_run.specs.Laws.{StatesAreObjects}
use Rattle.ob_object_run.specs.Recorded.{IsMeantOrder}
use Rattle.ob_object_calls.specs.Beginnings.{BeginsNamed}
use Rattle.ob_object_calls.specs.Verified.{IsVerified}
use Rattle.ob_meaning.specs.ByPositionStore.{Activation}
use Rattle.ob_laws.specs.Writable.{IsWritable, LegalIsVerified}
use Rattle.ob_text_record.specs.RecordText.{record_text}
use Rattle.ob_typing.specs.Program.{Program}
use Rattle.wf_history.specs.Legal.{IsLegal}
use Rattle.wf_table.specs.Object.{State}
use Rattle.wf_play.specs.Played.{scripts_of}
use Rattle.wf_table.specs.Runs.{Act, IsRun, performed}
use Rattle.wf_table.specs.Sound.{IsSound}
use Rattle.wf_table.specs.Start.{sizes_of}

-- runs over compiled code
abbrev Runs : EngineParts → ℕ → List ℤ → List Act → State Run → Type 0
Runs parts n opening acts s = IsRun (code_meaning parts) (IsLawfulFor parts) (IsFitting parts.exports) (HasReserve parts) n opening acts s

-- what each of them keeps
abbrev pub KeepsSound : Type 0
KeepsSound =
    (e : CompiledParts) (n : ℕ) (opening : List ℤ) (acts : List Act) (s : State Run) → Runs e.parts n opening acts s →
    IsSound (code_meaning e.parts) (IsLawfulFor e.parts) (IsFitting e.parts.exports) (HasReserve e.parts) (sizes_of (code_meaning e.parts) n) opening s

abbrev pub HasLegalOrder : Type 0
HasLegalOrder =
    (e : CompiledParts) (n : ℕ) (opening : List ℤ) (acts : List Act) (s : State Run) → Runs e.parts n opening acts s →
    ∥ IsLegal (IsEffectOf e.parts) opening s.records.history s.records.order (take (code_meaning e.parts).variables (block_of s.cell s.cell.root)) ∥₁

module _ (Allowed : Program → Type 0) (every : KeepsSound) (ordered : HasLegalOrder) (states : StatesAreObjects) (carry : PositionsCarryLegal)
    (a : Asked) (o : ObjectParts) (compiled : IsObjectOf Allowed a o) (so : IsSoundObject o) (opens : Opens a.beginning o.program o.opening)
    (acts : List Act) (s : State Run) (runs : Runs o.engine o.processes (encoded o.opening) acts s)
    (r : Record) (processes : r.processes ≡ o.processes) (budget_is : r.budget ≡ o.engine.budget) (carried : r.carried ≡ carried_in o) (history : r.history ≡ s.records.history) (order : r.order ≡ s.records.order) (schedule : r.schedule ≡ s.records.schedule)
    (events : length r.history < 2 ^ 64) where
  abbrev engine : CompiledParts
  engine = record { parts = o.engine; compiled = ∣ (o.program, record { well = so.well; parts_are = so.engine_is }) ∣₁ }

  pub writable_run : ∥ IsMeantOrder o.program o.engine.budget opens.state r ∥₁ → ∥ IsWritable o.program r ∥₁
  writable_run meant =
      ∥∥₁_elim (ordered engine o.processes (encoded o.opening) acts s runs) squash₁ (λ l.
      ∥∥₁_map meant (λ m.
      writable Allowed states carry a o compiled so opens s runs.few runs.some (every engine o.processes (encoded o.opening) acts s runs) r processes budget_is carried history order schedule events l m))

-- with the state with which an object begins, the calls of its record begin
begins_named : (beginning : Beginning) (program : Program) (opening : Activation) (opens : Opens beginning program opening) →
    BeginsNamed program (carried_from (is_carried beginning) opening) opens.state
begins_named ByBody program opening opens = opens.opens
begins_named (ByValues values) program opening opens = opens.same

-- the text of a writable record whose order is legal is verified
module _ (Allowed : Program → Type 0) (verified : LegalIsVerified) (a : Asked) (o : ObjectParts) (compiled : IsObjectOf Allowed a o) (opens : Opens a.beginning o.program o.opening)
    (r : Record) (budget_is : r.budget ≡ o.engine.budget) (carried : r.carried ≡ carried_in o) where
  begins : BeginsNamed o.program r.carried opens.state
  begins =
      subst (λ (c : Option Activation). BeginsNamed o.program c opens.state)
      (sym (carried ∙ ap (λ (b : Bool). carried_from b o.opening) compiled.carried_is))
      (begins_named a.beginning o.program o.opening opens)

  pub verified_record : IsWritable o.program r → IsMeantOrder o.program o.engine.budget opens.state r → IsVerified a.text (record_text o.program r)
  verified_record w m =
      verified a.text o.program opens.state m.last r compiled.is_module begins w
      (subst (λ (b : ℕ). IsLegal (CallMeans o.program b) opens.state r.history r.order m.last) (sym budget_is) m.legal)

-- ---- runs from texts

module _ (Allowed : Program → Type 0) where
  pub writable_performance : KeepsSound → HasLegalOrder → StatesAreObjects → PositionsCarryLegal → ObjectsAreSound Allowed → PerformedIsWritable Allowed
  writable_performance every ordered states carry sound = λ t r p events.
      let o = p.object in
      let shows = p.shows.recorded in
      let same : o.engine.budget ≡ t.asked.budget = ap (λ (q : EngineParts). q.budget) p.compiled.engine_is in
      let legal = subst (λ (b : ℕ). ∥ IsMeantOrder o.program b p.compiled.opens.state r ∥₁) (sym same) p.legal in
      writable_run Allowed every ordered states carry t.asked o p.compiled (sound t.asked o p.compiled) p.compiled.opens
      (performed (scripts_of p.calls) shows.state.records.schedule) shows.state shows.played.runs r shows.processes shows.budget p.shows.carried shows.history shows.order shows.schedule events legal

  pub printed_record : LegalIsVerified → PerformedIsWritable Allowed → PrintedIsVerified Allowed
  printed_record verified writable = λ t output printed.
      let p = printed.performs in
      let o = p.object in
      let r = printed.shown in
      let same : o.engine.budget ≡ t.asked.budget = ap (λ (q : EngineParts). q.budget) p.compiled.engine_is in
      let legal = subst (λ (b : ℕ). ∥ IsMeantOrder o.program b p.compiled.opens.state r ∥₁) (sym same) p.legal in
      ∥∥₁_elim (writable t r p printed.events) squash₁ (λ w.
      ∥∥₁_map legal (λ m.
      subst (λ (bytes : List ℕ). IsVerified t.asked.text bytes) (sym printed.printed)
      (verified_record Allowed verified t.asked o p.compiled p.compiled.opens r p.shows.recorded.budget p.shows.carried w m)))
