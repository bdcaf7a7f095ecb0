-- Texts have one record as text, whether the run is over code or over the tree.
use Rattle.std.proofs.Common.{◌≡◌, ◌∙◌, ℕ, true, List, ◌++◌, refl, sym, ap, subst}
use Rattle.std.specs.Prelude.{codes}
use Rattle.std.specs.List.{flat_map}
use Rattle.std.specs.Str.{bytes_eq}
use Rattle.std.proofs.Math.Bool.{Bool-set}
use Rattle.std.proofs.Math.Logic.{∥∥₁_elim}
use Rattle.std.proofs.lemmas.Slice.Eq.{bytes_eq-Decides}
use Rattle.ob_meaning.specs.Same.{SameState}
use Rattle.ob_checked.specs.Exports.{signatures}
use Rattle.ob_code_correct.specs.CodeMeaning.{EngineParts, code_meaning}
use Rattle.ob_code_correct.specs.Compiled.{HasReserve, IsFitting}
use Rattle.ob_code_correct.specs.Named.{CallMeans}
use Rattle.ob_code_correct.specs.Parts.{IsLawfulFor}
use Rattle.ob_code_scheme.specs.Layout.{encoded}
use Rattle.ob_interface.specs.Call.{ObjectCall, Reply}
use Rattle.ob_meaning.specs.ByNameObject as Named
use Rattle.ob_object_compile.proofs.Openings.{one_beginning}
use Rattle.ob_object_compile.specs.Asked.{Asked, BeginsWith}
use Rattle.ob_object_compile.specs.Compilation.{IsAny, IsObjectOf, IsShort, ObjectParts}
use Rattle.ob_object_perform.proofs.Refusals.{shows_of}
use Rattle.ob_object_perform.specs.Performance.{AreReadOf, IsMeantIn, IsPerformance, IsRunOf, Shows}
use Rattle.ob_object_perform.specs.Texts.{Texts}
use Rattle.ob_text_record.specs.Record.{Record}
use Rattle.ob_object_run.specs.Recorded.{IsMeantOrder}
use Rattle.ob_meaning.specs.ByPositionStore.{Activation}
use Rattle.ob_text_words.specs.declared.item.Item.{Item}
use Rattle.ob_text_record.specs.RecordText.{event_text, head_text, order_text, record_text, schedule_text}
use Rattle.ob_text_record.specs.Named.{named_state_text}
use Rattle.ob_text_record.specs.Variables.{state_text}
use Rattle.ob_text_words.specs.ScriptCalls.{ScriptCall}
use Rattle.ob_typing.specs.Program.{Program}
use Rattle.wf_history.proofs.Once.{one_call}
use Rattle.wf_history.specs.declared.event.CallId.{CallId}
use Rattle.wf_history.specs.History.{Event, IsHistory}
use Rattle.wf_history.specs.Legal.{HasBegun, OneAtATime, more, none}
use Rattle.wf_play.proofs.Starts.{one_record}
use Rattle.wf_play.specs.Played.{scripts_of}
use Rattle.wf_table.specs.Object.{Records}
use Rattle.wf_table.specs.declared.schedule.Turns.{Turns}

-- ---- one last state

module _ (program : Program) (budget : ℕ) (history : List (Event ObjectCall Reply)) (whole : IsHistory history) where
  abbrev Made : Named.State → List CallId → List Reply → Named.State → Type 0
  Made = OneAtATime (HasBegun history) (CallMeans program budget)

  -- calls of one history, made one at a time from one state, lead to one state
  one_last : (ids : List CallId) (answers others : List Reply) (before last last' : Named.State) → Made before ids answers last → Made before ids others last' → last ≡ last'
  one_last ids answers others before last last' none none = refl
  one_last ids answers others before last last' (more {between = between} {id = id} {ids = rest} {call = call} {answers = replies} made ends later) (more {between = between'} {call = call'} {answer = answer'} {answers = replies'} made' ends' later') =
      let same = one_call history whole id call call' made made' in
      let there = subst (λ (c : ObjectCall). Named.effect program c budget before ≡ record { state = between'; reply = answer' }) (sym same) ends' in
      let next : between' ≡ between = ap (λ (e : Named.Effect). e.state) (sym there ∙ ends) in
      one_last rest replies replies' between last last' later (subst (λ (s : Named.State). Made s rest replies' last') next later')

-- ---- one text

-- two records that differ in nothing but what stands for one state have one text
same_text : (program : Program) (r other : Record) → other.processes ≡ r.processes → other.budget ≡ r.budget → other.carried ≡ r.carried → other.history ≡ r.history → other.order ≡ r.order → other.schedule ≡ r.schedule →
    state_text program.variables other.state ≡ state_text program.variables r.state → record_text program other ≡ record_text program r
same_text program r other processes budget carried history order schedule states =
    rw (processes, budget, carried, history, order, schedule, states) refl

-- what is said of the texts of states: by position as by name
abbrev pub TextsAgree : Type 0
TextsAgree = (program : Program) (state : Named.State) (activation : Activation) → SameState program state activation → state_text program.variables activation ≡ named_state_text state

-- an object over code is one over the tree
abbrev any_of : (a : Asked) (o : ObjectParts) → IsObjectOf IsShort a o → IsObjectOf IsAny a o
any_of a o h = record {
  some = h.some;
  few = h.few;
  processes = h.processes;
  within = h.within;
  tree_is = h.tree_is;
  is_module = h.is_module;
  layout_is = h.layout_is;
  allowed = tt;
  engine_is = h.engine_is;
  opens = h.opens;
  carried_is = h.carried_is;
}

module _ (agree : TextsAgree) (t : Texts) (o : ObjectParts) (calls : List ScriptCall) (items : List Item)
    (read : AreReadOf IsAny t o calls items)
    (r : Record) (shown : Shows o calls items r) (meant : IsMeantIn o r) (whole : IsHistory r.history)
    (other : Record) (p : IsPerformance t other) where
  over_any : IsRunOf IsAny t other
  over_any = record {
    object = p.object;
    compiled = any_of t.asked p.object p.compiled;
    calls = p.calls;
    calls_are = p.calls_are;
    items = p.items;
    items_are = p.items_are;
    shows = p.shows;
    legal = p.legal;
  }

  shown_too : Shows o calls items other
  shown_too = shows_of IsAny t o calls items read over_any

  same_program : p.object.program ≡ o.program
  same_program = read.alone p.object.program p.compiled.is_module

  same_records : other.history ≡ r.history × other.order ≡ r.order × other.schedule ≡ r.schedule
  same_records =
      let e = o.engine in
      let same : shown_too.recorded.state.records ≡ shown.recorded.state.records =
      one_record (code_meaning e) (HasReserve e) o.processes (encoded o.opening) (scripts_of calls) (IsLawfulFor e) (IsFitting e.exports) items shown_too.recorded.state shown.recorded.state shown_too.recorded.played shown.recorded.played in (
        shown_too.recorded.history ∙ ap (λ (x : Records). x.history) same ∙ sym shown.recorded.history,
        shown_too.recorded.order ∙ ap (λ (x : Records). x.order) same ∙ sym shown.recorded.order,
        shown_too.recorded.schedule ∙ ap (λ (x : Records). x.schedule) same ∙ sym shown.recorded.schedule,
      )

  -- both orders lead to one state, by name
  same_states : (a : IsMeantOrder o.program t.asked.budget read.compiled.opens.state r) (b : IsMeantOrder o.program t.asked.budget read.compiled.opens.state other) → state_text o.program.variables other.state ≡ state_text o.program.variables r.state
  same_states a b =
      let opening = read.compiled.opens.state in
      let moved = subst (λ (ids : List CallId). OneAtATime (HasBegun r.history) (CallMeans o.program t.asked.budget) opening ids b.legal.replies b.last) same_records.1
      (subst (λ (es : List (Event ObjectCall Reply)). OneAtATime (HasBegun es) (CallMeans o.program t.asked.budget) opening other.order b.legal.replies b.last) same_records.0 b.legal.made) in
      let last = one_last o.program t.asked.budget r.history whole r.order a.legal.replies b.legal.replies opening a.last b.last a.legal.made moved in
      agree o.program b.last other.state b.same ∙ ap named_state_text (sym last) ∙ sym (agree o.program a.last r.state a.same)

  meant_too : ∥ IsMeantOrder o.program t.asked.budget read.compiled.opens.state other ∥₁
  meant_too =
      let opening : p.compiled.opens.state ≡ read.compiled.opens.state =
      one_beginning o.program t.asked.beginning p.compiled.opens.state read.compiled.opens.state (subst (λ (q : Program). BeginsWith t.asked.beginning q p.compiled.opens.state) same_program p.compiled.opens.opens) read.compiled.opens.opens in
      subst (λ (s : Named.State). ∥ IsMeantOrder o.program t.asked.budget s other ∥₁) opening
      (subst (λ (q : Program). ∥ IsMeantOrder q t.asked.budget p.compiled.opens.state other ∥₁) same_program p.legal)

  meant_here : ∥ IsMeantOrder o.program t.asked.budget read.compiled.opens.state r ∥₁
  meant_here =
      subst (λ (k : ℕ). ∥ IsMeantOrder o.program k read.compiled.opens.state r ∥₁) (ap (λ (e : EngineParts). e.budget) read.compiled.engine_is) (meant read.compiled.opens.state read.compiled.opens.same)

  one_text : record_text p.object.program other ≡ record_text o.program r
  one_text =
      let left = state_text o.program.variables other.state in
      let right = state_text o.program.variables r.state in
      let decides = bytes_eq-Decides left right in
      let one = Bool-set (bytes_eq left right) true in
      let state_texts = decides.0 (∥∥₁_elim meant_here one (λ a. ∥∥₁_elim meant_too one (λ b. decides.1 (same_states a b)))) in
      ap (λ (q : Program). record_text q other) same_program
      ∙ same_text o.program r other (shown_too.recorded.processes ∙ sym shown.recorded.processes) (shown_too.recorded.budget ∙ sym shown.recorded.budget) (shown_too.carried ∙ sym shown.carried) same_records.0 same_records.1 same_records.2 state_texts

  -- by the program that the run over code is of
  pub text_of_code : record_text p.object.program other ≡ record_text p.object.program r
  text_of_code = one_text ∙ ap (λ (q : Program). record_text q r) (sym same_program)
