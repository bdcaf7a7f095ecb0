-- Each history is read: its lines lead to what it tells.
use Rattle.std.proofs.Common.{◌≡◌, ◌∙◌, ℕ, ◌+◌, ◌<◌, suc, List, [], ◌∷◌, ◌++◌, inl, inr, All, Option, Some, None, IsTrue, length, slice_get, refl, sym, ap, ap₂, subst, arith, append_assoc, append-nil}
use Rattle.std.proofs.lemmas.List.{length_push}
use Rattle.std.proofs.lemmas.List.Elements.{All-head, All-tail}
use Rattle.ob_checked.specs.Exports.{signatures}
use Rattle.ob_meaning.specs.ByPositionStore.{Activation, Holds}
use Rattle.ob_interface.specs.Call.{ObjectCall, Reply}
use Rattle.ob_text_reading.specs.HistoryLines as Lines
use Rattle.ob_text_reading.specs.HistoryLines.{AreEventLines, AtMostOne, HistoryTold, IsAnyCount, IsAnyTitle, IsFront, IsHistoryOf, IsHistoryPart, IsNamedEvent, TellsBudget, TellsOpening, process_numbers}
use Rattle.ob_text_reading.specs.LineReading.{TakesLine}
use Rattle.ob_text_reading.specs.Reading as Reading
use Rattle.ob_text_reading.specs.Reading.{GoesOn, Heard, Leads, LeadsAs, NamesCalls, at_start, carried_in, is_opened, place, told_in}
use Rattle.ob_text_values_reading.specs.LineKinds.{kind_of}
use Rattle.ob_text_values_reading.specs.declared.kind.LineKind.{LineKind}
use Rattle.ob_text_values_reading.specs.declared.kind.LineKind.TheVariants as Kinds
use Rattle.ob_text_values_reading.specs.declared.kind.Stage.{Stage}
use Rattle.ob_text_values_reading.specs.declared.kind.Stage.TheVariants as Stages
use Rattle.ob_text_reading.proofs.Rest.{opened_all}
use Rattle.ob_text_reading.proofs.Steps.{Steps, here, joined, next, one_end}
use Rattle.ob_text_reading.proofs.OneEvent.{event_parts}
use Rattle.ob_text_reading.specs.Openings as Openings
use Rattle.ob_text_reading.specs.Openings.{AreOpenings, IsOpening}
use Rattle.ob_text_reading.specs.RecordLines as Records
use Rattle.ob_text_reading.specs.RecordLines.{IsApplied, IsBudget, IsEvent, IsOrder, IsTail, Line}
use Rattle.ob_typing.specs.Program.{Program, Variable}
use Rattle.wf_history.proofs.Positions.{place_here}
use Rattle.wf_history.specs.declared.event.CallId.{CallId}
use Rattle.wf_history.specs.History.{Event}

-- ---- what kinds lines are of

title_kind : {line : Line} → IsAnyTitle line → kind_of line ≡ Kinds.Title
title_kind h = ap kind_of h.title

count_kind : {line : Line} → IsAnyCount line → kind_of line ≡ Kinds.Count
count_kind (Lines.count h) = refl

budget_kind : {line : Line} {b : ℕ} → IsBudget line b → kind_of line ≡ Kinds.Budget
budget_kind (Records.budget h low) = refl

opening_kind : {variable : Variable} {line : Line} {w : _} → IsOpening variable line w → kind_of line ≡ Kinds.Opening
opening_kind h = ap kind_of h.says.parts

event_kind : {processes : ℕ} {exports : _} {before : List (Event ObjectCall Reply)} {line : Line} {e : Event ObjectCall Reply} →
    IsEvent processes exports before line e → kind_of line ≡ Kinds.Event
event_kind h = elim (event_parts h) [ inl x ↦ ap kind_of x.line_is | inr x ↦ ap kind_of x.line_is ]

applied_kind : {line : Line} → IsApplied process_numbers line → (kind_of line ≡ Kinds.Applied) × NamesCalls 65 line
applied_kind (Records.applied h) = (refl, record { ws = _; ids = _; parts = refl; each = h })

order_kind : {line : Line} {ids : List CallId} → IsOrder process_numbers line ids → (kind_of line ≡ Kinds.Order) × NamesCalls 79 line
order_kind (Records.order h) = (refl, record { ws = _; ids = _; parts = refl; each = h })

tail_kind : {line : Line} → IsTail line → kind_of line ≡ Kinds.Tail
tail_kind Records.schedule = refl
tail_kind Records.variable = refl

counted_held : {vs : List Variable} {ls : List Line} {held : Activation} → AreOpenings vs ls held → length held ≡ length vs
counted_held Openings.none = refl
counted_held (Openings.more h hs) = ap suc (counted_held hs)

lines_held : {vs : List Variable} {ls : List Line} {held : Activation} → AreOpenings vs ls held → length held ≡ length ls
lines_held Openings.none = refl
lines_held (Openings.more h hs) = ap suc (lines_held hs)

module _ (program : Program) where
  led : (h i : Heard) (line : Line) {kind : LineKind} → kind_of line ≡ kind → LeadsAs program h line kind i → Leads program h line i
  led h i line e l = subst (λ (k : LineKind). LeadsAs program h line k i) (sym e) l

  abbrev heard : Stage → Option ℕ → Activation → List (Event ObjectCall Reply) → Heard
  heard stage budget held events = record { stage = stage; budget = budget; held = held; events = events }

  -- lines lead to a stage before this one
  abbrev LeadsBelow : ℕ → Heard → List Line → Option ℕ → Activation → List (Event ObjectCall Reply) → Type 0
  LeadsBelow most h ls budget held events = (stage : Stage) × (place stage < most) × Steps program h ls (heard stage budget held events)

  title_leads : {ls : List Line} → AtMostOne IsAnyTitle ls → LeadsBelow 2 at_start ls None [] []
  title_leads Lines.none = (Stages.Start, omega arith, here)
  title_leads (Lines.one h) = (Stages.Title, omega arith, next (led _ _ _ (title_kind h) (omega arith, h, refl)) here)

  count_leads : (stage : Stage) → place stage < 2 → {ls : List Line} → AtMostOne IsAnyCount ls → LeadsBelow 3 (heard stage None [] []) ls None [] []
  count_leads stage early Lines.none = (stage, omega (arith, early), here)
  count_leads stage early (Lines.one h) = (Stages.Count, omega arith, next (led _ _ _ (count_kind h) (early, h, refl)) here)

  budget_leads : (stage : Stage) → place stage < 3 → {ls : List Line} {b : Option ℕ} → TellsBudget ls b → LeadsBelow 4 (heard stage None [] []) ls b [] []
  budget_leads stage early Lines.none = (stage, omega (arith, early), here)
  budget_leads stage early (Lines.told {b = b} h) = (Stages.Budget, omega arith, next (led _ _ _ (budget_kind h) (b, early, h, refl)) here)

  front_leads : {ls : List Line} {b : Option ℕ} → IsFront ls b → LeadsBelow 4 at_start ls b [] []
  front_leads {ls} {b} f =
      let first = title_leads f.titles in
      let second = count_leads first.0 first.1 f.counts in
      let third = budget_leads second.0 second.1 f.tells in
      (third.0, third.1, subst (λ (xs : List Line). Steps program at_start xs (heard third.0 b [] [])) (sym f.parts) (joined program (joined program first.2 second.2) third.2))

  -- openings lead on, from that of the first variable of which there is none yet
  openings_lead : (stage : Stage) (b : Option ℕ) (a : Activation) (first others : List Variable) {vs : List Variable} {ls : List Line} {held : Activation} → place stage < 5 →
      program.variables ≡ first ++ (vs ++ others) → length a ≡ length first → AreOpenings vs ls held → LeadsBelow 5 (heard stage b a []) ls b (a ++ held) []
  openings_lead stage b a first others early order long Openings.none =
      (stage, early, subst (λ (x : Activation). Steps program (heard stage b a []) [] (heard stage b x [])) (sym (append-nil a)) here)
  openings_lead stage b a first others early order long (Openings.more {variable = v} {variables = vs} {line = line} {ls = ls} {w = w} {held = held} h hs) =
      let own : slice_get program.variables (length a) ≡ Some v =
      ap₂ slice_get order long ∙ place_here first (vs ++ others) v in
      let on : program.variables ≡ (first ++ v ∷ []) ++ (vs ++ others) = order ∙ sym (append_assoc first (v ∷ []) (vs ++ others)) in
      let longer : length (a ++ Holds w ∷ []) ≡ length (first ++ v ∷ []) = length_push a (Holds w) ∙ ap (λ n. n + 1) long ∙ sym (length_push first v) in
      let rest = openings_lead Stages.Openings b (a ++ Holds w ∷ []) (first ++ v ∷ []) others (omega arith) on longer hs in
      let lead : Leads program (heard stage b a []) line (heard Stages.Openings b (a ++ Holds w ∷ []) []) =
      led _ _ _ (opening_kind h) (record { variable = v; value = w; early = early; own = own; says = h; after = refl }) in
      (rest.0, rest.1, subst (λ (x : Activation). Steps program (heard stage b a []) (line ∷ ls) (heard rest.0 b x [])) (append_assoc a (Holds w ∷ []) held) (next lead rest.2))

  tails_lead : (b : Option ℕ) (held : Activation) (events : List (Event ObjectCall Reply)) (ls : List Line) → All IsTail ls →
      Steps program (heard Stages.Order b held events) ls (heard Stages.Order b held events)
  tails_lead b held events [] h = here
  tails_lead b held events (line ∷ ls) h =
      let first : IsTail line = All-head IsTail line ls h in
      next (led _ _ _ (tail_kind first) (refl, first, refl)) (tails_lead b held events ls (All-tail IsTail line ls h))

  -- a line of an event or of applied calls leads on, where it may stand
  goes_on : (h : Heard) (line : Line) (after : List (Event ObjectCall Reply)) → place h.stage < 6 → IsTrue (is_opened program.variables h.held) →
      GoesOn (signatures program) h.events line after → Leads program h line (heard Stages.Events h.budget h.held after)
  goes_on h line after early opened (Reading.event {e = e} n) =
      led _ _ _ (event_kind n.next.form) (record { e = e; early = early; opened = opened; says = n; after = refl })
  goes_on h line after early opened (Reading.applied n) = let k = applied_kind n in led _ _ _ k.0 (early, opened, k.1, refl)

  pub line_goes_on : (h : Heard) (text : List ℕ) (after : List (Event ObjectCall Reply)) (rest : List ℕ) → place h.stage < 6 →
      IsTrue (is_opened program.variables h.held) → TakesLine (GoesOn (signatures program) h.events) text after rest →
      TakesLine (Leads program h) text (heard Stages.Events h.budget h.held after) rest
  line_goes_on h text after rest early opened t = record { line = t.line; parts = t.parts; leads = goes_on h t.line after early opened t.leads }

  events_lead : (stage : Stage) (b : Option ℕ) (held : Activation) → IsTrue (is_opened program.variables held) → place stage < 6 →
      {before all : List (Event ObjectCall Reply)} {ls : List Line} → AreEventLines (signatures program) before ls all →
      (last : Stage) × Steps program (heard stage b held before) ls (heard last b held all)
  events_lead stage b held opened early Lines.over = (stage, here)
  events_lead stage b held opened early (Lines.event n hs) =
      let rest = events_lead Stages.Events b held opened (omega arith) hs in
      (rest.0, next (goes_on _ _ _ early opened (Reading.event n)) rest.1)
  events_lead stage b held opened early (Lines.applied n hs) =
      let rest = events_lead Stages.Events b held opened (omega arith) hs in
      (rest.0, next (goes_on _ _ _ early opened (Reading.applied n)) rest.1)
  events_lead stage b held opened early (Lines.order {all = all} {rest = rest} n tails) =
      let k = order_kind n in
      (Stages.Order, next (led _ _ _ k.0 (early, opened, k.1, refl)) (tails_lead b held all rest tails))

  -- the values with which the object began
  record Began (ls : List Line) (carried : Option Activation) : Type 0 where
    held : Activation
    vs : List Variable
    others : List Variable
    order : program.variables ≡ vs ++ others
    each : AreOpenings vs ls held
    carries : carried_in held ≡ carried
    opened : IsTrue (is_opened program.variables held)

  began : {ls : List Line} {carried : Option Activation} → TellsOpening program.variables ls carried → Began ls carried
  began Lines.none = record { held = []; vs = []; others = program.variables; order = refl; each = Openings.none; carries = refl; opened = refl }
  began (Lines.told {held = []} h) = absurd (let e = lines_held h in omega (arith, e))
  began (Lines.told {held = w ∷ held} h) =
      let all : length (w ∷ held) ≡ length program.variables = counted_held h in
      record { held = w ∷ held; vs = program.variables; others = []; order = sym (append-nil program.variables); each = h; carries = refl; opened = opened_all (length (w ∷ held)) (length program.variables) all }

  -- where a history leads
  pub record Arrives (ls : List Line) (t : HistoryTold) : Type 0 where
    pub last : Heard
    pub steps : Steps program at_start ls last
    pub tells : told_in last ≡ t
    pub opened : IsTrue (is_opened program.variables last.held)

  same_told : (b : Option ℕ) (carried : Option Activation) (events : List (Event ObjectCall Reply)) (t : HistoryTold) → t.budget ≡ b → t.carried ≡ carried → t.events ≡ events →
      ◌≡◌ {A = HistoryTold} (record { budget = b; carried = carried; events = events }) t
  same_told b carried events t x y z = rw (← x, ← y, ← z) refl

  pub arrives : {ls : List Line} {t : HistoryTold} → IsHistoryOf program ls t → Arrives ls t
  arrives {ls} {t} h =
      let front = front_leads h.fronts in
      let start = began h.opening in
      let opened = openings_lead front.0 t.budget [] [] start.others (omega (arith, front.1)) start.order refl start.each in
      let behind = events_lead opened.0 t.budget start.held start.opened (omega (arith, opened.1)) h.tells in
      record {
        last = heard behind.0 t.budget start.held t.events;
        steps = subst (λ (xs : List Line). Steps program at_start xs (heard behind.0 t.budget start.held t.events)) (sym h.parts) (joined program (joined program front.2 opened.2) behind.1);
        tells = same_told t.budget (carried_in start.held) t.events t refl (sym start.carries) refl;
        opened = start.opened;
      }

  -- where the first lines of one lead
  pub part_arrives : {ls : List Line} → IsHistoryPart program ls → (last : Heard) × Steps program at_start ls last
  part_arrives (Lines.whole h) = let a = arrives h in (a.last, a.steps)
  part_arrives (Lines.opened {budget = b} first others order f h) =
      let front = front_leads f in
      let opened = openings_lead front.0 b [] [] others (omega (arith, front.1)) order refl h in
      (_, joined program front.2 opened.2)

  -- lines tell one thing at most
  pub one_told : {ls : List Line} {a b : HistoryTold} → IsHistoryOf program ls a → IsHistoryOf program ls b → a ≡ b
  one_told h k =
      let x = arrives h in
      let y = arrives k in
      sym x.tells ∙ ap told_in (one_end program x.steps y.steps) ∙ y.tells
