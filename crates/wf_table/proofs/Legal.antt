-- The order is legal: the replies that were given are those of the calls made one at a time.
use Rattle.std.proofs.Common.{◌≡◌, ℕ, zero, suc, List, [], ◌∷◌, take, refl, sym, ap, ◌∙◌, arith, subst}
use Rattle.std.specs.Prelude.{ℤ, Option, Some, None, slice_get}
use Rattle.std.specs.List.{Contains}
use Rattle.std.proofs.Math.Logic.{∥∥₁_elim, ∥∥₁_map, ∥∥₁_prop}
use Rattle.ll_cell.specs.Cell.{block_of}
use Rattle.ob_interface.specs.Call.{ObjectCall, Reply}
use Rattle.wf_history.specs.declared.event.CallId.{CallId}
use Rattle.wf_history.specs.History.{Event, End}
use Rattle.wf_history.specs.Legal.{OneAtATime, none, more, HasBegun, RepliesAgree, IsLegal}
use Rattle.wf_table.specs.declared.process.Sizes.{Sizes}
use Rattle.wf_table.specs.Meaning.{Meaning}
use Rattle.wf_table.specs.Law.{Effects, IsLawful}
use Rattle.wf_table.specs.StepTable.{Process}
use Rattle.wf_table.specs.Object.{State, Records, event_at, step_by, submit_by}
use Rattle.wf_table.specs.Runs.{Act, Steps, Submits, ActsFit, act_of, run, IsRun}
use Rattle.wf_table.specs.Sound.{IsSound}
use Rattle.wf_table.specs.Start.{sizes_of}
use Rattle.wf_table.proofs.TableRuns.{run_sound}
use Rattle.wf_table.specs.HelpAndOrder.{IsCommitted}
use Rattle.wf_table.proofs.HelpAndOrderLaws.{order_once}
use Rattle.wf_table.proofs.HelpAndOrderRuns.{founded, act_committed, run_committed}
use Rattle.wf_table.proofs.Timed.{never_before}
use Rattle.wf_table.specs.HelpAlone.{Alone}
use Rattle.wf_table.specs.Contents.{RootHolds}
use Rattle.wf_table.proofs.Alones.{alone_lawful}
use Rattle.wf_table.proofs.Effects.{alone_effect, begun_fits}
use Rattle.wf_table.proofs.HelpRuns.{run_helped}
use Rattle.wf_table.specs.Answers.{Agree, AreAnswered}
use Rattle.wf_table.proofs.Answered.{after, new_reply}
use Rattle.wf_table.proofs.StandingRuns.{AllStand, act_standing, run_standing}
use Rattle.wf_table.proofs.Unique.{one_call}

-- replies of an order that is made one at a time, which agree with a history
record Replied (Effect : Effects) (history : List (Event ObjectCall Reply)) (a b : List ℤ) (ids : List CallId) : Type 0 where
  replies : List Reply
  made : OneAtATime (HasBegun history) Effect a ids replies b
  agree : RepliesAgree history ids replies

module _ {Run : Type 0} (m : Meaning Run) (lawful : List ℤ → Type 0) (fits : ObjectCall → Type 0) (ready : Run → Type 0) (Effect : Effects) (law : IsLawful m lawful fits ready Effect) where
  -- calls made alone, one at a time, have replies that agree with those that were given
  replies_of : (history : List (Event ObjectCall Reply)) → ((id : CallId) (a b : ObjectCall) → HasBegun history id a → HasBegun history id b → a ≡ b) → ((id : CallId) (call : ObjectCall) → HasBegun history id call → fits call) → (a b : List ℤ) (ids : List CallId) (words : List (List ℤ)) → ∥ lawful a ∥₁ → OneAtATime (HasBegun history) (Alone m) a ids words b → Agree m history ids words → ∥ Replied Effect history a b ids ∥₁
  replies_of history one fit a b [] words ok none agree = ∣ record { replies = []; made = none; agree = none } ∣₁
  replies_of history one fit a b (x ∷ ids) words ok (more {between = between} {call = call} {answer = w} {answers = ws} made does rest) agree =
      let later = replies_of history one fit between b ids ws (alone_lawful m lawful fits ready Effect law call a between w ok (fit x call made) does) rest
      (λ i id reply at ended. agree (suc i) id reply (omega (arith, at.0), at.1) ended) in
      let given : (other : Reply) → Contains history (End x other) → other ≡ m.reply call w =
      λ other ended. (let r = agree zero x other (omega arith, refl) ended in r.stands_for ∙ ap (λ (k : ObjectCall). m.reply k w) (one x r.call call r.begun made)) in
      ∥∥₁_elim (alone_effect m lawful fits ready Effect law call a between w ok (fit x call made) does) ∥∥₁_prop (λ effect. ∥∥₁_map later (λ l.
      record { replies = m.reply call w ∷ l.replies; made = more made effect l.made; agree = more given l.agree }))

  -- the order is legal
  pub legal : (z : Sizes) (opening : List ℤ) (s : State Run) → IsSound m lawful fits ready z opening s → IsCommitted z s → RootHolds m lawful z opening s.records.history s.records.order (block_of s.cell s.cell.root) → AreAnswered m opening s.records.history s.records.order → ∥ IsLegal Effect opening s.records.history s.records.order (take z.variables (block_of s.cell s.cell.root)) ∥₁
  legal z opening s sound committed holds answered =
      let h = s.records.history in
      let order = s.records.order in
      let once = order_once z s.cell s.processes s.records committed.ordered in
      let replied = replies_of h (λ id a b. one_call h sound.in_turn id a b) (begun_fits m lawful fits ready z opening s sound) opening holds.last order holds.words ∣ sound.opens ∣₁ holds.made.made (answered holds.words holds.last holds.made.made) in
      ∥∥₁_map replied (λ r. record {
        once = once;
        ended = λ id reply within. committed.timed.ended within.0 id reply (within.1, within.2);
        in_time = λ first second third a b split before. never_before h order first second third a b once committed.timed split before;
        replies = r.replies;
        made = subst (λ (last : List ℤ). OneAtATime (HasBegun h) Effect opening order r.replies last) (sym holds.variables) r.made;
        agree = r.agree;
      })

  -- what is said of the replies that were given
  abbrev pub Answered : List ℤ → State Run → Type 0
  Answered opening s = AreAnswered m opening s.records.history s.records.order

  abbrev pub Holds : Sizes → List ℤ → State Run → Type 0
  Holds z opening s = RootHolds m lawful z opening s.records.history s.records.order (block_of s.cell s.cell.root)

  pub step_answered : (z : Sizes) (opening : List ℤ) (s : State Run) (p : ℕ) (o : Option (Process Run)) → slice_get s.processes p ≡ o → IsSound m lawful fits ready z opening s → IsSound m lawful fits ready z opening (step_by m z s p o) → IsCommitted z s → IsCommitted z (step_by m z s p o) → AllStand z s → Holds z opening s → Holds z opening (step_by m z s p o) → Answered opening s → Answered opening (step_by m z s p o)
  step_answered z opening s p None at sound sound' committed committed' h holds holds' answered = answered
  step_answered z opening s p (Some q) at sound sound' committed committed' h holds holds' answered =
      let c = s.cell in
      let r = s.records in
      let event = event_at q.label m z c s.processes p q in
      let next = step_by m z s p (Some q) in
      after m lawful opening r.history r.order holds.words holds.last holds.made.made (answered holds.words holds.last holds.made.made) event holds'.words holds'.last sound'.in_turn
      (order_once z next.cell next.processes next.records committed'.ordered)
      (λ id reply within. committed.timed.ended within.0 id reply (within.1, within.2))
      holds'.made.made
      (new_reply m lawful z opening c s.processes r p q at holds q.label refl sound.replies sound.in_turn (sound.own_calls p q at).calls (founded m lawful fits ready z opening s sound) committed.helpful committed.ordered h)

  submit_answered : (opening : List ℤ) (s : State Run) (p : ℕ) (call : ObjectCall) (o : Option (Process Run)) → Answered opening s → Answered opening (submit_by s p call o)
  submit_answered opening s p call None h = h
  submit_answered opening s p call (Some q) h = h

  act_answered : (z : Sizes) (opening : List ℤ) (s : State Run) (act : Act) → IsSound m lawful fits ready z opening s → IsSound m lawful fits ready z opening (act_of m z s act) → IsCommitted z s → IsCommitted z (act_of m z s act) → AllStand z s → Holds z opening s → Holds z opening (act_of m z s act) → Answered opening s → Answered opening (act_of m z s act)
  act_answered z opening s (Steps p) sound sound' committed committed' h holds holds' answered = step_answered z opening s p (slice_get s.processes p) refl sound sound' committed committed' h holds holds' answered
  act_answered z opening s (Submits p call) sound sound' committed committed' h holds holds' answered = submit_answered opening s p call (slice_get s.processes p) answered

  acts_answered : (z : Sizes) (opening : List ℤ) (acts : List Act) (s : State Run) → ((more : List Act) → ActsFit fits more → IsSound m lawful fits ready z opening (run m z more s)) → ((more : List Act) → ActsFit fits more → Holds z opening (run m z more s)) → ActsFit fits acts → IsCommitted z s → AllStand z s → Answered opening s → Answered opening (run m z acts s)
  acts_answered z opening [] s sound holds fit committed h answered = answered
  acts_answered z opening (act ∷ acts) s sound holds fit committed h answered =
      let now = sound [] tt in
      let then = sound (act ∷ []) (fit.0, tt) in
      let committed' = act_committed m lawful fits ready Effect law z opening s act now committed in
      acts_answered z opening acts (act_of m z s act) (λ more fits_more. sound (act ∷ more) (fit.0, fits_more)) (λ more fits_more. holds (act ∷ more) (fit.0, fits_more)) fit.1 committed'
      (act_standing m lawful fits ready Effect law z opening s act now then committed h)
      (act_answered z opening s act now then committed committed' h (holds [] tt) (holds (act ∷ []) (fit.0, tt)) answered)

  -- every state of a run
  pub run_legal : (n : ℕ) (opening : List ℤ) (acts : List Act) (s : State Run) → IsRun m lawful fits ready n opening acts s → ∥ IsLegal Effect opening s.records.history s.records.order (take m.variables (block_of s.cell s.cell.root)) ∥₁
  run_legal n opening acts s h =
      let z = sizes_of m n in
      let leads : (more : List Act) → ActsFit fits more → IsRun m lawful fits ready n opening more (run m z more h.start) =
      λ more fit. record { some = h.some; few = h.few; opens = h.opens; fit = fit; start = h.start; begins = h.begins; leads = refl } in
      let holds : (acts' : List Act) (s' : State Run) → IsRun m lawful fits ready n opening acts' s' → Holds z opening s' = λ acts' s' h'. (run_helped m lawful fits ready Effect law n opening acts' s' h').root in
      let first : Answered opening h.start = subst (λ (r : Records). AreAnswered m opening r.history r.order) (sym h.begins.records) (λ words last made i id reply at ended. absurd (omega (arith, at.0))) in
      let answered : Answered opening s = subst (Answered opening) h.leads
      (acts_answered z opening acts h.start (λ more fit. run_sound m lawful fits ready Effect law n opening more (run m z more h.start) (leads more fit)) (λ more fit. holds more (run m z more h.start) (leads more fit)) h.fit
      (run_committed m lawful fits ready Effect law n opening [] h.start (leads [] tt)) (run_standing m lawful fits ready Effect law n opening [] h.start (leads [] tt)) first) in
      legal z opening s (run_sound m lawful fits ready Effect law n opening acts s h) (run_committed m lawful fits ready Effect law n opening acts s h) (holds acts s h) answered
