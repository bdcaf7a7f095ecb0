-- An order that is made in words is made in effects: each call has the effect and the reply that the law says.
use Rattle.std.proofs.Common.{◌≡◌, ℕ, zero, suc, ◌<◌, Bool, true, false, List, [], ◌∷◌, ◌++◌, length, get_or, take, refl, sym, ◌∙◌, arith, cond, subst, eqb}
use Rattle.std.specs.Prelude.{ℤ}
use Rattle.std.specs.List.{Contains}
use Rattle.std.proofs.Math.Logic.{∥∥₁_elim, ∥∥₁_map, ∥∥₁_prop}
use Rattle.std.proofs.lemmas.Bool.{eq-eqb}
use Rattle.std.proofs.lemmas.List.{get_or-take, length-take-le}
use Rattle.std.proofs.lemmas.List.Elements.{All-contains, Contains-append_right}
use Rattle.ll_cell.specs.Cell.{block_of}
use Rattle.ob_interface.specs.Call.{ObjectCall, Reply}
use Rattle.wf_history.specs.declared.event.CallId.{CallId}
use Rattle.wf_history.specs.History.{Event, Begin, own_call, own_calls}
use Rattle.wf_history.specs.Legal.{OneAtATime, none, more, HasBegun}
use Rattle.wf_table.specs.declared.engine_turn.EngineTurn.{EngineTurn}
use Rattle.wf_table.specs.declared.engine_turn.EngineTurn.TheVariants.{On, Returned, Trapped, Stuck}
use Rattle.wf_table.specs.declared.process.Sizes.{Sizes}
use Rattle.wf_table.specs.Meaning.{Meaning, body}
use Rattle.wf_table.specs.Law.{Effects, IsLawful}
use Rattle.wf_table.specs.Below.{EventBelow}
use Rattle.wf_table.specs.StepTable.{call_at}
use Rattle.wf_table.specs.Object.{State}
use Rattle.wf_table.specs.Sound.{IsSound}
use Rattle.wf_table.proofs.HelpAndOrderSteps.{member}
use Rattle.wf_table.specs.HelpAlone.{has_ended, left, replied, Alone}
use Rattle.wf_table.specs.Helps.{IsHelped}
use Rattle.wf_table.specs.HelpedCalls.{OrderLeads}
use Rattle.wf_table.proofs.Alones.{alone_lawful}

module _ {Run : Type 0} (m : Meaning Run) (lawful : List ℤ → Type 0) (fits : ObjectCall → Type 0) (ready : Run → Type 0) (Effect : Effects) (law : IsLawful m lawful fits ready Effect) where
  effect_by : (call : ObjectCall) (b : List ℤ) (n : ℕ) (t : EngineTurn) → lawful b → fits call → (body m n b call).turn ≡ t → has_ended t ≡ true → ∥ Effect call b (left t b (body m n b call).block) (m.reply call (replied m t (body m n b call).run)) ∥₁
  effect_by call b n On ok fit is e = absurd (cc)
  effect_by call b n Returned ok fit is e =
      let h = law.returned b call n ok fit is in
      ∥∥₁_map h.effect (λ effect. subst (λ (a : Reply). Effect call b (body m n b call).block a) (sym h.reply) effect)
  effect_by call b n (Trapped k) ok fit is e =
      let h = law.trapped b call n k ok fit is in
      ∥∥₁_map h.effect (λ effect. subst (λ (a : Reply). Effect call b b a) (sym h.reply) effect)
  effect_by call b n Stuck ok fit is e = absurd (cc)

  -- what a call alone makes of a lawful block is its effect, and the words are of its reply
  pub alone_effect : (call : ObjectCall) (b a w : List ℤ) → ∥ lawful b ∥₁ → fits call → Alone m call b a w → ∥ Effect call b a (m.reply call w) ∥₁
  alone_effect call b a w ok fit h =
      ∥∥₁_elim ok ∥∥₁_prop (λ good.
      subst (λ (v : List ℤ). ∥ Effect call b a (m.reply call v) ∥₁) h.words_are
      (subst (λ (x : List ℤ). ∥ Effect call b x (m.reply call (replied m (body m h.count b call).turn (body m h.count b call).run)) ∥₁) h.left_are
      (effect_by call b h.count (body m h.count b call).turn good fit refl h.ended)))

  -- calls that are made one at a time have their effects one at a time
  pub order_effects : (Made : CallId → ObjectCall → Type 0) → ((id : CallId) (call : ObjectCall) → Made id call → fits call) → (a b : List ℤ) (ids : List CallId) (words : List (List ℤ)) → ∥ lawful a ∥₁ → OneAtATime Made (Alone m) a ids words b → (replies : List Reply) × OneAtATime Made (λ call x y reply. ∥ Effect call x y reply ∥₁) a ids replies b
  order_effects Made fit a b [] words ok none = ([], none)
  order_effects Made fit a b (x ∷ ids) words ok (more {between = s} {call = call} {answer = w} {answers = ws} made alone rest) =
      let effect = alone_effect call a s w ok (fit x call made) alone in
      let later = order_effects Made fit s b ids ws (alone_lawful m lawful fits ready Effect law call a s w ok (fit x call made) alone) rest in
      (m.reply call w ∷ later.0, more made effect later.1)

-- a call that has begun is among its process's
first_own : (b : Bool) (call : ObjectCall) (calls : List ObjectCall) → b ≡ true → Contains (cond b (call ∷ []) [] ++ calls) call
first_own true call calls e = (0, omega arith, refl)
first_own false call calls e = absurd (cc)

begun_own : (history : List (Event ObjectCall Reply)) (id : CallId) (call : ObjectCall) (k : ℕ) → k < length history → get_or history k (Begin id call) ≡ Begin id call → Contains (own_calls id.process history) call
begun_own [] id call k lt e = absurd (omega (arith, lt))
begun_own (x ∷ history) id call zero lt e = subst (λ (y : Event ObjectCall Reply). Contains (own_call id.process y ++ own_calls id.process history) call) (sym e) (first_own (eqb id.process id.process) call (own_calls id.process history) (eq-eqb id.process id.process refl))
begun_own (x ∷ history) id call (suc k) lt e = Contains-append_right (own_call id.process x) (own_calls id.process history) call (begun_own history id call k (omega (arith, lt)) e)

same_place : {X : Type 0} (xs : List X) (k : ℕ) (d e : X) → k < length xs → get_or xs k d ≡ get_or xs k e
same_place [] k d e lt = absurd (omega (arith, lt))
same_place (x ∷ xs) zero d e lt = refl
same_place (x ∷ xs) (suc k) d e lt = same_place xs k d e (omega (arith, lt))

module _ {Run : Type 0} (m : Meaning Run) (lawful : List ℤ → Type 0) (fits : ObjectCall → Type 0) (ready : Run → Type 0) (z : Sizes) (opening : List ℤ) (s : State Run) (sound : IsSound m lawful fits ready z opening s) where
  -- every call that has begun fits
  pub begun_fits : (id : CallId) (call : ObjectCall) → HasBegun s.records.history id call → fits call
  begun_fits id call begun =
      let below : id.process < z.processes = All-contains (EventBelow z.processes) s.records.history (Begin id call) sound.below.history begun in
      let found = member s.processes id.process (omega (arith, below, sound.count)) in
      let o = found.0 in
      let script = (sound.own_calls id.process o found.1).calls in
      let within = subst (λ (calls : List ObjectCall). Contains calls call) script (begun_own s.records.history id call begun.0 begun.1 begun.2) in
      let few = (sound.in_range id.process o found.1).begun in
      let lt : within.0 < o.begun = omega (arith, within.1, length-take-le o.begun o.calls few) in
      let is : call_at o within.0 ≡ call = same_place o.calls within.0 (record { export = 0; arguments = [] }) call (omega (arith, lt, few)) ∙ sym (get_or-take o.begun o.calls within.0 call lt) ∙ within.2 in
      subst fits is ((sound.calls_fit id.process o found.1).fit within.0 (omega (arith, lt, few)))

  -- the order leads to what the root holds
  pub leads : (Effect : Effects) (law : IsLawful m lawful fits ready Effect) → IsHelped m lawful fits z opening s → OrderLeads Effect opening s.records.history s.records.order (take z.variables (block_of s.cell s.cell.root))
  leads Effect law h =
      let made = subst (λ (b : List ℤ). OneAtATime (HasBegun s.records.history) (Alone m) opening s.records.order h.root.words b) (sym h.root.variables) h.root.made.made in
      let effects = order_effects m lawful fits ready Effect law (HasBegun s.records.history) begun_fits opening (take z.variables (block_of s.cell s.cell.root)) s.records.order h.root.words ∣ sound.opens ∣₁ made in
      record { replies = effects.0; made = effects.1 }
