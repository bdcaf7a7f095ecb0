use Rattle.std.proofs.Common.{◌≡◌, ◌<◌, ◌∙◌, [], Global, List, Vec, ap, arith, below_more, get_or, length, map, refl, subst, sym, ℕ}
use Rattle.std.proofs.lemmas.List.{get_or-map}
use Rattle.ob_desk_floor.specs.declared.seat.CallAnswer.{CallAnswer}
use Rattle.ob_interface.specs.Call.{ObjectCall, Reply}
use Rattle.ob_desk_serve.specs.ServeFaults.{IsTold, IsToldAll}
use Rattle.ob_desk_serve.specs.PromisesOfServe.{calls_for}
use Rattle.ob_text_words.specs.ScriptCalls.{ScriptCall}
use Rattle.wf_history.specs.History.{Event}
use Rattle.ob_text_words.specs.ScriptCalls.{script_call_of}
use Rattle.wf_history.specs.View.{event_of}
use Rattle.ob_desk_serve.proofs.answers.first_lost.Goals as goal

-- the list that is read
read : (sent : List (Vec CallAnswer Global)) (p : ℕ) (v : Vec CallAnswer Global) (xs : List CallAnswer) → p < length sent → v ≡ get_or sent p v → xs ≡ v.items → xs ≡ get_or (map (λ list. list.items) sent) p []
read sent p v xs lt is shown = shown ∙ ap (λ (x : Vec CallAnswer Global). x.items) is ∙ sym (get_or-map (λ (x : Vec CallAnswer Global). x.items) sent p v [] lt)

module _ (history : List (Event ObjectCall Reply)) (calls : List ScriptCall) (sent : ℕ → List CallAnswer) (p count : ℕ) (xs : List CallAnswer) (shown : xs ≡ sent p) (all : count ≡ calls_for p calls) where
  told : IsTold history p count xs → IsToldAll history calls sent p
  told h = subst (λ (ys : List CallAnswer). IsTold history p (calls_for p calls) ys) shown (subst (λ (k : ℕ). IsTold history p k xs) all h)

  untold : ¬ (IsTold history p count xs) → ¬ (IsToldAll history calls sent p)
  untold apart h = apart (subst (λ (k : ℕ). IsTold history p k xs) (sym all) (subst (λ (ys : List CallAnswer). IsTold history p (calls_for p calls) ys) (sym shown) h))

pub loop-process-preserved : goal.loop-process-preserved
loop-process-preserved c =
    let p = c.loop-process.process in
    let sent = c.args.answers.now in
    let history = map event_of c.args.events.now in
    let calls = map script_call_of c.args.scripts.now in
    let lt : p < length sent = omega (arith, c.requires, c.loop-process-test.true) in
    let shown = read sent p c.index-answers-process.result c.as_slice-own.result.now lt c.index-answers-process.is c.as_slice-own.ensures.value in
    below_more (IsToldAll history calls (λ k. get_or (map (λ list. list.items) sent) k [])) p c.loop-process.invariant
    (told history calls (λ k. get_or (map (λ list. list.items) sent) k []) p c.call_count.result c.as_slice-own.result.now shown c.call_count.ensures (c.if-not-are_all.ensures.yes refl))

pub returns-then-not-are_all-clause-some : goal.returns-then-not-are_all-clause-some
returns-then-not-are_all-clause-some c =
    let p = c.loop-process.process in
    let sent = c.args.answers.now in
    let history = map event_of c.args.events.now in
    let calls = map script_call_of c.args.scripts.now in
    let lt : p < length sent = omega (arith, c.requires, c.loop-process-test.true) in
    let shown = read sent p c.index-answers-process.result c.as_slice-own.result.now lt c.index-answers-process.is c.as_slice-own.ensures.value in
    record {
      own = c.loop-process-test.true;
      lost = untold history calls (λ k. get_or (map (λ list. list.items) sent) k []) p c.call_count.result c.as_slice-own.result.now shown c.call_count.ensures (c.if-not-are_all.ensures.no refl);
      below = c.loop-process.invariant;
    }
