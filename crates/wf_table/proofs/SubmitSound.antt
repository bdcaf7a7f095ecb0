-- One more call at the end of a script keeps what every reached object has.
use Rattle.std.proofs.Common.{◌≡◌, ℕ, ◌-◌, ◌<◌, true, false, List, [], ◌∷◌, ◌++◌, length, set, get_or, refl, sym, ap, ◌∙◌, subst, arith, inl, inr}
use Rattle.std.specs.Prelude.{ℤ, Some, slice_get}
use Rattle.std.proofs.lemmas.Bool.{cases_eq}
use Rattle.std.proofs.lemmas.List.{length-set, length_push, take-append-le}
use Rattle.std.proofs.lemmas.Grind.{common_steps}
use Rattle.ll_cell.specs.Cell.{Cell, word_at}
use Rattle.ob_interface.specs.Call.{ObjectCall, Reply}
use Rattle.wf_table.specs.declared.process.Label.{Label}
use Rattle.wf_table.specs.declared.process.Label.TheVariants.{Next, Post}
use Rattle.wf_table.specs.declared.process.Sizes.{Sizes}
use Rattle.wf_table.specs.Meaning.{Meaning}
use Rattle.wf_table.specs.StepTable.{Process, open_call}
use Rattle.wf_history.specs.History.{Event}
use Rattle.wf_table.specs.Object.{State}
use Rattle.wf_table.specs.Ranges.{IsInRange}
use Rattle.wf_table.specs.Labels.{at_next, at_post}
use Rattle.wf_table.specs.Copies.{AllHoldRoot, AllCopyRoot}
use Rattle.wf_table.specs.Toggles.{StoresBit, CountsFlips}
use Rattle.wf_table.specs.Announcements.{LaysCall, words_laid}
use Rattle.wf_table.specs.Scripts.{CallsFit, TakesTurns, BeginsScript}
use Rattle.wf_table.specs.Sound.{IsSound}
use Rattle.wf_table.proofs.Frame.{each_after}

-- an element before the last one
before_last : {X : Type 0} (xs : List X) (x d : X) (k : ℕ) → k < length xs → get_or (xs ++ x ∷ []) k d ≡ get_or xs k d
before_last xs x d k lt = grind (arith, common_steps)

last_one : {X : Type 0} (xs : List X) (x d : X) (k : ℕ) → k ≡ length xs → get_or (xs ++ x ∷ []) k d ≡ x
last_one xs x d k e = grind (arith, common_steps)

posts_open : (l : Label) → at_post l ≡ true → at_next l ≡ false
posts_open Post e = refl
posts_open l e = absurd (cc)

lays_open : (z : Sizes) (l : Label) (i k : ℕ) → k < words_laid z l i → at_next l ≡ false
lays_open z Next i k lt = absurd (omega (arith, lt))
lays_open z l i k lt = refl

module _ {Run : Type 0} where
  abbrev longer : Process Run → ObjectCall → Process Run
  longer q call = record q { calls = q.calls ++ call ∷ [] }

  same_open : (z : Sizes) (q : Process Run) (call : ObjectCall) → IsInRange z q → at_next q.label ≡ false → open_call (longer q call) ≡ open_call q
  same_open z q call h out = let began = h.opened out in before_last q.calls call (record { export = 0; arguments = [] }) (q.begun - 1) (omega (arith, began, h.begun))

  longer_lays : (m : Meaning Run) (z : Sizes) (c : Cell) (p : ℕ) (q : Process Run) (call : ObjectCall) → IsInRange z q → LaysCall m z c p q → LaysCall m z c p (longer q call)
  longer_lays m z c p q call range h = record {
    listed = λ e. h.listed e ∙ ap m.lay (sym (same_open z q call range (posts_open q.label e)));
    said = λ k lt. h.said k lt ∙ ap (λ (o : ObjectCall). word_at (m.lay o) k) (sym (same_open z q call range (lays_open z q.label q.registers.i k lt)));
  }

  longer_fits : (fits : ObjectCall → Type 0) (q : Process Run) (call : ObjectCall) → fits call → CallsFit fits q → CallsFit fits (longer q call)
  longer_fits fits q call fit h = record {
    fit = λ k lt. elim (cases_eq k (length q.calls)) [
      | inl e ↦ subst fits (sym (last_one q.calls call (record { export = 0; arguments = [] }) k e)) fit
      | inr d ↦ (let below : k < length q.calls = omega (arith, lt, d, length_push q.calls call) in subst fits (sym (before_last q.calls call (record { export = 0; arguments = [] }) k below)) (h.fit k below))
    ];
  }

  longer_script : (history : List (Event ObjectCall Reply)) (z : Sizes) (p : ℕ) (q : Process Run) (call : ObjectCall) → IsInRange z q → BeginsScript history p q → BeginsScript history p (longer q call)
  longer_script history z p q call range h = record { calls = h.calls ∙ sym (take-append-le q.begun q.calls (call ∷ []) range.begun) }

  pub submit_sound : (m : Meaning Run) (lawful : List ℤ → Type 0) (fits : ObjectCall → Type 0) (ready : Run → Type 0) (z : Sizes) (opening : List ℤ) (s : State Run) (p : ℕ) (q : Process Run) (call : ObjectCall) → fits call → slice_get s.processes p ≡ Some q → IsSound m lawful fits ready z opening s → IsSound m lawful fits ready z opening (record s { processes = set s.processes p (record q { calls = q.calls ++ call ∷ [] }) })
  submit_sound m lawful fits ready z opening s p q call fit at h =
      let c = s.cell in
      let ps = s.processes in
      let r = s.records in
      let range = h.in_range p q at in
      let parity = h.flip_parity p q at in
      let stores = h.stores_bit p q at in
      let turns = h.own_events p q at in
      let links = h.links p q at in
      let fronts = h.fronts p q at in
      record {
        opens = h.opens;
        sized = h.sized;
        variables = h.variables;
        replies = h.replies;
        arguments = h.arguments;
        shaped = h.shaped;
        numbered = h.numbered;
        below = h.below;
        bits = h.bits;
        in_turn = h.in_turn;
        marks = h.marks;
        count = length-set ps p _ ∙ h.count;
        in_range = each_after (λ _ o. IsInRange z o) (λ _ o. IsInRange z o) ps p (longer q call) h.in_range
            (record { list = range.list; replies = range.replies; save = range.save; r = range.r; round = range.round; begun = omega (arith, range.begun, length_push q.calls call); opened = range.opened; tried = range.tried; index = range.index })
            (λ k o d e. e);
        calls_fit = each_after (λ _ o. CallsFit fits o) (λ _ o. CallsFit fits o) ps p (longer q call) h.calls_fit (longer_fits fits q call fit (h.calls_fit p q at)) (λ k o d e. e);
        runs_ready = each_after (λ _ o. ready o.run) (λ _ o. ready o.run) ps p (longer q call) h.runs_ready (h.runs_ready p q at) (λ k o d e. e);
        stores_bit = each_after (λ _ o. StoresBit z o) (λ _ o. StoresBit z o) ps p (longer q call) h.stores_bit (record { bit = stores.bit }) (λ k o d e. e);
        flip_parity = each_after (λ k o. CountsFlips z c k o) (λ k o. CountsFlips z c k o) ps p (longer q call) h.flip_parity (record { parity = parity.parity }) (λ k o d e. e);
        laid_words = each_after (λ k o. LaysCall m z c k o) (λ k o. LaysCall m z c k o) ps p (longer q call) h.laid_words (longer_lays m z c p q call range (h.laid_words p q at)) (λ k o d e. e);
        own_events = each_after (λ k o. TakesTurns r.history k o) (λ k o. TakesTurns r.history k o) ps p (longer q call) h.own_events (record { turns = turns.turns }) (λ k o d e. e);
        own_calls = each_after (λ k o. BeginsScript r.history k o) (λ k o. BeginsScript r.history k o) ps p (longer q call) h.own_calls (longer_script r.history z p q call range (h.own_calls p q at)) (λ k o d e. e);
        links = each_after (AllHoldRoot c) (AllHoldRoot c) ps p (longer q call) h.links (record { held = links.held }) (λ k o d e. e);
        fronts = each_after (AllCopyRoot c) (AllCopyRoot c) ps p (longer q call) h.fronts (record { front = fronts.front; loaded = fronts.loaded }) (λ k o d e. e);
      }
