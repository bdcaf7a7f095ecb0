-- A step keeps what every reached object has.
use Rattle.std.proofs.Common.{◌≡◌, ℕ, ◌<◌, List, length, take, refl, arith, ◌∙◌, sym}
use Rattle.std.specs.Prelude.{ℤ, Some, slice_get}
use Rattle.std.proofs.lemmas.List.{length-set, length-take-le}
use Rattle.std.proofs.lemmas.Option.{slice_get_within}
use Rattle.ll_cell.specs.Cell.{own_of}
use Rattle.ob_interface.specs.Call.{ObjectCall}
use Rattle.wf_table.specs.declared.process.Sizes.{Sizes}
use Rattle.wf_table.specs.Meaning.{Meaning}
use Rattle.wf_table.specs.Law.{Effects, IsLawful}
use Rattle.wf_table.specs.StepTable.{Process, cell_after, row, own_block}
use Rattle.wf_table.specs.Object.{State, stepped, noted, event_at}
use Rattle.wf_table.specs.Ranges.{IsInRange}
use Rattle.wf_table.specs.Copies.{AllCopyRoot}
use Rattle.wf_table.specs.Toggles.{StoresBit, CountsFlips}
use Rattle.wf_table.specs.Announcements.{LaysCall}
use Rattle.wf_table.specs.Scripts.{CallsFit, TakesTurns, BeginsScript}
use Rattle.wf_table.specs.Sound.{IsSound}
use Rattle.wf_table.proofs.Frame.{each_after}
use Rattle.wf_table.proofs.KeepsAnnouncements.{others_flips, others_lay, own_flips, own_lays}
use Rattle.wf_table.proofs.KeepsBelow.{keeps_below, seen_below}
use Rattle.wf_table.proofs.KeepsBits.{keeps_bits, keeps_stores}
use Rattle.wf_table.proofs.KeepsCopies.{others_copy, own_copies}
use Rattle.wf_table.proofs.KeepsLinks.{keeps_links}
use Rattle.wf_table.proofs.KeepsMarks.{keeps_marks}
use Rattle.wf_table.proofs.KeepsNumbers.{keeps_numbers}
use Rattle.wf_table.proofs.KeepsRanges.{keeps_shape, keeps_range, keeps_fit}
use Rattle.wf_table.proofs.KeepsReady.{keeps_ready}
use Rattle.wf_table.proofs.KeepsScripts.{others_begin, own_scripts}
use Rattle.wf_table.proofs.KeepsTurns.{others_turn, own_turns, all_own, event_in_turn}

module _ {Run : Type 0} (m : Meaning Run) (lawful : List ℤ → Type 0) (fits : ObjectCall → Type 0) (ready : Run → Type 0) (Effect : Effects) (law : IsLawful m lawful fits ready Effect) (z : Sizes) (opening : List ℤ) (s : State Run) (p : ℕ) (q : Process Run) where
  pub keeps_sound : slice_get s.processes p ≡ Some q → IsSound m lawful fits ready z opening s → IsSound m lawful fits ready z opening (stepped m z s p q)
  keeps_sound at h =
      let c = s.cell in
      let ps = s.processes in
      let r = s.records in
      let member : p < length ps = slice_get_within ps p q at in
      let within : p < z.processes = omega (arith, member, h.count) in
      let owns : p < length c.own = omega (arith, within, h.shaped.owns) in
      let own_in = h.shaped.own_in p owns in
      let range = h.in_range p q at in
      let change = (row q.label m z c p q).change in
      let after = (row q.label m z c p q).process in
      let event = event_at q.label m z c ps p q in
      let long = h.shaped.block (own_of c p) (omega (arith, own_in, h.shaped.blocks)) in
      let variables : length (take z.variables (own_block c p)) ≡ m.variables = length-take-le z.variables (own_block c p) (omega (arith, long)) ∙ h.variables in
      record {
        opens = h.opens;
        sized = h.sized;
        variables = h.variables;
        replies = h.replies;
        arguments = h.arguments;
        count = length-set ps p _ ∙ h.count;
        shaped = keeps_shape z c p _ within h.shaped;
        numbered = keeps_numbers c p _ owns h.numbered;
        in_range = each_after (λ _ o. IsInRange z o) (λ _ o. IsInRange z o) ps p _ h.in_range
            (keeps_range q.label m fits z c p q h.sized h.shaped (λ call fit. law.length_lay call fit ∙ sym h.arguments) (h.calls_fit p q at) refl range)
            (λ k o d e. e);
        below = keeps_below z.processes p q.label (own_of c p) event r within (seen_below q.label m z c ps p q within) h.below;
        calls_fit = each_after (λ _ o. CallsFit fits o) (λ _ o. CallsFit fits o) ps p _ h.calls_fit (keeps_fit q.label m fits z c p q (h.calls_fit p q at)) (λ k o d e. e);
        runs_ready = each_after (λ _ o. ready o.run) (λ _ o. ready o.run) ps p _ h.runs_ready
            (keeps_ready m lawful fits ready Effect law q.label z c p q (range.list ∙ h.arguments) variables (h.runs_ready p q at)) (λ k o d e. e);
        bits = keeps_bits m z c p q (law.length_step q.run (take z.variables (own_block c p)) (h.runs_ready p q at) variables) long range (h.stores_bit p q at) h.bits;
        stores_bit = each_after (λ _ o. StoresBit z o) (λ _ o. StoresBit z o) ps p _ h.stores_bit (keeps_stores q.label m z c p q refl range h.bits) (λ k o d e. e);
        flip_parity = each_after (λ k o. CountsFlips z c k o) (λ k o. CountsFlips z (cell_after c p change) k o) ps p _ h.flip_parity
            (own_flips q.label m z c p q within h.shaped refl range (h.flip_parity p q at)) (λ k o d e. others_flips z c p k change o d e);
        laid_words = each_after (λ k o. LaysCall m z c k o) (λ k o. LaysCall m z (cell_after c p change) k o) ps p _ h.laid_words
            (own_lays q.label m z c p q within h.shaped refl range (h.laid_words p q at)) (λ k o d e. others_lay m z c p k change o d e);
        own_events = each_after (λ k o. TakesTurns r.history k o) (λ k o. TakesTurns (noted r p q.label (own_of c p) event).history k o) ps p _ h.own_events
            (own_turns q.label m z c ps p q r.history refl range (h.own_events p q at)) (λ k o d e. others_turn r.history p k event o d (all_own q.label m z c ps p q) e);
        own_calls = each_after (λ k o. BeginsScript r.history k o) (λ k o. BeginsScript (noted r p q.label (own_of c p) event).history k o) ps p _ h.own_calls
            (own_scripts q.label m z c ps p q r.history (h.own_calls p q at)) (λ k o d e. others_begin r.history p k event o d (all_own q.label m z c ps p q) e);
        in_turn = event_in_turn q.label m z c ps p q r.history refl range (h.own_events p q at) h.in_turn;
        marks = keeps_marks q.label m z c ps p q r own_in refl h.marks;
        links = keeps_links m z c ps p q at h.links;
        fronts = each_after (λ k o. AllCopyRoot c k o × (k < length c.own)) (AllCopyRoot (cell_after c p change)) ps p _
            (λ k o e. (h.fronts k o e, omega (arith, slice_get_within ps k o e, h.count, h.shaped.owns)))
            (own_copies q.label m z c p q within h.shaped h.numbered refl range (h.links p q at) (h.fronts p q at))
            (λ k o d e. others_copy c p k change o owns e.1 d h.numbered e.0);
      }
