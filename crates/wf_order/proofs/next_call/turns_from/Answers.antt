-- One process more has such a call, or has none.
use Rattle.std.proofs.Common.{◌≡◌, sym, ap, subst, ◌∙◌, ◌+◌, ◌<◌, ◌≤◌, Option, Some, None, arith}
use Rattle.std.proofs.lemmas.Option.{same_Some}
use Rattle.smallvec.specs.SmallVec.{SmallVec}
use Rattle.wf_order.specs.declared.rows.Begun.{Begun}
use Rattle.wf_order.specs.declared.next_call.Turn.{Turn}
use Rattle.wf_order.specs.Turns.{AreTurns}
use Rattle.wf_order.proofs.Turning.{turns_kept, turns_more}
use Rattle.wf_order.proofs.next_call.turns_from.Goals.{then-place-limit+then-place-from+in_ok-push, else-place-limit, else-place-limit-via-then-place-limit+else-place-from, else-place-limit-via-else-place-limit}
use Rattle.wf_order.proofs.next_call.turns_from.Goals as goal

pub loop-process-preserved-in_default : goal.loop-process-preserved-in_default
loop-process-preserved-in_default c =
    let is = sym c.begun_at.ensures.item ∙ c.in_default.is in
    turns_kept c.args.rows.now c.args.counts.now c.args.from c.args.limit c.loop-process.process c.loop-process.turns.items c.loop-process.invariant
    (λ b next low early. let there : ◌≡◌ {A = Option Begun} None (Some b) = sym is ∙ next in absurd (cc))

pub loop-process-preserved : goal.loop-process-preserved
loop-process-preserved c =
    let rows = c.args.rows.now in
    let counts = c.args.counts.now in
    let from = c.args.from in
    let limit = c.args.limit in
    let process = c.loop-process.process in
    let turns = c.loop-process.turns.items in
    let begun = c.in-Some.begun in
    let is = sym c.begun_at.ensures.item ∙ c.in-Some.is in
    elim c.if-place-limit.branch [
      | then-place-limit+then-place-from+in_ok-push w ↦
          subst (λ (v : SmallVec Turn). AreTurns rows counts (process + 1) from limit v.items) (sym w.turns-is)
          (subst (AreTurns rows counts (process + 1) from limit) (sym w.in_ok-push.ensures.ok)
          (turns_more rows counts from limit process turns begun c.loop-process.invariant is (let low = w.if-place-from.true in omega (arith, low)) (let early = w.if-place-limit.true in omega (arith, early))))
      | else-place-limit w ↦
          let never : from ≤ begun.place → begun.place < limit → ⊥ = elim w.else-place-limit.branch [
            | else-place-limit-via-then-place-limit+else-place-from v ↦ λ low early. let f = v.if-place-from.false in absurd (omega (arith, f, low))
            | else-place-limit-via-else-place-limit v ↦ λ low early. let f = v.if-place-limit.false in absurd (omega (arith, f, early))
          ] in
          subst (λ (v : SmallVec Turn). AreTurns rows counts (process + 1) from limit v.items) (sym w.turns-is)
          (turns_kept rows counts from limit process turns c.loop-process.invariant (λ b next low early.
          let same : begun.place ≡ b.place = ap (λ (x : Begun). x.place) (same_Some begun b (sym is ∙ next)) in never (omega (arith, same, low)) (omega (arith, same, early))))
    ]
