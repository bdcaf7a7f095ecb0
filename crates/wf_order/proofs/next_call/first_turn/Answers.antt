-- One turn more comes sooner, or does not.
use Rattle.std.proofs.Common.{◌≡◌, sym, ap, subst, ◌∙◌, ℕ, suc, ◌+◌, ◌<◌, ◌≤◌, List, [], ◌∷◌, ◌++◌, Some, get_or, take, true, false, arith}
use Rattle.std.proofs.Math.Dec.{ltb}
use Rattle.std.proofs.lemmas.Bool.{leb-true, ltb-false, ltb-true}
use Rattle.std.proofs.lemmas.Option.{slice_get-get_or}
use Rattle.wf_order.specs.declared.next_call.Turn.{Turn}
use Rattle.wf_order.specs.Turns.{IsFirstIn}
use Rattle.std.specs.List.{slice_get}
use Rattle.wf_history.proofs.Positions.{take_next}
use Rattle.wf_order.proofs.Turning.{first_new, first_old}
use Rattle.wf_order.proofs.next_call.first_turn.Goals.{then-turn-from, else-turn-from, then-comes_first, else-comes_first}
use Rattle.wf_order.proofs.next_call.first_turn.Goals as goal

abbrev default : Turn
default = record { process = 0; place = 0 }

one_more : (turns : List Turn) (i : ℕ) (t : Turn) → slice_get turns i ≡ Some t → take (i + 1) turns ≡ take i turns ++ t ∷ []
one_more turns i t here = let one : i + 1 ≡ suc i = omega arith in ap (λ (n : ℕ). take n turns) one ∙ take_next turns i t here

new_at : (from limit : ℕ) (turns : List Turn) (i : ℕ) (t old : Turn) → slice_get turns i ≡ Some t → IsFirstIn (take i turns) from limit old → from ≤ t.place → t.place < old.place →
    IsFirstIn (take (i + 1) turns) from limit t
new_at from limit turns i t old here h low less = subst (λ (l : List Turn). IsFirstIn l from limit t) (sym (one_more turns i t here)) (first_new from limit (take i turns) old t h low less)

old_at : (from limit : ℕ) (turns : List Turn) (i : ℕ) (t old : Turn) → slice_get turns i ≡ Some t → IsFirstIn (take i turns) from limit old → (from ≤ t.place → old.place ≤ t.place) →
    IsFirstIn (take (i + 1) turns) from limit old
old_at from limit turns i t old here h later = subst (λ (l : List Turn). IsFirstIn l from limit old) (sym (one_more turns i t here)) (first_old from limit (take i turns) old t h later)

pub loop-turn-preserved : goal.loop-turn-preserved
loop-turn-preserved c =
    let i = c.loop-turn.turn-index in
    let turns = c.args.turns.now in
    let from = c.args.from in
    let limit = c.args.limit in
    let old = c.loop-turn.first in
    let t = get_or turns i default in
    let here = slice_get-get_or turns i default c.loop-turn-test.true in
    elim c.if-comes_first.branch [
      | then-comes_first w ↦
          let yes = w.if-comes_first.true in
          let sooner : (from ≤ t.place) × (t.place < old.place) = elim c.if-turn-from.branch [
            | then-turn-from v ↦
                let low = v.if-turn-from.true in
                let less : ltb t.place old.place ≡ true = sym v.comes_first-is ∙ yes in
                (omega (arith, low), ltb-true t.place old.place less)
            | else-turn-from v ↦
                let low = leb-true from t.place (sym (sym yes ∙ v.comes_first-is)) in
                let early = v.if-turn-from.false in
                absurd (omega (arith, low, early))
          ] in
          subst (λ (x : Turn). IsFirstIn (take (i + 1) turns) from limit x) (sym w.first-is) (new_at from limit turns i t old here c.loop-turn.invariant sooner.0 sooner.1)
      | else-comes_first w ↦
          let no = w.if-comes_first.false in
          let later : from ≤ t.place → old.place ≤ t.place = elim c.if-turn-from.branch [
            | then-turn-from v ↦ λ low.
                let late : ltb t.place old.place ≡ false = sym v.comes_first-is ∙ no in
                ltb-false t.place old.place late
            | else-turn-from v ↦ λ low. let early = v.if-turn-from.false in absurd (omega (arith, early, low))
          ] in
          subst (λ (x : Turn). IsFirstIn (take (i + 1) turns) from limit x) (sym w.first-is) (old_at from limit turns i t old here c.loop-turn.invariant later)
    ]
