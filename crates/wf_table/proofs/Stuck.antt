-- A body that is stuck changes neither the cell nor a process.
use Rattle.std.proofs.Common.{◌≡◌, ℕ, zero, suc, ◌<◌, ◌≤◌, List, [], ◌∷◌, ◌++◌, length, take, drop, set, refl, sym, ap, ◌∙◌, arith, subst}
use Rattle.std.specs.Prelude.{ℤ, Some, slice_get}
use Rattle.std.proofs.lemmas.List.{length-take-le, set-get_or, take_all, take-append-drop}
use Rattle.std.proofs.lemmas.Option.{slice_get_within, same_Some}
use Rattle.ll_cell.specs.Cell.{own_of, refilled}
use Rattle.ob_interface.specs.Call.{ObjectCall}
use Rattle.wf_table.specs.declared.engine_turn.EngineTurn.{EngineTurn}
use Rattle.wf_table.specs.declared.engine_turn.EngineTurn.TheVariants.{Stuck}
use Rattle.wf_table.specs.declared.process.Label.{Label}
use Rattle.wf_table.specs.declared.process.Label.TheVariants.{Body}
use Rattle.wf_table.specs.declared.process.Sizes.{Sizes}
use Rattle.wf_table.specs.Meaning.{Meaning}
use Rattle.wf_table.specs.Law.{Effects, IsLawful}
use Rattle.wf_table.specs.StepTable.{Process, after_body, body_turn, own_block, row, cell_after}
use Rattle.wf_table.specs.Object.{State, stepped}
use Rattle.wf_table.specs.Sound.{IsSound}

-- a block that is written with its own first words
refilled_same : (block : List ℤ) (v : ℕ) → v ≤ length block → refilled block (take v block) ≡ block
refilled_same block v le =
    ap (λ (n : ℕ). take (length block) (take v block ++ drop n block)) (length-take-le v block le)
    ∙ ap (take (length block)) (take-append-drop v block)
    ∙ take_all (length block) block (omega arith)

pub set_same : {X : Type 0} (xs : List X) (p : ℕ) (x : X) → slice_get xs p ≡ Some x → set xs p x ≡ xs
set_same [] p x at = refl
set_same {X} (y ∷ xs) zero x at = ap (λ (a : X). a ∷ xs) (sym (same_Some y x at))
set_same {X} (y ∷ xs) (suc p) x at = ap (λ (ys : List X). y ∷ ys) (set_same xs p x at)

module _ {Run : Type 0} (m : Meaning Run) (lawful : List ℤ → Type 0) (fits : ObjectCall → Type 0) (ready : Run → Type 0) (Effect : Effects) (law : IsLawful m lawful fits ready Effect) (z : Sizes) (opening : List ℤ) (s : State Run) (p : ℕ) (q : Process Run) where
  same_process : (t : EngineTurn) (run : Run) → t ≡ Stuck → run ≡ q.run → after_body z t (record q { run = run }) ≡ q
  same_process t run e f = rw (e, f) refl

  pub stuck_stays : slice_get s.processes p ≡ Some q → q.label ≡ Body → (body_turn m z s.cell p q).turn ≡ Stuck → IsSound m lawful fits ready z opening s → ((stepped m z s p q).cell ≡ s.cell) × ((stepped m z s p q).processes ≡ s.processes)
  stuck_stays at is stuck h =
      let c = s.cell in
      let member : p < length s.processes = slice_get_within s.processes p q at in
      let owns : p < length c.own = omega (arith, member, h.count, h.shaped.owns) in
      let long = h.shaped.block (own_of c p) (omega (arith, h.shaped.own_in p owns, h.shaped.blocks)) in
      let within : z.variables ≤ length (own_block c p) = omega (arith, long) in
      let variables : length (take z.variables (own_block c p)) ≡ m.variables = length-take-le z.variables (own_block c p) within ∙ h.variables in
      let run = law.stuck_run q.run (take z.variables (own_block c p)) (h.runs_ready p q at) variables stuck in
      let block = law.stuck_block q.run (take z.variables (own_block c p)) (h.runs_ready p q at) variables stuck in
      let cell : cell_after c p (row Body m z c p q).change ≡ c =
      ap (λ (ws : List ℤ). record c { blocks = set c.blocks (own_of c p) (refilled (own_block c p) ws) }) block
      ∙ ap (λ (ws : List ℤ). record c { blocks = set c.blocks (own_of c p) ws }) (refilled_same (own_block c p) z.variables within)
      ∙ ap (λ (bs : List (List ℤ)). record c { blocks = bs }) (set-get_or c.blocks (own_of c p) []) in
      let process : (row Body m z c p q).process ≡ q = same_process (body_turn m z c p q).turn (body_turn m z c p q).run stuck run in
      (subst (λ (l : Label). cell_after c p (row l m z c p q).change ≡ c) (sym is) cell, subst (λ (l : Label). set s.processes p (row l m z c p q).process ≡ s.processes) (sym is) (ap (set s.processes p) process ∙ set_same s.processes p q at))
