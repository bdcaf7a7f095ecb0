use Rattle.std.proofs.Common.{◌≡◌, ℕ, ◌+◌, ◌-◌, ◌≤◌, List, ◌++◌, length, take, drop, sym, ap, ◌∙◌, arith, Bool, true, false, cond}
use Rattle.std.specs.Prelude.{ℤ, nat_eq}
use Rattle.std.proofs.lemmas.Bool.Decides.{nat_tests}
use Rattle.std.proofs.lemmas.List.{with_items_is}
use Rattle.ll_cell.specs.Cell.{block_of, copied}
use Rattle.ll_cell.proofs.Copied.{length_copied}
use Rattle.wf_table.specs.declared.process.Label.{Label}
use Rattle.wf_table.specs.declared.process.Label.TheVariants.{Enter}
use Rattle.wf_table.specs.StepTable.{Process, own_block}
use Rattle.wf_object.specs.View.{process_view}
use Rattle.wf_object.proofs.Copying.{own_holds, saved_words}
use Rattle.wf_object.proofs.blocks.save_words.Goals as goal

pub returns-then-end-z : goal.returns-then-end-z
returns-then-end-z g c =
    let o = c.q.inside in
    let first = o.registers.i in
    let words = c.args.words in
    let z = c.args.z in
    let cell = c.args.shared.now.cell in
    let at : first ≡ c.args.q.now.registers.i = ap (λ (u : Process _). u.registers.i) c.q.view_is in
    let long : length o.save.items ≡ z.variables = ap (λ (u : Process _). length u.save) c.q.view_is ∙ c.requires.in_range.save in
    let within : first + words ≤ z.variables = omega (arith, at, c.requires.within) in
    let own = own_block cell c.args.p in
    let there : z.variables ≤ length own = own_holds z cell c.args.p c.requires.process c.requires.shaped in
    let front : c.block_words-own.result.now ≡ take z.variables own = c.block_words-own.ensures ∙ ap (λ (b : ℕ). take z.variables (block_of cell b)) c.own_block.ensures in
    let after : c.copy_from_slice.new.self ≡ take (first + words - first) (drop first c.block_words-own.result.now) = c.copy_from_slice.ensures.after in
    let value : c.deref_mut.result.now ≡ o.save.items = c.deref_mut.ensures.value in
    let all : take first c.deref_mut.result.now ++ (c.copy_from_slice.new.self ++ drop (first + words - first) (drop first c.deref_mut.result.now)) ≡ copied first words own o.save.items =
    ap (λ (ws : List ℤ). take first c.deref_mut.result.now ++ (ws ++ drop (first + words - first) (drop first c.deref_mut.result.now))) (after ∙ ap (λ (ws : List ℤ). take (first + words - first) (drop first ws)) front)
    ∙ ap (λ (ws : List ℤ). take first ws ++ (take (first + words - first) (drop first (take z.variables own)) ++ drop (first + words - first) (drop first ws))) value
    ∙ saved_words first words z.variables own o.save.items within there (omega (arith, within, long)) in
    let saved = with_items_is o.save (take first c.deref_mut.result.now ++ (c.copy_from_slice.new.self ++ drop (first + words - first) (drop first c.deref_mut.result.now))) (ap length all ∙ length_copied first words own o.save.items (omega (arith, within, long)) (omega (arith, within, there)) ∙ omega (arith, o.save.ok.0)) ∙ all in
    let registers = record o.registers { i = first + words } in
    let stands : Label → List ℤ → Process _ = λ l ws. process_view l o.calls.calls o.begun registers o.list.items o.replies.items ws o.run in
    let last : nat_eq (first + words) z.variables ≡ true = grind (arith, nat_tests, c.if-end-z.true) in
    rw (← c.q.view_is)
    (ap (stands Enter) saved ∙ ap (λ (l : Label). stands l (copied first words own o.save.items)) (sym (ap (λ (b : Bool). cond b Enter o.label) last)))

pub returns-else-end-z : goal.returns-else-end-z
returns-else-end-z g c =
    let o = c.q.inside in
    let first = o.registers.i in
    let words = c.args.words in
    let z = c.args.z in
    let cell = c.args.shared.now.cell in
    let at : first ≡ c.args.q.now.registers.i = ap (λ (u : Process _). u.registers.i) c.q.view_is in
    let long : length o.save.items ≡ z.variables = ap (λ (u : Process _). length u.save) c.q.view_is ∙ c.requires.in_range.save in
    let within : first + words ≤ z.variables = omega (arith, at, c.requires.within) in
    let own = own_block cell c.args.p in
    let there : z.variables ≤ length own = own_holds z cell c.args.p c.requires.process c.requires.shaped in
    let front : c.block_words-own.result.now ≡ take z.variables own = c.block_words-own.ensures ∙ ap (λ (b : ℕ). take z.variables (block_of cell b)) c.own_block.ensures in
    let after : c.copy_from_slice.new.self ≡ take (first + words - first) (drop first c.block_words-own.result.now) = c.copy_from_slice.ensures.after in
    let value : c.deref_mut.result.now ≡ o.save.items = c.deref_mut.ensures.value in
    let all : take first c.deref_mut.result.now ++ (c.copy_from_slice.new.self ++ drop (first + words - first) (drop first c.deref_mut.result.now)) ≡ copied first words own o.save.items =
    ap (λ (ws : List ℤ). take first c.deref_mut.result.now ++ (ws ++ drop (first + words - first) (drop first c.deref_mut.result.now))) (after ∙ ap (λ (ws : List ℤ). take (first + words - first) (drop first ws)) front)
    ∙ ap (λ (ws : List ℤ). take first ws ++ (take (first + words - first) (drop first (take z.variables own)) ++ drop (first + words - first) (drop first ws))) value
    ∙ saved_words first words z.variables own o.save.items within there (omega (arith, within, long)) in
    let saved = with_items_is o.save (take first c.deref_mut.result.now ++ (c.copy_from_slice.new.self ++ drop (first + words - first) (drop first c.deref_mut.result.now))) (ap length all ∙ length_copied first words own o.save.items (omega (arith, within, long)) (omega (arith, within, there)) ∙ omega (arith, o.save.ok.0)) ∙ all in
    let registers = record o.registers { i = first + words } in
    let stands : Label → List ℤ → Process _ = λ l ws. process_view l o.calls.calls o.begun registers o.list.items o.replies.items ws o.run in
    let more : nat_eq (first + words) z.variables ≡ false = grind (arith, nat_tests, c.if-end-z.false) in
    rw (← c.q.view_is)
    (ap (stands o.label) saved ∙ ap (λ (l : Label). stands l (copied first words own o.save.items)) (sym (ap (λ (b : Bool). cond b Enter o.label) more)))
