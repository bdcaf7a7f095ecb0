use Rattle.std.proofs.Common.{◌≡◌, ℕ, zero, suc, ◌+◌, Bool, cond, List, [], ◌∷◌, ◌++◌, map, arith, ap, sym, ◌∙◌, zero-add, int_eq}
use Rattle.std.specs.Prelude.{slice_index, not}
use Rattle.std.specs.List.{range_with_len, filter}
use Rattle.std.proofs.lemmas.Grind.{common_steps}
use Rattle.ll_cell.specs.Cell.{block_of}
use Rattle.wf_history.specs.declared.event.CallId.{CallId}
use Rattle.wf_table.specs.StepTable.{own_block, toggle_in}
use Rattle.wf_table.specs.Object.{begun_of}
use Rattle.wf_object.proofs.shown_steps.applied_ids.Goals as goal

more : (f : ℕ → CallId) (t : ℕ → Bool) (a n j : ℕ) → a + n ≡ j → map f (filter t (range_with_len a (n + 1))) ≡ map f (filter t (range_with_len a n)) ++ cond (t j) (f j ∷ []) []
more f t a zero j e = grind (arith, common_steps)
more f t a (suc n) j e = grind (arith, common_steps, more f t (a + 1) n j)

one_more : (f : ℕ → CallId) (t : ℕ → Bool) (n : ℕ) (ids after : List CallId) (b : Bool) (i : CallId) → after ≡ ids ++ cond b (i ∷ []) [] → b ≡ t n → i ≡ f n → ids ≡ map f (filter t (range_with_len 0 n)) → after ≡ map f (filter t (range_with_len 0 (n + 1)))
one_more f t n ids after b i e eb ei h =
    e ∙ ap (λ d. ids ++ cond d (i ∷ []) []) eb
    ∙ ap (λ k. ids ++ cond (t n) (k ∷ []) []) ei
    ∙ ap (λ l. l ++ cond (t n) (f n ∷ []) []) h
    ∙ sym (more f t 0 n n (zero-add n))

pub loop-q-preserved : goal.loop-q-preserved
loop-q-preserved g c =
    one_more
    (λ q. record { process = q; number = slice_index (begun_of c.args.processes.now) q })
    (λ q. not (int_eq (toggle_in c.args.z (block_of c.args.shared.now.cell c.args.shared.now.cell.root) q) (toggle_in c.args.z (own_block c.args.shared.now.cell c.args.p) q)))
    c.loop-q.q c.loop-q.ids.items c.add_if.new.ids.items c.differs.result c.open_id.result
    c.in_ok-add_if.ensures c.differs.ensures c.open_id.ensures c.loop-q.invariant
