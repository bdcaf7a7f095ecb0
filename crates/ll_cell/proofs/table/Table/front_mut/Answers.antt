use Rattle.std.proofs.Common.{◌≡◌, ℕ, ◌+◌, ◌*◌, ◌-◌, ◌≤◌, ◌++◌, length, take, drop, refl, ap, ◌∙◌, arith}
use Rattle.ll_cell.specs.Rows.{rows_kept}
use Rattle.ll_cell.proofs.Kept.{front_read}
use Rattle.ll_cell.proofs.Lent.{comes_back, overwritten}
use Rattle.ll_cell.proofs.InRange.{row_in, same_first, ends}
use Rattle.ll_cell.proofs.table.Table.front_mut.Goals as goal

pub overflow_mul-first : goal.overflow_mul-first
overflow_mul-first c =
    let t = c.self.inside in
    let row = rw (← c.self.view_is) at c.requires.row in
    record { fits = omega (arith, t.words.ok.0, t.words.ok.1, t.words.small, ends t.form t.stride t.words.items t.bits.items c.self.invariant c.args.row row 0 (omega arith)) }

pub overflow_add-first : goal.overflow_add-first
overflow_add-first c =
    let t = c.self.inside in
    let row = rw (← c.self.view_is) at c.requires.row in
    let words : c.args.count ≤ t.form.head = rw (← c.self.view_is) at c.requires.words in
    record { fits = omega (arith, t.words.ok.0, t.words.ok.1, t.words.small, ends t.form t.stride t.words.items t.bits.items c.self.invariant c.args.row row c.args.count words) }

pub slice_mut-requires-clause-in_bounds : goal.slice_mut-requires-clause-in_bounds
slice_mut-requires-clause-in_bounds c =
    let t = c.self.inside in
    let row = rw (← c.self.view_is) at c.requires.row in
    let words : c.args.count ≤ t.form.head = rw (← c.self.view_is) at c.requires.words in
    omega (arith, t.words.ok.0, ends t.form t.stride t.words.items t.bits.items c.self.invariant c.args.row row c.args.count words)

pub returns : goal.returns
returns c =
    let t = c.self.inside in
    let h = c.self.invariant in
    let row = rw (← c.self.view_is) at c.requires.row in
    let words : c.args.count ≤ t.form.head = rw (← c.self.view_is) at c.requires.words in
    let within = row_in t.form t.stride t.words.items t.bits.items h c.args.row row in
    let first = same_first t.form t.stride t.words.items t.bits.items h c.args.row row in
    let count : c.args.row * t.stride + c.args.count - c.args.row * t.stride ≡ c.args.count = omega arith in (
      (
        refl,
        λ ws.
            rw (← c.self.view_is)
            (ap (λ (n : ℕ). record { form = t.form; rows = rows_kept t.form (take n ((take (c.args.row * t.stride) t.words.items ++ (ws ++ drop (length ws) (drop (c.args.row * t.stride) t.words.items))) ++ drop (length (take (c.args.row * t.stride) t.words.items ++ (ws ++ drop (length ws) (drop (c.args.row * t.stride) t.words.items)))) t.words.items)) t.bits.items }) t.words.ok.0
            ∙ ap (λ (k : ℕ). record { form = t.form; rows = rows_kept t.form (overwritten t.words.items k ws) t.bits.items }) first
            ∙ comes_back t.form h.part t.words.items t.bits.items h.filled c.args.row within ws),
      ),
      record {
        writes_back = tt;
        value = rw (← c.self.view_is)
            (c.slice_mut.ensures.value
            ∙ ap (λ n. take n (drop (c.args.row * t.stride) t.words.items)) count
            ∙ ap (λ k. take c.args.count (drop k t.words.items)) first ∙ front_read t.form t.words.items t.bits.items c.args.row c.args.count h.filled within words);
      },
    )
