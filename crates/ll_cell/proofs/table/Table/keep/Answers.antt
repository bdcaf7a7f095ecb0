use Rattle.std.proofs.Common.{◌≡◌, ◌+◌, ◌*◌, ◌<◌, get_or, set, subst, ap, ◌∙◌, arith, w64, to_z, of_z, to_z-of_z}
use Rattle.std.specs.Prelude.{ℤ, List}
use Rattle.std.specs.Int.{bit_at}
use Rattle.std.proofs.lemmas.List.{get_or_read}
use Rattle.ll_cell.specs.Form.{kept_words, IsPlace, IsBit, MayStandAt}
use Rattle.ll_cell.specs.Rows.{Rows, rows_kept}
use Rattle.ll_cell.proofs.Kept.{put_word, put_bit}
use Rattle.ll_cell.proofs.InRange.{row_in, same_first, ends, word_in, kept_in}
use Rattle.ll_cell.proofs.table.Table.keep.Goals as goal

pub overflow_mul-row : goal.overflow_mul-row
overflow_mul-row c =
    let t = c.self.inside in
    let row = rw (← c.self.view_is) at c.requires.row in
    record { fits = omega (arith, t.words.ok.0, t.words.ok.1, t.words.small, ends t.form t.stride t.words.items t.bits.items c.self.invariant c.args.row row 0 (omega arith)) }

pub overflow_add-row : goal.overflow_add-row
overflow_add-row c =
    let t = c.self.inside in
    let row = rw (← c.self.view_is) at c.requires.row in
    let place = rw (← c.self.view_is) at c.requires.place in
    let below : c.in-Word.k < kept_words t.form = subst (IsPlace t.form) c.in-Word.is place in
    record { fits = omega (arith, t.words.ok.0, t.words.ok.1, t.words.small, kept_in t.form t.stride t.words.items t.bits.items c.self.invariant c.args.row row c.in-Word.k below) }

pub index_mut-requires : goal.index_mut-requires
index_mut-requires c =
    let t = c.self.inside in
    let row = rw (← c.self.view_is) at c.requires.row in
    let place = rw (← c.self.view_is) at c.requires.place in
    let below : c.in-Word.k < kept_words t.form = subst (IsPlace t.form) c.in-Word.is place in
    omega (arith, t.words.ok.0, kept_in t.form t.stride t.words.items t.bits.items c.self.invariant c.args.row row c.in-Word.k below)

pub index-bits-requires : goal.index-bits-requires
index-bits-requires c =
    let t = c.self.inside in
    let row = rw (← c.self.view_is) at c.requires.row in
    omega (arith, t.bits.ok.0, row_in t.form t.stride t.words.items t.bits.items c.self.invariant c.args.row row)

pub with_bit-requires-clause-place : goal.with_bit-requires-clause-place
with_bit-requires-clause-place c =
    let t = c.self.inside in
    let place = rw (← c.self.view_is) at c.requires.place in
    let below : c.in-Bit.q < t.form.parts = subst (IsPlace t.form) c.in-Bit.is place in
    omega (arith, below, c.self.invariant.few)

pub with_bit-requires-clause-bit : goal.with_bit-requires-clause-bit
with_bit-requires-clause-bit c =
    let same : to_z w64 (of_z w64 c.args.w) ≡ c.args.w = search (arith, to_z-of_z) in
    let bit : IsBit c.args.w = subst (λ p. MayStandAt p c.args.w) c.in-Bit.is c.requires.bit in
    rw same bit

pub index_mut-requires-in-Bit : goal.index_mut-requires-in-Bit
index_mut-requires-in-Bit c =
    let t = c.self.inside in
    let row = rw (← c.self.view_is) at c.requires.row in
    omega (arith, t.bits.ok.0, row_in t.form t.stride t.words.items t.bits.items c.self.invariant c.args.row row)

pub returns-in-Word : goal.returns-in-Word
returns-in-Word c =
    let t = c.self.inside in
    let h = c.self.invariant in
    let row = rw (← c.self.view_is) at c.requires.row in
    let b = row_in t.form t.stride t.words.items t.bits.items h c.args.row row in
    let same : to_z w64 (of_z w64 c.args.w) ≡ c.args.w = search (arith, to_z-of_z) in
    let table : List ℤ → Rows = λ ws. record { form = t.form; rows = rows_kept t.form ws t.bits.items } in
    rw (← c.self.view_is)
    (λ i word at.
    ap (λ w. table (set t.words.items (c.args.row * t.stride + c.in-Word.k) w)) same
    ∙ ap (λ n. table (set t.words.items (n + c.in-Word.k) c.args.w)) (same_first t.form t.stride t.words.items t.bits.items h c.args.row row)
    ∙ ap (λ rs. record { form = t.form; rows = rs })
    (put_word t.form h.part t.words.items t.bits.items h.filled c.args.row i b (word_in t.form t.stride t.words.items t.bits.items h c.args.row row i word) c.in-Word.k (at ∙ c.in-Word.is) c.args.w))

pub returns-in-Bit : goal.returns-in-Bit
returns-in-Bit c =
    let t = c.self.inside in
    let h = c.self.invariant in
    let row = rw (← c.self.view_is) at c.requires.row in
    let b = row_in t.form t.stride t.words.items t.bits.items h c.args.row row in
    let same : to_z w64 (of_z w64 c.args.w) ≡ c.args.w = search (arith, to_z-of_z) in
    let old : c.index-bits.result.now ≡ get_or t.bits.items c.args.row 0 = get_or_read t.bits.items c.args.row c.index-bits.result.now b c.index-bits.ensures 0 in
    rw (← c.self.view_is)
    (λ i word at.
    ap (λ rs. record { form = t.form; rows = rs })
    (put_bit t.form h.part t.words.items t.bits.items h.filled c.args.row i b (word_in t.form t.stride t.words.items t.bits.items h c.args.row row i word) c.in-Bit.q (at ∙ c.in-Bit.is) h.few c.args.w c.with_bit.result (c.with_bit.ensures.set ∙ same)
    (λ j lt other. c.with_bit.ensures.others j lt other ∙ ap (λ n. bit_at n j) old)))
