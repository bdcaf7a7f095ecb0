use Rattle.std.proofs.Common.{◌≡◌, ◌+◌, ◌*◌, ◌<◌, get_or, sym, subst, ap, ◌∙◌, arith, w64, pos, to_z, of_z, to_z-of_z}
use Rattle.std.proofs.lemmas.Nat.Bits.{shr_and_one}
use Rattle.std.proofs.lemmas.List.{get_or_read}
use Rattle.std.specs.Int.{bit_at}
use Rattle.ll_cell.specs.Form.{kept_words, IsPlace}
use Rattle.ll_cell.specs.Rows.{kept_at}
use Rattle.ll_cell.proofs.Kept.{word_read}
use Rattle.ll_cell.proofs.InRange.{row_in, same_first, ends, word_in, kept_in}
use Rattle.ll_cell.proofs.table.Table.kept.Goals as goal

pub overflow_mul-row : goal.overflow_mul-row
overflow_mul-row c =
    let t = c.self.inside in
    let row = rw (← c.self.view_is) at c.requires.row in
    record { fits = omega (arith, t.words.ok.0, t.words.ok.1, t.words.small, ends t.form t.stride t.words.items t.bits.items c.self.invariant c.args.row row 0 (omega arith)) }

pub overflow_add-row : goal.overflow_add-row
overflow_add-row c =
    let t = c.self.inside in
    let row = rw (← c.self.view_is) at c.requires.row in
    let place = rw (← c.self.view_is) at c.requires.place in
    let below : c.in-Word.k < kept_words t.form = subst (IsPlace t.form) c.in-Word.is place in
    record { fits = omega (arith, t.words.ok.0, t.words.ok.1, t.words.small, kept_in t.form t.stride t.words.items t.bits.items c.self.invariant c.args.row row c.in-Word.k below) }

pub index-requires : goal.index-requires
index-requires c =
    let t = c.self.inside in
    let row = rw (← c.self.view_is) at c.requires.row in
    let place = rw (← c.self.view_is) at c.requires.place in
    let below : c.in-Word.k < kept_words t.form = subst (IsPlace t.form) c.in-Word.is place in
    omega (arith, t.words.ok.0, kept_in t.form t.stride t.words.items t.bits.items c.self.invariant c.args.row row c.in-Word.k below)

pub index-requires-in-Bit : goal.index-requires-in-Bit
index-requires-in-Bit c =
    let t = c.self.inside in
    let row = rw (← c.self.view_is) at c.requires.row in
    omega (arith, t.bits.ok.0, row_in t.form t.stride t.words.items t.bits.items c.self.invariant c.args.row row)

pub overflow_cast-q : goal.overflow_cast-q
overflow_cast-q c =
    let t = c.self.inside in
    let place = rw (← c.self.view_is) at c.requires.place in
    let below : c.in-Bit.q < t.form.parts = subst (IsPlace t.form) c.in-Bit.is place in
    record { fits = omega (arith, below, c.self.invariant.few) }

pub overflow_shr-index : goal.overflow_shr-index
overflow_shr-index c =
    let t = c.self.inside in
    let place = rw (← c.self.view_is) at c.requires.place in
    let below : c.in-Bit.q < t.form.parts = subst (IsPlace t.form) c.in-Bit.is place in
    omega (arith, below, c.self.invariant.few)

pub returns-in-Word : goal.returns-in-Word
returns-in-Word c =
    let t = c.self.inside in
    let h = c.self.invariant in
    let row = rw (← c.self.view_is) at c.requires.row in
    let place = rw (← c.self.view_is) at c.requires.place in
    let below : c.in-Word.k < kept_words t.form = subst (IsPlace t.form) c.in-Word.is place in
    let b = row_in t.form t.stride t.words.items t.bits.items h c.args.row row in
    let same : to_z w64 (of_z w64 c.index.result.now) ≡ c.index.result.now = search (arith, to_z-of_z) in
    let k = kept_in t.form t.stride t.words.items t.bits.items h c.args.row row c.in-Word.k below in
    rw (← c.self.view_is)
    (λ i word at.
    same ∙ get_or_read t.words.items (c.args.row * t.stride + c.in-Word.k) c.index.result.now k c.index.ensures (pos 0)
    ∙ ap (λ n. get_or t.words.items (n + c.in-Word.k) (pos 0)) (same_first t.form t.stride t.words.items t.bits.items h c.args.row row)
    ∙ sym
    (word_read t.form t.words.items t.bits.items c.args.row i b (word_in t.form t.stride t.words.items t.bits.items h c.args.row row i word)
    ∙ ap (kept_at t.words.items t.bits.items (kept_words t.form) c.args.row) (at ∙ c.in-Word.is)))

pub returns-in-Bit : goal.returns-in-Bit
returns-in-Bit c =
    let t = c.self.inside in
    let h = c.self.invariant in
    let row = rw (← c.self.view_is) at c.requires.row in
    let b = row_in t.form t.stride t.words.items t.bits.items h c.args.row row in
    let same : to_z w64 (of_z w64 c.from.result) ≡ c.from.result = search (arith, to_z-of_z) in
    rw (← c.self.view_is)
    (λ i word at.
    same ∙ c.from.ensures ∙ ap pos (shr_and_one c.index-in-Bit.result.now c.in-Bit.q)
    ∙ ap (λ n. pos (bit_at n c.in-Bit.q)) (get_or_read t.bits.items c.args.row c.index-in-Bit.result.now b c.index-in-Bit.ensures 0)
    ∙ sym
    (word_read t.form t.words.items t.bits.items c.args.row i b (word_in t.form t.stride t.words.items t.bits.items h c.args.row row i word)
    ∙ ap (kept_at t.words.items t.bits.items (kept_words t.form) c.args.row) (at ∙ c.in-Bit.is)))
