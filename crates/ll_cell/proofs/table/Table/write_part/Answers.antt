use Rattle.std.proofs.Common.{◌≡◌, ◌+◌, ◌*◌, set, sym, subst, ap, ◌∙◌, arith, w64, to_z, of_z, to_z-of_z}
use Rattle.std.specs.Prelude.{ℤ}
use Rattle.ll_cell.specs.Form.{IsPlace, MayStandAt}
use Rattle.ll_cell.specs.Rows.{row_of}
use Rattle.ll_cell.proofs.Places.{is_place, part_below, part_fits, may_stand_at, may_stand_in}
use Rattle.ll_cell.proofs.InRange.{word_in, block_in}
use Rattle.ll_cell.proofs.table.Table.write_part.Goals as goal

pub place_in-place-requires-clause-fits : goal.place_in-place-requires-clause-fits
place_in-place-requires-clause-fits c =
    let t = c.self.inside in
    let h = c.self.invariant in
    let row = rw (← c.self.view_is) at c.requires.row in
    let part = rw (← c.self.view_is) at c.requires.part in
    let word = rw (← c.self.view_is) at c.requires.word in
    let n = t.form.head + c.args.q * t.form.part + c.args.i in
    let q = part_below t.form c.args.q c.args.i (word_in t.form t.stride t.words.items t.bits.items h c.args.row row n word) in
    omega (arith, t.words.ok.0, t.words.ok.1, t.words.small, block_in t.form t.stride t.words.items t.bits.items h c.args.row row, part_fits t.form c.args.q c.args.i part q)

pub keep-requires-clause-place : goal.keep-requires-clause-place
keep-requires-clause-place c =
    let t = c.self.inside in
    let h = c.self.invariant in
    let row = rw (← c.self.view_is) at c.requires.row in
    let word = rw (← c.self.view_is) at c.requires.word in
    let n = t.form.head + c.args.q * t.form.part + c.args.i in
    rw (← c.self.view_is) (subst (IsPlace t.form) (sym c.place_in-place.ensures) (is_place t.form h.part n (word_in t.form t.stride t.words.items t.bits.items h c.args.row row n word)))

pub keep-requires-clause-bit : goal.keep-requires-clause-bit
keep-requires-clause-bit c =
    let t = c.self.inside in
    let h = c.self.invariant in
    let row = rw (← c.self.view_is) at c.requires.row in
    let part = rw (← c.self.view_is) at c.requires.part in
    let word = rw (← c.self.view_is) at c.requires.word in
    let bit = rw (← c.self.view_is) at c.requires.bit in
    let n = t.form.head + c.args.q * t.form.part + c.args.i in
    let same : to_z w64 (of_z w64 c.args.w) ≡ c.args.w = search (arith, to_z-of_z) in
    rw same
    (subst (λ p. MayStandAt p c.args.w) (sym c.place_in-place.ensures)
    (may_stand_at t.form h.part c.args.w n (word_in t.form t.stride t.words.items t.bits.items h c.args.row row n word) (may_stand_in t.form h.part c.args.w c.args.q c.args.i part bit)))

pub returns : goal.returns
returns c =
    let s = c.args.self.now in
    let n = s.form.head + c.args.q * s.form.part + c.args.i in
    let same : to_z w64 (of_z w64 c.args.w) ≡ c.args.w = search (arith, to_z-of_z) in
    c.keep.ensures n c.requires.word (rw (← c.self.view_is) (sym c.place_in-place.ensures))
    ∙ ap (λ (w : ℤ). record { form = s.form; rows = set s.rows c.args.row (set (row_of s c.args.row) n w) }) same
