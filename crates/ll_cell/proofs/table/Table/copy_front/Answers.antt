use Rattle.std.proofs.Common.{◌≡◌, ℕ, ◌+◌, ◌*◌, ◌≤◌, List, get_or, ap, ◌∙◌, arith}
use Rattle.std.specs.Prelude.{ℤ}
use Rattle.std.specs.List.{CopiedTo, SameBelow, SameFrom}
use Rattle.ll_cell.specs.Form.{kept_words}
use Rattle.ll_cell.proofs.Copied.{rows_copied}
use Rattle.ll_cell.proofs.InRange.{row_in, same_first, ends}
use Rattle.ll_cell.proofs.table.Table.copy_front.Goals as goal

pub overflow_mul-source : goal.overflow_mul-source
overflow_mul-source c =
    let t = c.self.inside in
    let b = rw (← c.self.view_is) at c.requires.source in
    record { fits = omega (arith, t.words.ok.0, t.words.ok.1, t.words.small, ends t.form t.stride t.words.items t.bits.items c.self.invariant c.args.b b 0 (omega arith)) }

pub overflow_add-source : goal.overflow_add-source
overflow_add-source c =
    let t = c.self.inside in
    let b = rw (← c.self.view_is) at c.requires.source in
    let words : c.args.first + c.args.count ≤ t.form.head = rw (← c.self.view_is) at c.requires.words in
    record { fits = omega (arith, t.words.ok.0, t.words.ok.1, t.words.small, ends t.form t.stride t.words.items t.bits.items c.self.invariant c.args.b b (c.args.first + c.args.count) words) }

pub overflow_mul-place : goal.overflow_mul-place
overflow_mul-place c =
    let t = c.self.inside in
    let row = rw (← c.self.view_is) at c.requires.row in
    record { fits = omega (arith, t.words.ok.0, t.words.ok.1, t.words.small, ends t.form t.stride t.words.items t.bits.items c.self.invariant c.args.row row 0 (omega arith)) }

pub overflow_add-place : goal.overflow_add-place
overflow_add-place c =
    let t = c.self.inside in
    let row = rw (← c.self.view_is) at c.requires.row in
    let words : c.args.first + c.args.count ≤ t.form.head = rw (← c.self.view_is) at c.requires.words in
    record { fits = omega (arith, t.words.ok.0, t.words.ok.1, t.words.small, ends t.form t.stride t.words.items t.bits.items c.self.invariant c.args.row row (c.args.first + c.args.count) words) }

pub overflow_add-source-2 : goal.overflow_add-source-2
overflow_add-source-2 c =
    let t = c.self.inside in
    let b = rw (← c.self.view_is) at c.requires.source in
    let words : c.args.first + c.args.count ≤ t.form.head = rw (← c.self.view_is) at c.requires.words in
    record { fits = omega (arith, t.words.ok.0, t.words.ok.1, t.words.small, ends t.form t.stride t.words.items t.bits.items c.self.invariant c.args.b b (c.args.first + c.args.count) words) }

pub copy_within-requires-clause-in_bounds : goal.copy_within-requires-clause-in_bounds
copy_within-requires-clause-in_bounds c =
    let t = c.self.inside in
    let b = rw (← c.self.view_is) at c.requires.source in
    let words : c.args.first + c.args.count ≤ t.form.head = rw (← c.self.view_is) at c.requires.words in
    omega (arith, t.words.ok.0, t.words.ok.1, ends t.form t.stride t.words.items t.bits.items c.self.invariant c.args.b b (c.args.first + c.args.count) words)

pub copy_within-requires-clause-dest_in_bounds : goal.copy_within-requires-clause-dest_in_bounds
copy_within-requires-clause-dest_in_bounds c =
    let t = c.self.inside in
    let row = rw (← c.self.view_is) at c.requires.row in
    let words : c.args.first + c.args.count ≤ t.form.head = rw (← c.self.view_is) at c.requires.words in
    omega (arith, t.words.ok.0, t.words.ok.1, ends t.form t.stride t.words.items t.bits.items c.self.invariant c.args.row row (c.args.first + c.args.count) words)

pub returns : goal.returns
returns c =
    let t = c.self.inside in
    let h = c.self.invariant in
    let row = rw (← c.self.view_is) at c.requires.row in
    let b = rw (← c.self.view_is) at c.requires.source in
    let words : c.args.first + c.args.count ≤ t.form.head = rw (← c.self.view_is) at c.requires.words in
    let here = row_in t.form t.stride t.words.items t.bits.items h c.args.row row in
    let there = row_in t.form t.stride t.words.items t.bits.items h c.args.b b in
    let now : List ℤ = c.copy_within.new.self.items in
    let by = c.copy_within.ensures.by_index in
    let source : c.args.b * t.stride ≡ c.args.b * kept_words t.form = same_first t.form t.stride t.words.items t.bits.items h c.args.b b in
    let place : c.args.row * t.stride ≡ c.args.row * kept_words t.form = same_first t.form t.stride t.words.items t.bits.items h c.args.row row in
    let moved : CopiedTo t.words.items now (c.args.b * kept_words t.form + c.args.first) (c.args.row * kept_words t.form + c.args.first) c.args.count =
    λ k d le lt. by.0 k d (omega (arith, le, place)) (omega (arith, lt, place)) ∙ ap (λ (n : ℕ). get_or t.words.items n d) (omega (arith, le, place, source)) in
    let below : SameBelow t.words.items now (c.args.row * kept_words t.form + c.args.first) = λ k d lt. by.1 k d (omega (arith, lt, place)) in
    let behind : SameFrom t.words.items now (c.args.row * kept_words t.form + c.args.first + c.args.count) = λ k d le. by.2 k d (omega (arith, le, place)) in
    rw (← c.self.view_is)
    (ap (λ (rs : List (List ℤ)). record { form = t.form; rows = rs })
    (rows_copied t.form h.part t.words.items now t.bits.items h.filled c.args.row c.args.b here there c.args.first c.args.count words moved below behind))
