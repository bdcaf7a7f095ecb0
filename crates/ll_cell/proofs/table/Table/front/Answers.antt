use Rattle.std.proofs.Common.{◌*◌, ◌≤◌, take, drop, ap, ◌∙◌, arith}
use Rattle.ll_cell.proofs.Kept.{front_read}
use Rattle.ll_cell.proofs.InRange.{row_in, same_first, ends}
use Rattle.ll_cell.proofs.table.Table.front.Goals as goal

pub overflow_mul-first : goal.overflow_mul-first
overflow_mul-first c =
    let t = c.self.inside in
    let row = rw (← c.self.view_is) at c.requires.row in
    record { fits = omega (arith, t.words.ok.0, t.words.ok.1, t.words.small, ends t.form t.stride t.words.items t.bits.items c.self.invariant c.args.row row 0 (omega arith)) }

pub run-requires : goal.run-requires
run-requires c =
    let t = c.self.inside in
    let row = rw (← c.self.view_is) at c.requires.row in
    let words : c.args.count ≤ t.form.head = rw (← c.self.view_is) at c.requires.words in
    omega (arith, c.deref.ensures, t.words.ok.0, ends t.form t.stride t.words.items t.bits.items c.self.invariant c.args.row row c.args.count words)

pub returns : goal.returns
returns c =
    let t = c.self.inside in
    let h = c.self.invariant in
    let row = rw (← c.self.view_is) at c.requires.row in
    let words : c.args.count ≤ t.form.head = rw (← c.self.view_is) at c.requires.words in
    let within = row_in t.form t.stride t.words.items t.bits.items h c.args.row row in
    let first = same_first t.form t.stride t.words.items t.bits.items h c.args.row row in
    rw (← c.self.view_is)
    (c.run.ensures ∙ ap (λ ws. take c.args.count (drop (c.args.row * t.stride) ws)) c.deref.ensures.value
    ∙ ap (λ k. take c.args.count (drop k t.words.items)) first ∙ front_read t.form t.words.items t.bits.items c.args.row c.args.count h.filled within words)
