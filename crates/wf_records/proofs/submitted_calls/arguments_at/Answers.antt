use Rattle.std.proofs.Common.{◌≡◌, ℕ, ◌-◌, length, get_or, take, drop, inl, inr, ap, sym, ◌∙◌, arith, rules}
use Rattle.ob_interface.specs.Call.{ObjectCall}
use Rattle.wf_records.specs.declared.submitted_calls.Head.{Head}
use Rattle.wf_records.specs.CallsKept.{no_call}
use Rattle.wf_records.proofs.CallsKept.{start_at, start_is, stands_at, call_from}
use Rattle.wf_records.proofs.submitted_calls.arguments_at.Goals as goal
use Rattle.wf_records.proofs.submitted_calls.arguments_at.Goals.{then-i-eq0, else-i-eq0}

pub offset_bounds-arguments-start : goal.offset_bounds-arguments-start
offset_bounds-arguments-start c =
    let hs = c.args.heads.now in
    let d : Head = record { proc = 0; end = 0 } in
    let start : c.if-i-eq0.start ≡ start_at 0 hs c.args.i = start_is hs c.args.i c.if-i-eq0.start d c.requires.within (elim c.if-i-eq0.branch [ then-i-eq0 w ↦ inl (omega arith, w.start-is) | else-i-eq0 w ↦ inr (omega arith, w.start-is) ]) in
    let at = stands_at 0 hs (length c.args.arguments.now) c.args.i d c.requires.laid c.requires.within in
    first_of (omega (arith, start, at.begins, at.ends), search (rules, start, at.begins, at.ends))

pub slice_bounds-result-count : goal.slice_bounds-result-count
slice_bounds-result-count c =
    let hs = c.args.heads.now in
    let d : Head = record { proc = 0; end = 0 } in
    let start : c.if-i-eq0.start ≡ start_at 0 hs c.args.i = start_is hs c.args.i c.if-i-eq0.start d c.requires.within (elim c.if-i-eq0.branch [ then-i-eq0 w ↦ inl (omega arith, w.start-is) | else-i-eq0 w ↦ inr (omega arith, w.start-is) ]) in
    let at = stands_at 0 hs (length c.args.arguments.now) c.args.i d c.requires.laid c.requires.within in
    omega (arith, start, at.begins)

pub slice_bounds-result-start : goal.slice_bounds-result-start
slice_bounds-result-start c =
    let hs = c.args.heads.now in
    let d : Head = record { proc = 0; end = 0 } in
    let start : c.if-i-eq0.start ≡ start_at 0 hs c.args.i = start_is hs c.args.i c.if-i-eq0.start d c.requires.within (elim c.if-i-eq0.branch [ then-i-eq0 w ↦ inl (omega arith, w.start-is) | else-i-eq0 w ↦ inr (omega arith, w.start-is) ]) in
    let at = stands_at 0 hs (length c.args.arguments.now) c.args.i d c.requires.laid c.requires.within in
    omega (arith, start, at.begins)

pub slice_bounds-result-end : goal.slice_bounds-result-end
slice_bounds-result-end c =
    let hs = c.args.heads.now in
    let d : Head = record { proc = 0; end = 0 } in
    let start : c.if-i-eq0.start ≡ start_at 0 hs c.args.i = start_is hs c.args.i c.if-i-eq0.start d c.requires.within (elim c.if-i-eq0.branch [ then-i-eq0 w ↦ inl (omega arith, w.start-is) | else-i-eq0 w ↦ inr (omega arith, w.start-is) ]) in
    let at = stands_at 0 hs (length c.args.arguments.now) c.args.i d c.requires.laid c.requires.within in
    omega (arith, start, at.ends)

pub returns : goal.returns
returns c =
    let hs = c.args.heads.now in
    let xs = c.args.arguments.now in
    let d : Head = record { proc = 0; end = 0 } in
    let start : c.if-i-eq0.start ≡ start_at 0 hs c.args.i = start_is hs c.args.i c.if-i-eq0.start d c.requires.within (elim c.if-i-eq0.branch [ then-i-eq0 w ↦ inl (omega arith, w.start-is) | else-i-eq0 w ↦ inr (omega arith, w.start-is) ]) in
    ap (λ (a : ℕ). take ((get_or hs c.args.i d).end - a) (drop a xs)) start
    ∙ sym (ap (λ (k : ObjectCall). k.arguments) (call_from 0 hs xs c.args.i no_call d c.requires.within))
