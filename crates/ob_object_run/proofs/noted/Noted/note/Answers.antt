-- A number in turn stands in its row; any other is looked up.
use Rattle.std.proofs.Common.{◌≡◌, refl, ap, ◌∙◌, ◌+◌, ◌<◌, cond, length, map, List, ℕ, Option, Some, arith}
use Rattle.std.specs.HashMap as hash
use Rattle.ob_object_run.proofs.Noting.{nothing, rows_kept, noted_in_row, noted_by_hash}
use Rattle.ob_object_run.proofs.noted.Noted.note.Goals as goal
use Rattle.ob_object_run.proofs.noted.Noted.note.Goals.{else-is_empty-via-else-is_empty, else-is_empty-via-then-is_empty+in-None-1, else-is_empty-via-then-is_empty+in-Some+else-is_next}
use Rattle.ob_object_run.specs.Noted.{first_of, noted_in}
use Rattle.ob_object_run.specs.Places.{same_id}
use Rattle.ob_object_run.specs.Rows.{in_rows}
use Rattle.ob_object_run.specs.declared.noted.Noted.{Noted}
use Rattle.wf_history.specs.declared.event.CallId.{CallId}

pub returns : goal.returns
returns c =
    let noted = c.args.self.now in
    let id = c.args.id in
    let row = c.in-Some.row.now in
    let within : id.process < noted.rows.len = c.in-Some.ensures.variant.0 refl in
    noted_in_row (hash.get same_id noted.others) noted.rows.items id c.args.number row c.push.new.self
    (λ (q : CallId). nothing (same_id q) noted.others.entries (c.is_empty.ensures.0 c.if-is_empty.true))
    (omega (arith, within, noted.rows.ok.0))
    c.in-Some.ensures.value
    (c.is_next.ensures.0 c.if-is_next.true ∙ ap (λ (r : List ℕ). length r + 1) c.deref.ensures.value)
    c.in_ok-push.ensures.items

pub returns-2 : goal.returns-2
returns-2 c =
    let noted = c.args.self.now in
    let kept = c.else-is_empty.self in
    let same : (q : CallId) → noted_in kept q ≡ noted_in noted q = elim c.else-is_empty.branch [
      | else-is_empty-via-else-is_empty w ↦ λ q. ap (λ (n : Noted). noted_in n q) w.self-is
      | else-is_empty-via-then-is_empty+in-None-1 w ↦ λ q. ap (λ (n : Noted). noted_in n q) w.self-is
      | else-is_empty-via-then-is_empty+in-Some+else-is_next w ↦ λ q.
          ap (λ (n : Noted). noted_in n q) w.self-is
          ∙ ap (λ (rows : List (List ℕ)). first_of (hash.get same_id noted.others q) (in_rows rows q)) (rows_kept noted.rows.items c.args.id.process w.in-Some.row.now w.in-Some.ensures.value)
    ] in
    λ (q : CallId).
    noted_by_hash (hash.get same_id kept.others) (hash.get same_id c.insert.new.others) (map (λ row. row.items) kept.rows.items) c.args.id c.args.number c.in_ok-insert.ensures q
    ∙ ap (λ (o : Option ℕ). cond (same_id c.args.id q) (Some c.args.number) o) (same q)
