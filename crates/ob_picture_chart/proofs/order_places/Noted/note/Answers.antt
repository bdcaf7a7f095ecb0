-- The next call of a process stands in its row; any other is looked up.
use Rattle.std.proofs.Common.{◌∙◌, ap, refl, Bool, cond}
use Rattle.std.specs.HashMap as hash
use Rattle.std.specs.Prelude.{◌&&◌}
use Rattle.ob_picture_chart.proofs.Rows.{noted_by_hash, noted_in_row, nothing}
use Rattle.ob_picture_chart.specs.Places.{in_rows}
use Rattle.ob_picture_chart.specs.Same.{is_same}
use Rattle.wf_history.specs.declared.event.CallId.{CallId}
use Rattle.ob_picture_chart.proofs.order_places.Noted.note.Goals as goal

pub returns-then-not-is_empty : goal.returns-then-not-is_empty
returns-then-not-is_empty c =
    let noted = c.args.self.now in
    noted_by_hash (hash.get is_same noted.others) (hash.get is_same c.insert.new.others) noted.rows.items noted.rows.items c.args.id c.args.place c.in_ok-insert.ensures (λ q. refl)

pub returns-then-pushed : goal.returns-then-pushed
returns-then-pushed c =
    let noted = c.args.self.now in
    noted_in_row (hash.get is_same noted.others) noted.rows.items c.push_in_rows.new.rows.items c.args.id c.args.place
    (λ (q : CallId). nothing (is_same q) noted.others.entries (c.is_empty.ensures.0 c.if-not-is_empty.false))
    (λ (q : CallId). c.in_ok-pushed.ensures q ∙ ap (λ (b : Bool). cond (b && is_same c.args.id q) c.args.place (in_rows noted.rows.items q)) c.if-pushed.true)

pub returns : goal.returns
returns c =
    let noted = c.args.self.now in
    noted_by_hash (hash.get is_same noted.others) (hash.get is_same c.insert-2.new.others) noted.rows.items c.push_in_rows.new.rows.items c.args.id c.args.place c.in_ok-insert-2.ensures
    (λ (q : CallId). c.in_ok-pushed.ensures q ∙ ap (λ (b : Bool). cond (b && is_same c.args.id q) c.args.place (in_rows noted.rows.items q)) c.if-pushed.false)
