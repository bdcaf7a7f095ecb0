use Rattle.std.proofs.Common.{◌<◌, refl, arith}
use Rattle.ob_picture_chart.proofs.Rows.{rows_pushed}
use Rattle.ob_picture_chart.proofs.order_places.push_in_rows.Goals as goal

pub returns-in_ok-pushed-in-Some : goal.returns-in_ok-pushed-in-Some
returns-in_ok-pushed-in-Some c =
    let rows = c.args.rows.now in
    let within : c.args.id.process < rows.len = c.in-Some.ensures.variant.0 refl in
    rows_pushed rows.items c.args.id c.args.place c.in_ok-pushed-in-Some.pushed c.in-Some.row.now c.push.new.self (omega (arith, within, rows.ok.0)) c.in-Some.ensures.value c.in_ok-pushed-in-Some.ensures
