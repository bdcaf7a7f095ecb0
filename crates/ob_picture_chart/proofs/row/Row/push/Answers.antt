-- A row of no places begins with the number, and any other one goes on with it.
use Rattle.std.proofs.Common.{◌≡◌, ◌∙◌, ap, sym, length, List, ℕ, arith}
use Rattle.std.proofs.lemmas.Bool.{eqb-true}
use Rattle.ob_picture_chart.specs.Places.{place_from}
use Rattle.ob_picture_chart.proofs.Rows.{place_first, place_pushed}
use Rattle.ob_picture_chart.proofs.row.Row.push.Goals as goal

pub returns-then-is_empty : goal.returns-then-is_empty
returns-then-is_empty c =
    let row = c.args.self.now in
    let none = eqb-true _ _ (sym c.is_empty.ensures ∙ c.if-is_empty.true) in
    let empty : length row.places.items ≡ 0 = omega (arith, none, row.places.ok.0) in
    λ n. ap (λ (ps : List ℕ). place_from c.args.number ps n) c.in_ok-push.ensures.items ∙ place_first row.first c.args.number c.args.place row.places.items empty n

pub returns-then-is_next : goal.returns-then-is_next
returns-then-is_next c =
    let row = c.args.self.now in
    let next = c.is_next.ensures.0 c.if-is_next.true in
    λ n. ap (λ (ps : List ℕ). place_from row.first ps n) c.in_ok-push-2.ensures.items ∙ place_pushed row.first c.args.number c.args.place row.places.items next.0 next.1 n
