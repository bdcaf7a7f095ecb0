use Rattle.std.proofs.Common.{◌<◌, length, Some, sym, ap, ◌∙◌, arith}
use Rattle.ob_checked.specs.Types.{fields_in}
use Rattle.ob_checked.proofs.FieldNames.{found_at, found_within, zero_plus}
use Rattle.ob_checked.proofs.fields.Fields.find.Goals as goal

pub index-requires : goal.index-requires
index-requires c =
    let position = c.in-Some.position.now in
    let fields = c.args.self.now in
    let within : position < length (fields_in fields) =
    found_within 0 (fields_in fields) c.args.name.now position (ap (λ m. Some m) (zero_plus position) ∙ c.in-Some.ensures.value ∙ fields.indexed c.args.name.now) in
    omega (arith, within, fields.entries.ok.0)

pub returns-in-Some : goal.returns-in-Some
returns-in-Some c =
    let position = c.in-Some.position.now in
    let fields = c.args.self.now in
    ap (λ m. Some (m, c.index.result.now.1)) (sym (zero_plus position))
    ∙ found_at 0 (fields_in fields) c.args.name.now position c.index.result.now
    (ap (λ m. Some m) (zero_plus position) ∙ c.in-Some.ensures.value ∙ fields.indexed c.args.name.now) c.index.ensures
