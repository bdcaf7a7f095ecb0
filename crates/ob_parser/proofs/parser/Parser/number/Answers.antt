use Rattle.std.proofs.Common.{◌≡◌, arith, to_z, of_z, w32, to_z-of_z}
use Rattle.ob_parser.proofs.Expressions.{went_number}
use Rattle.ob_parser.proofs.parser.Parser.number.Goals as goal

pub returns : goal.returns
returns g c = λ depth.
    let same : to_z w32 (of_z w32 c.number_of-value.result) ≡ c.number_of-value.result = search (arith, to_z-of_z) in
    rw same
    (went_number _ _ _ c.take-place.ensures.steps c.requires c.bytes.ensures.spelling c.number_of-value.ensures c.take-place.ensures.place)
