-- Two processes that share one word, with one argument and one result: the bounds as numbers.
use Rattle.std.proofs.Common.{◌≡◌, refl}
use Rattle.wf_table.specs.declared.process.Sizes.{Sizes}
use Rattle.wf_table.specs.Left.{serve, lap}
use Rattle.wf_table.specs.Bound.{sharp, bound}

counter : Sizes
counter = record { processes = 2; variables = 1; replies = 1; arguments = 1 }

serves : serve counter ≡ 9
unfolding counter serve
serves = refl

laps : lap counter ≡ 38
unfolding counter lap serve
laps = refl

takes : sharp counter ≡ 84
unfolding counter sharp
takes = refl

promises : bound counter ≡ 126
unfolding counter bound
promises = refl
