-- The names so far.
use Rattle.std.proofs.Common.{◌≡◌, map, string_bytes, take}
use Rattle.ob_object_compile.proofs.listing.names_of.Given as goal

abbrev pub invariant-loop-procedure : goal.invariant-loop-procedure
invariant-loop-procedure l = map string_bytes l.names.items ≡ map (λ p. string_bytes p.name) (take l.procedure-index l.procedures)
