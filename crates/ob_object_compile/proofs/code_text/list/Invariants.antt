use Rattle.std.proofs.Common.{◌≡◌, ◌++◌, drop, map}
use Rattle.std.specs.Prelude.{string_bytes}
use Rattle.ob_object_compile.specs.Listing.{listing}
use Rattle.ob_object_compile.proofs.code_text.list.Given as goal

abbrev pub invariant-loop-k : goal.invariant-loop-k
invariant-loop-k l =
    string_bytes l.text ++ listing l.code.instructions (drop l.k l.code.entries) (drop l.k (map string_bytes l.names))
    ≡ listing l.code.instructions l.code.entries (map string_bytes l.names)
