use Rattle.std.proofs.Common.{◌≡◌, length, map}
use Rattle.ob_explain_sentences.specs.Said.{type_in}
use Rattle.ob_explain_sentences.proofs.said.type_in.Given as goal

abbrev pub invariant-loop-types : goal.invariant-loop-types
invariant-loop-types l = type_in (map (λ t. (t.0, t.1.now)) l.types) l.named ≡ type_in (map (λ t. (t.0, t.1.now)) l.initial.types) l.named

abbrev pub decreases-loop-types : goal.decreases-loop-types
decreases-loop-types l = length l.types
