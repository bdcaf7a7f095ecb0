-- No word so far names the call.
use Rattle.std.proofs.Common.{Bor}
use Rattle.ob_text_words.specs.Words.{Word}
use Rattle.ob_explained_lines.specs.CallNames.{Names}
use Rattle.ob_explained_lines.proofs.Firsts.{HoldsOfNone}
use Rattle.ob_explained_lines.proofs.call_name.first_naming.Given as goal

abbrev pub invariant-loop-index : goal.invariant-loop-index
invariant-loop-index l = HoldsOfNone (λ (word : Bor Word). word.now) (λ (word : Word). Names word l.id) l.words l.index
