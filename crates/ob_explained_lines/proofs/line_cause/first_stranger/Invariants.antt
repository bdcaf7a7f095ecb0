-- Each word so far names a call.
use Rattle.std.proofs.Common.{Bor}
use Rattle.ob_text_words.specs.Words.{Word}
use Rattle.ob_explained_lines.specs.CallPlaces.{NamesNoCall}
use Rattle.ob_explained_lines.proofs.Firsts.{HoldsOfNone}
use Rattle.ob_explained_lines.proofs.line_cause.first_stranger.Given as goal

abbrev pub invariant-loop-index : goal.invariant-loop-index
invariant-loop-index l = HoldsOfNone (λ (word : Bor Word). word.now) (NamesNoCall l.processes) l.words l.index
