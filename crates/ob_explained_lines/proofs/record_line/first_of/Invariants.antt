-- No line so far is the one that is looked for.
use Rattle.std.proofs.Common.{ℕ, Bor, List}
use Rattle.ob_text_words.specs.Words.{words}
use Rattle.ob_explained_lines.specs.Lines.{Says}
use Rattle.ob_explained_lines.proofs.Firsts.{HoldsOfNone}
use Rattle.ob_explained_lines.proofs.record_line.first_of.Given as goal

abbrev pub invariant-loop-index : goal.invariant-loop-index
invariant-loop-index l = HoldsOfNone (λ (line : Bor (List ℕ)). line.now) (λ (line : List ℕ). Says l.wanted (words line)) l.lines l.index
