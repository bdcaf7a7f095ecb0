use Rattle.std.proofs.Common.{◌≡◌, max, drop}
use Rattle.ob_code_correct.specs.CodeMeaning.{most, value_count}
use Rattle.ob_code_engine.proofs.entrance.most_values.Given as goal

abbrev pub invariant-loop-entrance : goal.invariant-loop-entrance
invariant-loop-entrance l = max l.largest (most value_count (drop l.entrance-index l.entrances)) ≡ most value_count l.entrances
