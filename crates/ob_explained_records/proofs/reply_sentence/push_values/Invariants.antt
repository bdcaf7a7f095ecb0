-- The values so far.
use Rattle.std.proofs.Common.{◌≡◌, ◌++◌, take, codes, string_bytes}
use Rattle.std.specs.List.{flat_map}
use Rattle.ob_text_words.specs.ScalarTexts.{scalar_text}
use Rattle.ob_explained_records.proofs.reply_sentence.push_values.Given as goal

abbrev pub invariant-loop-value : goal.invariant-loop-value
invariant-loop-value l =
    string_bytes l.text
    ≡ string_bytes l.fn.text ++ (codes " done" ++ flat_map (λ v. codes " " ++ scalar_text v) (take l.value-index l.values))
