-- The words so far.
use Rattle.std.proofs.Common.{◌≡◌, ◌++◌, take, string_bytes}
use Rattle.ob_text_record.specs.StateText.{words_text}
use Rattle.ob_text_record.proofs.named_words.push_words.Given as goal

abbrev pub invariant-loop-word : goal.invariant-loop-word
invariant-loop-word l = string_bytes l.text ≡ string_bytes l.fn.text ++ words_text (take l.word-index l.words)
