-- The lines that replies are printed as.
use Rattle.std.specs.Prelude.{ℕ, List, ◌++◌, codes, decimal}
use Rattle.std.specs.List.{flat_map}
use Rattle.ob_interface.specs.Call.{Reply, Answers, Trapped}
use Rattle.ob_text_words.specs.ScalarTexts.{scalar_text}

-- what stands behind the call's id
abbrev pub reply_text : Reply → List ℕ
reply_text (Answers values) = codes " done" ++ flat_map (λ v. codes " " ++ scalar_text v) values
reply_text (Trapped k) = codes " trap " ++ decimal k

-- the E line of a call's reply: process, number of the call, reply
abbrev pub reply_line : ℕ → ℕ → Reply → List ℕ
reply_line process number reply =
    codes "E " ++ decimal process ++ codes "." ++ decimal number ++ reply_text reply ++ codes "\n"
