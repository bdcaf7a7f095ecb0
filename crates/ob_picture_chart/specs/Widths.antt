-- How wide the words at calls are, and the columns for them.
use Rattle.std.specs.Prelude.{ℕ, ◌+◌, ◌-◌, ◌*◌, ◌/◌, List, [], ◌∷◌, cond, Option, Some, None, codes, length, max, nat_lt}
use Rattle.ob_interface.specs.Call.{Reply}
use Rattle.ob_interface.specs.Export.{Signature}
use Rattle.ob_picture_chart.specs.Charts.{Happening, Begun, Taken, Ended, Sight}
use Rattle.ob_picture_chart.specs.Bars.{Bar, bar_of}
use Rattle.ob_picture_chart.specs.Labels.{answer_words, call_words}

-- the words below a bar; none without a reply
abbrev pub words_below : Option Reply → List ℕ
words_below None = codes ""
words_below (Some reply) = answer_words reply

-- for how many letters there has to be room: for the words above the bar and for those below it
unfoldable pub most_letters : List Signature → Bar → ℕ
most_letters exports b = max (length (call_words exports b.id b.call)) (length (words_below b.reply))

-- how wide columns have to be so that these words end before the next call of the process; any width is enough where there is none
unfoldable pub width_for : List Signature → (columns : ℕ) → Bar → ℕ
width_for exports columns b = cond (nat_lt b.next columns) (7 * (most_letters exports b + 1) / max (b.next - b.begin) 1 + 1) 0

abbrev pub width_at : List Signature → (columns : ℕ) → Sight → Happening → List Sight → ℕ
width_at exports columns s (Begun call) behind = width_for exports columns (bar_of columns s call behind)
width_at exports columns s (Taken number maker) behind = 0
width_at exports columns s (Ended reply) behind = 0

-- how wide columns have to be for the words of all calls
abbrev pub wanted : List Signature → (columns : ℕ) → List Sight → ℕ
wanted exports columns [] = 0
wanted exports columns (s ∷ behind) = max (width_at exports columns s s.happening behind) (wanted exports columns behind)
