-- Traps that are told by their number alone.
use Rattle.std.specs.Prelude.{◌≡◌, ℕ, ◌≤◌, List, [], ◌∷◌, Option, MatchOption}
use Rattle.ob_interface.specs.Call.{Trapped}
use Rattle.ob_interface.specs.View.{reply_of}
use Rattle.ob_interface.specs.declared.call.Reply.{Reply}
use Rattle.ob_text_values_reading.specs.Numbers.{SaysNoNumber}
use Rattle.ob_text_words.specs.Words.{IsNumeral, Word}
use Rattle.ob_typing.specs.Arithmetic.{no_turn_left}

-- the trap whose number the only word says is found, if it says one
abbrev pub FindsTrap : List Word → Option Reply → Type 0
FindsTrap ws found =
    MatchOption found (SaysNoNumber ws 1 no_turn_left)
    (λ reply. (word : Word) × (k : ℕ) × (ws ≡ word ∷ []) × IsNumeral word k × (1 ≤ k) × (k ≤ no_turn_left) × (reply_of reply ≡ Trapped k))
