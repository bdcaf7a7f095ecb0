-- Places byte by byte.
use Rattle.std.proofs.Common.{◌≡◌, ℕ, ◌+◌, ◌<◌, List, length, take, get_or, ap, ◌∙◌}
use Rattle.std.specs.List.{fold}
use Rattle.std.proofs.lemmas.List.{take_more}
use Rattle.std.proofs.lemmas.List.Sums.{fold_push}
use Rattle.ob_explain_sentences.specs.declared.place.Place.{Place}
use Rattle.ob_explain_sentences.specs.Places.{behind_byte}

pub next_place : (first : Place) (bytes : List ℕ) (i : ℕ) → i < length bytes →
    fold behind_byte first (take (i + 1) bytes) ≡ behind_byte (fold behind_byte first (take i bytes)) (get_or bytes i 0)
next_place first bytes i h = ap (fold behind_byte first) (take_more bytes i 0 h) ∙ fold_push behind_byte first (take i bytes) (get_or bytes i 0)
