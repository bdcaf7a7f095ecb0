-- What is left of a text to which parts were appended, one by one.
use Rattle.std.proofs.Common.{◌≡◌, ℕ, List, [], ◌++◌, Result, Ok, Err, OnErr, sym, ap, ◌∙◌, append_assoc, is_ok, if◌then◌else◌}
use Rattle.std.proofs.lemmas.List.{append-nil}
use Rattle.ob_text_words.specs.Appending.{GoesOn}

-- no part yet
pub as_it_was : (a : List ℕ) → GoesOn a a
as_it_was a = record { behind = []; joined = sym (append-nil a) }

-- one part more
pub more : {a b c : List ℕ} (part : List ℕ) → GoesOn a b → c ≡ b ++ part → GoesOn a c
more {a = a} part h e = record { behind = h.behind ++ part; joined = e ∙ ap (λ t. t ++ part) h.joined ∙ append_assoc a h.behind part }

-- a part that was refused
pub no_more : {a b c : List ℕ} → GoesOn a b → c ≡ b → GoesOn a c
no_more h e = record { behind = h.behind; joined = e ∙ h.joined }

-- a part of several that was refused
pub some_more : {a b c : List ℕ} → GoesOn a b → GoesOn b c → GoesOn a c
some_more {a = a} h k = record { behind = h.behind ++ k.behind; joined = k.joined ∙ ap (λ t. t ++ k.behind) h.joined ∙ append_assoc a h.behind k.behind }

-- what is left, whatever the error is
pub left : {T E P : Type 0} (r : Result T E) → P → OnErr r P
left (Ok x) p = tt
left (Err e) p = p

-- the last part, whose answer is the answer
pub last_part : {T E : Type 0} {a b c : List ℕ} (part : List ℕ) (r : Result T E) → GoesOn a b → c ≡ (if is_ok r then b ++ part else b) → OnErr r (GoesOn a c)
last_part part (Ok x) h e = tt
last_part part (Err d) h e = no_more h e
