use Rattle.std.proofs.Common.{◌≡◌, ◌+◌, ◌++◌, [], ◌∷◌, List, ℕ, Result, Ok, Err, OnOk, is_ok, if◌then◌else◌, sym, ap, ◌∙◌, arith}
use Rattle.std.proofs.lemmas.Fmt.{decimal_digit}
use Rattle.ob_text_words.proofs.numbers.push_count.Goals as goal

-- a part that is appended, in other words
in_other_words : {T E : Type 0} (old new part other : List ℕ) (r : Result T E) → part ≡ other → new ≡ (if is_ok r then old ++ part else old) → OnOk r (new ≡ old ++ other)
in_other_words old new part other (Ok x) e h = h ∙ ap (λ t. old ++ t) e
in_other_words old new part other (Err x) e h = tt

pub returns-then-count-lt10-clause-ok : goal.returns-then-count-lt10-clause-ok
returns-then-count-lt10-clause-ok c =
    let is : c.from.result ≡ 48 + c.args.count = omega arith in
    in_other_words _ _ _ _ c.push.result (c.push.ensures.ascii (omega arith) ∙ ap (λ b. b ∷ []) is ∙ sym (decimal_digit c.args.count (omega arith))) c.push.ensures.bytes
