-- What a text is to which something was appended, where that went well.
use Rattle.std.proofs.Common.{◌≡◌, ◌∙◌, ℕ, List, Result, Ok, Err, if◌then◌else◌}
use Rattle.std.specs.Prelude.{OnOk}
use Rattle.std.specs.Result.{is_ok}

pub appended : {A E : Type 0} (r : Result A E) (text longer before told : List ℕ) → text ≡ (if is_ok r then longer else before) → longer ≡ told → OnOk r (text ≡ told)
appended (Ok a) text longer before told h same = h ∙ same
appended (Err e) text longer before told h same = tt
