-- Exchanges in a history: counted, and none without an id.
use Rattle.std.proofs.Common.{◌≡◌, ℕ, zero, suc, ◌+◌, ◌≤◌, false, List, [], ◌∷◌, ◌++◌, length, drop, refl, ap, ◌∙◌, arith}
use Rattle.std.specs.Prelude.{Option, Some, None}
use Rattle.std.proofs.lemmas.List.{drop-append-le, at_drop_all}
use Rattle.ob_interface.specs.Call.{ObjectCall, Reply}
use Rattle.wf_history.specs.History.{Event, Begin, Applied, End}
use Rattle.wf_table.specs.Object.{history_after}
use Rattle.wf_table.specs.Order.{exchanges_in, NoneEmpty}
use Rattle.wf_table.proofs.HelpAndOrderSteps.{applies}

abbrev Events : Type 0
Events = List (Event ObjectCall Reply)

pub exchanges_in-append : (xs ys : Events) → exchanges_in (xs ++ ys) ≡ exchanges_in xs + exchanges_in ys
exchanges_in-append [] ys = omega arith
exchanges_in-append (Begin id call ∷ xs) ys = exchanges_in-append xs ys
exchanges_in-append (Applied ids ∷ xs) ys = omega (arith, exchanges_in-append xs ys)
exchanges_in-append (End id reply ∷ xs) ys = exchanges_in-append xs ys

one_less : (e : Event ObjectCall Reply) (xs : Events) → exchanges_in xs ≤ exchanges_in (e ∷ xs)
one_less (Begin id call) xs = omega arith
one_less (Applied ids) xs = omega arith
one_less (End id reply) xs = omega arith

pub fewer_later : (xs : Events) (a b : ℕ) → a ≤ b → exchanges_in (drop b xs) ≤ exchanges_in (drop a xs)
fewer_later [] zero zero le = omega arith
fewer_later [] zero (suc b) le = omega arith
fewer_later [] (suc a) zero le = omega arith
fewer_later [] (suc a) (suc b) le = omega arith
fewer_later (x ∷ xs) zero zero le = omega arith
fewer_later (x ∷ xs) zero (suc b) le = omega (arith, fewer_later xs zero b (omega arith), one_less x xs)
fewer_later (x ∷ xs) (suc a) zero le = absurd (omega (arith, le))
fewer_later (x ∷ xs) (suc a) (suc b) le = fewer_later xs a b (omega (arith, le))

pub none_behind : (xs : Events) (a : ℕ) → length xs ≤ a → exchanges_in (drop a xs) ≡ 0
none_behind xs a le = at_drop_all exchanges_in xs a le

-- behind a mark that is not beyond the end
pub exchanges_more : (xs : Events) (event : Event ObjectCall Reply) (a : ℕ) → a ≤ length xs → exchanges_in (drop a (xs ++ event ∷ [])) ≡ exchanges_in (drop a xs) + exchanges_in (event ∷ [])
exchanges_more xs event a le = ap exchanges_in (drop-append-le a xs (event ∷ []) le) ∙ exchanges_in-append (drop a xs) (event ∷ [])

pub exchanges_same : (xs : Events) (event : Option (Event ObjectCall Reply)) (a : ℕ) → a ≤ length xs → applies event ≡ false → exchanges_in (drop a (history_after xs event)) ≡ exchanges_in (drop a xs)
exchanges_same xs None a le none = refl
exchanges_same xs (Some (Begin id call)) a le none = omega (arith, exchanges_more xs (Begin id call) a le)
exchanges_same xs (Some (Applied ids)) a le none = absurd (cc)
exchanges_same xs (Some (End id reply)) a le none = omega (arith, exchanges_more xs (End id reply) a le)

pub none_empty-append : (xs ys : Events) → NoneEmpty xs → NoneEmpty ys → NoneEmpty (xs ++ ys)
none_empty-append [] ys h k = k
none_empty-append (Begin id call ∷ xs) ys h k = none_empty-append xs ys h k
none_empty-append (Applied ids ∷ xs) ys h k = (h.0, none_empty-append xs ys h.1 k)
none_empty-append (End id reply ∷ xs) ys h k = none_empty-append xs ys h k

pub none_empty_after : (xs : Events) (event : Option (Event ObjectCall Reply)) → applies event ≡ false → NoneEmpty xs → NoneEmpty (history_after xs event)
none_empty_after xs None none h = h
none_empty_after xs (Some (Begin id call)) none h = none_empty-append xs (Begin id call ∷ []) h tt
none_empty_after xs (Some (Applied ids)) none h = absurd (cc)
none_empty_after xs (Some (End id reply)) none h = none_empty-append xs (End id reply ∷ []) h tt
