-- What known bytes are after one read or write behind another.
use Rattle.std.proofs.Common.{◌≡◌, ℕ, ◌+◌, ◌-◌, ◌<◌, List, ◌++◌, Option, None, Some, Result, Ok, Err, OnErr, length, take, drop, sym, ap, ◌∙◌, subst, append_assoc, take-append-drop, length-append, arith}
use Rattle.std.proofs.Math.Seq.{take-add, take-append_seam}
use Rattle.std.proofs.lemmas.List.{take_rest}
use Rattle.std.specs.Io.KnownBytes.{Appends, Consumes, Keeps}
use Rattle.ob_device.specs.Devices.{AppendsPart}

-- ---- reads

pub consumed_more : (a b c : Option (List ℕ)) (bs cs : List ℕ) → Consumes a b bs → Consumes b c cs → Consumes a c (bs ++ cs)
consumed_more None b c bs cs p q = tt
consumed_more (Some x) None c bs cs p q = absurd p
consumed_more (Some x) (Some y) None bs cs p q = absurd q
consumed_more (Some x) (Some y) (Some z) bs cs p q = p ∙ ap (λ l. bs ++ l) q ∙ sym (append_assoc bs cs z)

-- xs were filled up to f by reads, and ys have that front and what one more read gave
pub filled_more : (a b c : Option (List ℕ)) (xs ys : List ℕ) (f n : ℕ) → take f ys ≡ take f xs → Consumes a b (take f xs)
    → Consumes b c (take n (drop f ys)) → Consumes a c (take (f + n) ys)
filled_more a b c xs ys f n front before read =
    subst (Consumes a c) (sym (take-add f n ys ∙ ap (λ l. l ++ take n (drop f ys)) front)) (consumed_more a b c _ _ before read)

-- ---- writes

pub appended_more : (a b c : Option (List ℕ)) (bs cs : List ℕ) → Appends a b bs → Appends b c cs → Appends a c (bs ++ cs)
appended_more None b c bs cs p q = tt
appended_more (Some x) None c bs cs p q = absurd p
appended_more (Some x) (Some y) None bs cs p q = absurd q
appended_more (Some x) (Some y) (Some z) bs cs p q = q ∙ ap (λ l. l ++ cs) p ∙ append_assoc x bs cs

-- a write that failed, or took no byte, wrote nothing
pub appended_kept : (a b c : Option (List ℕ)) (bs : List ℕ) → Appends a b bs → Keeps b c → Appends a c bs
appended_kept None b c bs p q = tt
appended_kept (Some x) None c bs p q = absurd p
appended_kept (Some x) (Some y) None bs p q = absurd q
appended_kept (Some x) (Some y) (Some z) bs p q = q ∙ p

-- n bytes more of a text that is written up to a rest
pub moved_front : (all done rest : List ℕ) (n : ℕ) → all ≡ done ++ rest → all ≡ (done ++ take n rest) ++ take (length rest - n) (drop n rest)
moved_front all done rest n e =
    e ∙ ap (λ l. done ++ l) (sym (take-append-drop n rest)) ∙ sym (append_assoc done (take n rest) (drop n rest))
    ∙ ap (λ l. (done ++ take n rest) ++ l) (sym (take_rest rest n))

-- what is written up to a rest that has some bytes is a beginning, and not all
pub part_written : (a b c : Option (List ℕ)) (all done rest : List ℕ) → all ≡ done ++ rest → 0 < length rest → Appends a b done → Keeps b c
    → AppendsPart a c all
part_written a b c all done rest whole some before kept =
    let front : take (length done) all ≡ done = ap (take (length done)) whole ∙ take-append_seam done rest in
    (length done, omega (arith, ap length whole, length-append done rest), subst (Appends a c) (sym front) (appended_kept a b c done before kept))

pub on_err : {A E P : Type 0} → (r : Result A E) → P → OnErr r P
on_err (Ok x) p = tt
on_err (Err e) p = p
