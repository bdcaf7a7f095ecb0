-- A text has one line at fault.
use Rattle.std.proofs.Common.{◌≡◌, ◌∙◌, ℕ, ◌+◌, ◌<◌, ◌≤◌, suc, List, [], ◌∷◌, ◌++◌, length, take, drop, refl, sym, ap, subst, inl, inr, arith, append_assoc, length-append}
use Rattle.std.proofs.lemmas.Bool.{cases_lt}
use Rattle.std.proofs.lemmas.List.{take-append-drop, take-append-le, take-take, take_all}
use Rattle.ob_text_reading.specs.RecordLines as Lines
use Rattle.ob_text_reading.specs.RecordLines.{BeginsRecord, FailsAtLine, IsRecordPart, Line, StandsAmong, line_number, said}
use Rattle.ob_typing.specs.Program.{Program}

module _ (program : Program) where
  -- lines with which a record begins, and fewer of them
  begins_fewer : (front back : List Line) → BeginsRecord program (front ++ back) → BeginsRecord program front
  begins_fewer front back b =
      record { rest = back ++ b.rest; part = subst (λ (ls : List Line). IsRecordPart program ls) (append_assoc front back b.rest) b.part }

  begins_first : (ls : List Line) (count more : ℕ) → count ≤ more → BeginsRecord program (take more ls) → BeginsRecord program (take count ls)
  begins_first ls count more le b =
      subst (λ (front : List Line). BeginsRecord program front) (take-take count more ls le)
      (begins_fewer (take count (take more ls)) (drop count (take more ls))
      (subst (λ (all : List Line). BeginsRecord program all) (sym (take-append-drop count (take more ls))) b))

  -- a record begins with the first so many lines, and none does with one more
  record Stops (ls : List Line) (count : ℕ) : Type 0 where
    within : count ≤ length ls
    begins : BeginsRecord program (take count ls)
    ends : count < length ls → ¬ BeginsRecord program (take (suc count) ls)

  stops : (ls : List Line) (number : ℕ) → FailsAtLine program ls number → (count : ℕ) × (number ≡ count + 1) × Stops ls count
  stops ls number (Lines.misplaced before line rest good bad) =
      let long = length-append before (line ∷ rest) in
      let one : length (before ++ line ∷ []) ≡ length before + 1 = length-append before (line ∷ []) in
      let first : take (length before) (before ++ line ∷ rest) ≡ before =
      take-append-le (length before) before (line ∷ rest) (omega arith) ∙ take_all (length before) before (omega arith) in
      let next : take (suc (length before)) (before ++ line ∷ rest) ≡ before ++ line ∷ [] =
      ap (λ (all : List Line). take (suc (length before)) all) (sym (append_assoc before (line ∷ []) rest))
      ∙ take-append-le (suc (length before)) (before ++ line ∷ []) rest (omega (arith, one))
      ∙ take_all (suc (length before)) (before ++ line ∷ []) (omega (arith, one)) in (
        length before,
        refl,
        record {
          within = omega (arith, long);
          begins = subst (λ (front : List Line). BeginsRecord program front) (sym first) good;
          ends = λ more h. bad (subst (λ (front : List Line). BeginsRecord program front) next h);
        },
      )
  stops ls number (Lines.missing good bad) = (
    length ls,
    refl,
    record {
      within = omega arith;
      begins = subst (λ (front : List Line). BeginsRecord program front) (sym (take_all (length ls) ls (omega arith))) good;
      ends = λ more h. omega (arith, more);
    },
  )

  stops_first : (ls : List Line) (count more : ℕ) → Stops ls count → Stops ls more → count < more → ⊥
  stops_first ls count more first later lt =
      let within = later.within in
      first.ends (omega (arith, within, lt)) (begins_first ls (suc count) more (omega (arith, lt)) later.begins)

  one_line : (ls : List Line) (number other : ℕ) → FailsAtLine program ls number → FailsAtLine program ls other → number ≡ other
  one_line ls number other f g =
      let a = stops ls number f in
      let b = stops ls other g in
      let here = a.1 in
      let there = b.1 in
      elim (cases_lt a.0 b.0) [
        | inl lt ↦ absurd (stops_first ls a.0 b.0 a.2 b.2 lt)
        | inr le ↦ elim (cases_lt b.0 a.0) [ inl lt ↦ absurd (stops_first ls b.0 a.0 b.2 a.2 lt) | inr ge ↦ omega (arith, here, there, le, ge) ]
      ]

  -- the same among lines that may be remarks
  pub one_among : (ls : List Line) (number other : ℕ) → StandsAmong (FailsAtLine program) ls number → StandsAmong (FailsAtLine program) ls other → number ≡ other
  one_among ls number other f g = f.counted ∙ ap (line_number ls) (one_line (said ls) f.own g.own f.stands g.stands) ∙ sym g.counted
