-- Room on the stack: where the positions are low there is room for the temporaries of each procedure, and a call stays low.
use Rattle.std.proofs.Common.{◌≡◌, ℕ, suc, ◌+◌, ◌*◌, ◌≤◌, List, [], ◌∷◌, ◌++◌, length, sym, ap, subst, arith}
use Rattle.ob_code_scheme.specs.Types.{Scope, extent, total, frame_scope}
use Rattle.ob_code_scheme.specs.Temporaries.{most_temporaries, frame_words, largest_frame}
use Rattle.ob_code_scheme.proofs.Fine.{frame_largest}
use Rattle.ob_code_scheme.specs.Executing.{LowHasRoom, StaysLow}

-- ---- room

pub total-more : (scopes : List Scope) (s : Scope) → total (scopes ++ s ∷ []) ≡ total scopes + extent s
total-more [] s = omega arith
total-more (t ∷ scopes) s = let rest = total-more scopes s in omega (arith, rest)

enough : (words depth more frame most : ℕ) → depth + more ≡ 64 → words ≤ 8 + depth * frame → words + 0 + most ≤ 8 + 64 * (frame + most)
enough words depth more frame most all low =
    let whole : (depth + more) * frame ≡ 64 * frame = ap (λ (n : ℕ). n * frame) all in
    omega (arith, whole, low)

pub low_has_room : LowHasRoom
low_has_room at more low =
    enough (total at.lower + extent at.own) (suc (length at.saved)) more (largest_frame at.program.procedures) (most_temporaries at.program.procedures) low.depth low.words

one_more : (words depth frame largest : ℕ) → frame ≤ largest → words ≤ 8 + depth * largest → words + frame ≤ 8 + suc depth * largest
one_more words depth frame largest fits low = omega (arith, fits, low)

pub stays_low : StaysLow
stays_low at more i a p here low = record {
  depth = omega (arith, low.depth);
  words =
      subst (λ (n : ℕ). n + extent (frame_scope p) ≤ 8 + suc (suc (length at.saved)) * largest_frame at.program.procedures) (sym (total-more at.lower at.own))
      (one_more (total at.lower + extent at.own) (suc (length at.saved)) (frame_words p) (largest_frame at.program.procedures) (frame_largest at.program.procedures i p here) low.words);
}
