-- Lines behind the order, read one after the other.
use Rattle.std.proofs.Common.{◌≡◌, ◌∙◌, ℕ, ◌+◌, ◌<◌, zero, suc, List, [], ◌∷◌, ◌++◌, All, length, refl, sym, ap, subst, arith, append_assoc, append-nil, length-append}
use Rattle.ob_text_values_reading.specs.RecordTexts.{IsFirstOther, IsTail, Line}

pub no_tails : All IsTail []
no_tails i d within = absurd (omega arith)

all_push : {X : Type 0} (P : X → Type 0) (xs : List X) (x : X) → All P xs → P x → All P (xs ++ x ∷ [])
all_push P [] x h own zero d within = own
all_push P [] x h own (suc k) d within = absurd (omega arith)
all_push P (y ∷ xs) x h own zero d within = h 0 d (omega arith)
all_push P (y ∷ xs) x h own (suc k) d within = all_push P xs x (λ i e below. h (suc i) e (omega arith)) own k d (omega arith)

-- so many lines have S or V for their first byte
pub record TailsTo (all left : List Line) (place : ℕ) : Type 0 where
  pub before : List Line
  pub parts : all ≡ before ++ left
  pub tails : All IsTail before
  pub counted : place ≡ length before

pub no_tail_yet : (all : List Line) → TailsTo all all 0
no_tail_yet all = record { before = []; parts = refl; tails = no_tails; counted = refl }

module _ (all left rest : List Line) (line : Line) (place : ℕ) (t : TailsTo all left place) (is : left ≡ line ∷ rest) where
  tail_parts : all ≡ t.before ++ line ∷ rest
  tail_parts = t.parts ∙ ap (λ ls. t.before ++ ls) is

  pub tail_within : place < length all
  tail_within = let long = ap length tail_parts ∙ length-append t.before (line ∷ rest) in omega (arith, long, t.counted)

  pub one_tail_more : IsTail line → TailsTo all rest (place + 1)
  one_tail_more h =
      record {
        before = t.before ++ line ∷ [];
        parts = tail_parts ∙ sym (append_assoc t.before (line ∷ []) rest);
        tails = all_push IsTail t.before line t.tails h;
        counted = let long = length-append t.before (line ∷ []) in omega (arith, long, t.counted);
      }

  pub other_here : ¬ IsTail line → IsFirstOther all place
  other_here bad = record { before = t.before; line = line; rest = rest; parts = tail_parts; counted = t.counted; tails = t.tails; other = bad }

pub all_tails : (all left : List Line) (place : ℕ) → TailsTo all left place → left ≡ [] → All IsTail all
all_tails all left place t is = subst (λ (ls : List Line). All IsTail ls) (sym (t.parts ∙ ap (λ ls. t.before ++ ls) is ∙ append-nil t.before)) t.tails
