-- Rows of edges, as they grow.
use Rattle.std.proofs.Common.{◌≡◌, sym, ap, ◌∙◌, subst, ℕ, ◌+◌, List, [], ◌∷◌, ◌++◌, length, get_or, Option, None, Some, inl, inr, arith}
use Rattle.std.proofs.Math.Seq.{get_or-append_seam}
use Rattle.std.proofs.lemmas.Bool.{cases_lt}
use Rattle.std.proofs.lemmas.List.{length-append, get_or_append_left}
use Rattle.std.specs.List.{slice_get}
use Rattle.wf_history.proofs.Positions.{place_left, place_push}
use Rattle.wf_whole_outcomes.specs.Graph.{GoesOn, IsNarrow}
use Rattle.wf_whole_outcomes.specs.declared.edges.Edge.{Edge}
use Rattle.wf_outcomes.specs.Explored.{Kept}
use Rattle.wf_whole_outcomes.specs.OutcomeGraph.{AreRows, IsEdge, IsRow, SaysEdge}

module _ {State Call Reply : Type 0} (Effect : Call → State → State → Reply → Type 0) (scripts : List (List Call)) (found : List (Kept State)) where
  module _ (replies more : List Reply) (on : GoesOn replies more) where
    says_more : (place process : ℕ) (o : Option Edge) → SaysEdge Effect scripts found replies place process o → SaysEdge Effect scripts found more place process o
    says_more place process None h = h
    says_more place process (Some e) h =
        let is : IsEdge Effect scripts found replies place process e = h in
        record { reply = is.reply; numbered = ap (λ (l : List Reply). slice_get l e.reply) on.1 ∙ place_left replies on.0 e.reply is.reply is.numbered; leads = is.leads }

    row_more : (place bound : ℕ) (row : List (Option Edge)) → IsRow Effect scripts found replies place bound row → IsRow Effect scripts found more place bound row
    row_more place bound row h = record { size = h.size; each = λ process less. says_more place process (get_or row process None) (h.each process less) }

    pub row_push : (place bound : ℕ) (row : List (Option Edge)) → IsRow Effect scripts found replies place bound row → (o : Option Edge) → SaysEdge Effect scripts found more place bound o →
        (after : List (Option Edge)) → after ≡ row ++ o ∷ [] → IsRow Effect scripts found more place (bound + 1) after
    row_push place bound row h o says after pushed = subst (IsRow Effect scripts found more place (bound + 1)) (sym pushed) (record {
      size = let size = h.size in let longer = length-append row (o ∷ []) in omega (arith, size, longer);
      each = λ process less.
          let size = h.size in
          elim (cases_lt process bound) [
            | inl before ↦
                subst (λ (x : Option Edge). SaysEdge Effect scripts found more place process x) (sym (get_or_append_left row (o ∷ []) None process (omega (arith, size, before))))
                (says_more place process (get_or row process None) (h.each process before))
            | inr behind ↦
                let end : process ≡ length row = omega (arith, size, less, behind) in
                subst (λ (x : Option Edge). SaysEdge Effect scripts found more place process x) (sym (ap (λ (n : ℕ). get_or (row ++ o ∷ []) n None) end ∙ get_or-append_seam row o [] None))
                (subst (λ (p : ℕ). SaysEdge Effect scripts found more place p o) (sym (end ∙ size)) says)
          ];
    })

    pub rows_push : (bound : ℕ) (rows : List (List (Option Edge))) → AreRows Effect scripts found replies bound rows → (row : List (Option Edge)) → IsRow Effect scripts found more bound (length scripts) row →
        (after : List (List (Option Edge))) → after ≡ rows ++ row ∷ [] → AreRows Effect scripts found more (bound + 1) after
    rows_push bound rows h row is after pushed = subst (AreRows Effect scripts found more (bound + 1)) (sym pushed) (record {
      size = let size = h.size in let longer = length-append rows (row ∷ []) in omega (arith, size, longer);
      each = λ place less.
          let size = h.size in
          elim (cases_lt place bound) [
            | inl before ↦
                subst (IsRow Effect scripts found more place (length scripts)) (sym (get_or_append_left rows (row ∷ []) [] place (omega (arith, size, before))))
                (row_more place (length scripts) (get_or rows place []) (h.each place before))
            | inr behind ↦
                let end : place ≡ length rows = omega (arith, size, less, behind) in
                subst (IsRow Effect scripts found more place (length scripts)) (sym (ap (λ (n : ℕ). get_or (rows ++ row ∷ []) n []) end ∙ get_or-append_seam rows row [] []))
                (subst (λ (p : ℕ). IsRow Effect scripts found more p (length scripts) row) (sym (end ∙ size)) is)
          ];
    })

  pub row_none : (replies : List Reply) (place : ℕ) (row : List (Option Edge)) → row ≡ [] → IsRow Effect scripts found replies place 0 row
  row_none replies place row none = record { size = ap length none; each = λ process less. absurd (omega (arith, less)) }

  pub rows_none : (replies : List Reply) (rows : List (List (Option Edge))) → rows ≡ [] → AreRows Effect scripts found replies 0 rows
  rows_none replies rows none = record { size = ap length none; each = λ place less. absurd (omega (arith, less)) }

-- rows of one length
pub narrow_none : (rows : List (List (Option Edge))) (processes : ℕ) → rows ≡ [] → IsNarrow rows processes
narrow_none rows processes none k row at = let e : slice_get [] k ≡ Some row = ap (λ (l : List (List (Option Edge))). slice_get l k) (sym none) ∙ at in absurd (cc)

pub narrow_push : (rows : List (List (Option Edge))) (processes : ℕ) → IsNarrow rows processes → (row : List (Option Edge)) → length row ≡ processes →
    (after : List (List (Option Edge))) → after ≡ rows ++ row ∷ [] → IsNarrow after processes
narrow_push rows processes h row size after pushed k one at =
    elim (place_push rows row k one (ap (λ (l : List (List (Option Edge))). slice_get l k) (sym pushed) ∙ at)) [
      | inl old ↦ h k one old
      | inr new ↦ ap length (sym new.1) ∙ size
    ]
