-- What happens at calls one after the other, and at one call more.
use Rattle.std.proofs.Common.{◌≡◌, ap, sym, ◌∙◌, ℕ, List, ◌∷◌, ◌++◌, ◌<◌, ◌≤◌, ◌+◌, length, drop, get_or, append_assoc}
use Rattle.std.proofs.lemmas.List.{append-nil}
use Rattle.ob_interface.specs.Call.{ObjectCall}
use Rattle.ob_mean.proofs.Runs.{drop_here, drop_beyond}
use Rattle.ob_object_outcomes.specs.Stories.{called, state_behind, step_lines, steps_lines}
use Rattle.ob_meaning.specs.ByPositionStore.{Activation}
use Rattle.ob_typing.specs.Program.{Program}
use Rattle.wf_history.specs.declared.event.CallId.{CallId}

module _ (program : Program) (budget : ℕ) (scripts : List (List ObjectCall)) (path : List CallId) (told : List ℕ) where
  -- behind the call at a position
  pub told_next : (position : ℕ) (id default : CallId) (before after : Activation) (so_far more : List ℕ) → position < length path → id ≡ get_or path position default →
      more ≡ so_far ++ step_lines program budget id (called scripts id) before → after ≡ state_behind program budget (called scripts id) before →
      so_far ++ steps_lines program budget scripts (drop position path) before ≡ told →
      more ++ steps_lines program budget scripts (drop (position + 1) path) after ≡ told
  told_next position id default before after so_far more below here lines behind all =
      let rest = drop (position + 1) path in
      let at = step_lines program budget id (called scripts id) before in
      let left = steps_lines program budget scripts rest (state_behind program budget (called scripts id) before) in
      let ids : drop position path ≡ id ∷ rest = drop_here path position default below ∙ ap (λ c. c ∷ rest) (sym here) in
      ap (λ text. text ++ steps_lines program budget scripts rest after) lines
      ∙ ap (λ state. (so_far ++ at) ++ steps_lines program budget scripts rest state) behind
      ∙ append_assoc so_far at left
      ∙ sym (ap (λ left_ids. so_far ++ steps_lines program budget scripts left_ids before) ids)
      ∙ all

  -- behind all calls
  pub told_all : (position : ℕ) (state : Activation) (so_far : List ℕ) → length path ≤ position →
      so_far ++ steps_lines program budget scripts (drop position path) state ≡ told → so_far ≡ told
  told_all position state so_far beyond all =
      sym (append-nil so_far) ∙ sym (ap (λ ids. so_far ++ steps_lines program budget scripts ids state) (drop_beyond path position beyond)) ∙ all
