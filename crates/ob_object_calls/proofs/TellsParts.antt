-- What is told with the turns of calls and without them.
use Rattle.std.proofs.Common.{◌≡◌, ◌∙◌, ℕ, true, false, List, [], ◌++◌, refl, sym, ap, ap₂, subst, append-nil}
use Rattle.ob_interface.specs.Call.{ObjectCall}
use Rattle.ob_object_compile.specs.Compilation.{ObjectParts}
use Rattle.ob_object_calls.specs.declared.details.Details.{Details}
use Rattle.ob_object_calls.specs.DetailLines.{budget_line, told_lines}
use Rattle.ob_object_calls.specs.DetailedRun.{IsEnd, TellsAt, TellsTurns, changes_told, replies_at, told}
use Rattle.ob_mean.specs.Turns.{all_turns_at}

module _ (d : Details) (o : ObjectParts) (calls : List ObjectCall) (processes output : List ℕ) (changes : List (List ℕ)) (is : changes ≡ changes_told d.state o calls) where
  pub with_turns : d.turns ≡ true → TellsTurns o calls processes changes output → TellsAt d o calls processes output
  with_turns e h =
      let turns = all_turns_at o.program o.engine.budget o.opening calls in
      let least = h.0 in
      record {
        last = budget_line least;
        ends = subst (λ b. IsEnd b (replies_at o calls) o.engine.budget (budget_line least)) (sym e) (least, (h.1.0, refl));
        prints =
            h.1.1
            ∙ ap₂ (λ ts cs. told_lines ts cs processes (replies_at o calls o.engine.budget) ++ budget_line least) (sym (ap (λ b. told b turns) e)) is;
      }

  pub without_turns : d.turns ≡ false → output ≡ told_lines [] changes processes (replies_at o calls o.engine.budget) → TellsAt d o calls processes output
  without_turns e h =
      let turns = all_turns_at o.program o.engine.budget o.opening calls in
      let lines = told_lines (told d.turns turns) (changes_told d.state o calls) processes (replies_at o calls o.engine.budget) in
      record {
        last = [];
        ends = subst (λ b. IsEnd b (replies_at o calls) o.engine.budget []) (sym e) refl;
        prints =
            h ∙ ap₂ (λ ts cs. told_lines ts cs processes (replies_at o calls o.engine.budget)) (sym (ap (λ b. told b turns) e)) is ∙ sym (append-nil lines);
      }
