use Rattle.std.proofs.Common.{◌≡◌, ◌-◌, ◌++◌, ◌∙◌, List, ℕ, ap, codes, rules}
use Rattle.ob_fault_lines.specs.Counts.{part}
use Rattle.ob_fault_lines.proofs.count_lines.counts_line.Goals as goal

pub returns : goal.returns
returns c =
    let ended = c.ended_calls-ended.result in
    let calls = c.args.calls in
    let begun = c.begun_calls-begun.result in
    let left : c.saturating_sub.result ≡ calls - begun = search rules in
    let first : List ℕ = part ended (codes " of ") in
    let second : List ℕ = part calls (codes " calls ended, ") in
    record {
      ended = ended;
      begun = begun;
      end = c.ended_calls-ended.ensures;
      begin = c.begun_calls-begun.ensures;
      says =
          c.in_ok-push_part-3.ensures
          ∙ ap (λ (t : List ℕ). t ++ part c.saturating_sub.result (codes " never began\n"))
          (c.in_ok-push_part-2.ensures ∙ ap (λ (t : List ℕ). t ++ second) (c.in_ok-push_part.ensures ∙ ap (λ (t : List ℕ). t ++ first) c.new-line.ensures.bytes))
          ∙ ap (λ (k : ℕ). (first ++ second) ++ part k (codes " never began\n")) left;
    }
