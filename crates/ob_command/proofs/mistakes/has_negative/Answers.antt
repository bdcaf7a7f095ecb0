use Rattle.std.proofs.Common.{◌≡◌, ◌∙◌, ℕ, Bor, List, rules, tests}
use Rattle.std.specs.List.{list_any}
use Rattle.std.proofs.lemmas.Iterator.{YieldsList-from_slice}
use Rattle.std.proofs.lemmas.Iterator.Search.{any_from_yields_List}
use Rattle.clap.proofs.WalkLemmas.{list_any-map}
use Rattle.ob_command.specs.CommandLine.{is_negative}
use Rattle.ob_command.proofs.mistakes.has_negative.Goals as goal

pub returns : goal.returns
returns c =
    let words = c.args.words.now in
    let found : c.any.result ≡ list_any (λ (w : Bor (List ℕ)). is_negative w.now) words =
    any_from_yields_List _ _ _ _ c.any.ensures.ran (YieldsList-from_slice words cc) (λ x r q k. search (rules, tests)) in
    found ∙ list_any-map is_negative (λ (w : Bor (List ℕ)). w.now) words
