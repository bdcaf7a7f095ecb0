use Rattle.std.proofs.Common.{◌+◌, ◌<◌, ◌≤◌, ◌^◌, length, refl, rules, arith, subst, ap, ◌∙◌}
use Rattle.std.proofs.Math.Logic.{∥∥₁_elim}
use Rattle.std.proofs.Props.{props}
use Rattle.ob_code_scheme.specs.Types.{extent}
use Rattle.ob_layout.specs.Frames.{variables_by}
use Rattle.ob_layout.specs.Layout.{types_in}
use Rattle.ob_layout.proofs.PartWords.{found_in, place_here, part_here, no_place, word_here, within_extent}
use Rattle.ob_layout.proofs.layout.Layout.word_of.Goals as goal

pub overflow_add-result : goal.overflow_add-result
overflow_add-result c =
    let ts = types_in c.args.self.now in
    let at = found_in _ _ c.deref.ensures.value c.args.position c.in-Some.variable.now c.in-Some.ensures.lookup.3.0 c.in-Some.ensures.lookup.1 in
    let small : extent (variables_by ts c.args.self.now.variables.items) < 2 ^ 63 =
    ∥∥₁_elim c.args.self.now.scope (hlevel props) (λ e. let same = ap extent e in let words = c.args.self.now.words.words in let few = c.args.self.now.words.small in omega (arith, same, words, few)) in
    let there = c.in-Some-part_word.ensures in
    let within = within_extent ts c.args.self.now.variables.items c.args.position c.in-Some.variable.now at c.args.path.now c.in-Some-part_word.word there.word (there.there.0 refl) in
    let word = c.variable_word.ensures in
    let few : c.variable_word.result + c.in-Some-part_word.word < 2 ^ 63 = omega (arith, small, within, word) in
    search rules

pub returns-in-None-clause-there : goal.returns-in-None-clause-there
returns-in-None-clause-there c = (
  (λ h. absurd (cc (h))),
  (λ h. absurd (no_place (types_in c.args.self.now) c.args.self.now.variables.items c.args.position (subst (λ vs. length vs ≤ c.args.position) c.deref.ensures.value c.in-None.ensures.lookup.3) c.args.path.now h)),
)

pub returns-in-None-part_word-clause-there : goal.returns-in-None-part_word-clause-there
returns-in-None-part_word-clause-there c =
    let at = found_in _ _ c.deref.ensures.value c.args.position c.in-Some.variable.now c.in-Some.ensures.lookup.3.0 c.in-Some.ensures.lookup.1 in (
      (λ h. absurd (cc (h))),
      (λ h. c.in-None-part_word.ensures.there.1 (part_here (types_in c.args.self.now) c.args.self.now.variables.items c.args.position c.in-Some.variable.now at c.args.path.now h)),
    )

pub returns-in-Some-part_word-clause-word : goal.returns-in-Some-part_word-clause-word
returns-in-Some-part_word-clause-word c =
    let at = found_in _ _ c.deref.ensures.value c.args.position c.in-Some.variable.now c.in-Some.ensures.lookup.3.0 c.in-Some.ensures.lookup.1 in
    let there = c.in-Some-part_word.ensures in
    ap (λ n. n + c.in-Some-part_word.word) c.variable_word.ensures
    ∙ word_here (types_in c.args.self.now) c.args.self.now.variables.items c.args.position c.in-Some.variable.now at c.args.path.now c.in-Some-part_word.word there.word

pub returns-in-Some-part_word-clause-there : goal.returns-in-Some-part_word-clause-there
returns-in-Some-part_word-clause-there c =
    let at = found_in _ _ c.deref.ensures.value c.args.position c.in-Some.variable.now c.in-Some.ensures.lookup.3.0 c.in-Some.ensures.lookup.1 in (
      (λ h. place_here (types_in c.args.self.now) c.args.self.now.variables.items c.args.position c.in-Some.variable.now at c.args.path.now (c.in-Some-part_word.ensures.there.0 refl)),
      (λ h. refl),
    )
