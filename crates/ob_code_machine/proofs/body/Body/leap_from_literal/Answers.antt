use Rattle.std.proofs.Common.{◌≡◌, ◌<◌, ◌-◌, ◌++◌, ◌∷◌, [], length, take, sym, ◌∙◌, ap, subst, arith, to_z, of_z, w32, w64, to_z-of_z}
use Rattle.ob_code_machine.specs.declared.turn.BodyTurn.TheVariants.{On}
use Rattle.ob_code_machine.specs.Body.{Run}
use Rattle.ob_code_machine.specs.Leaps.{IsMadeWith, Puts, behind_both}
use Rattle.ob_code_machine.proofs.Goes.{leaps_more}
use Rattle.ob_code_machine.proofs.Leaps.{literal_put, literal_taken, some_top}
use Rattle.ob_code_machine.proofs.body.Body.leap_from_literal.Goals as goal

pub returns-then-puts_made : goal.returns-then-puts_made
returns-then-puts_made c =
    let code = c.args.code.now.instructions in
    let t = c.if-puts_made.true in
    let word = c.in-Some.word in
    let same_value : to_z w32 (of_z w32 c.args.value) ≡ c.args.value = search (arith, to_z-of_z) in
    let made = subst (λ v. IsMadeWith code c.args.self.now v word) same_value c.in-Some.ensures in
    let same : to_z w64 (of_z w64 word) ≡ word = search (arith, to_z-of_z) in
    let puts = subst (λ w. Puts (length c.args.self.now.body.stack - 2) 3 w c.args.self.now c.args.block.now c.puts_made.new.self c.puts_made.new.block) same c.if-puts_made.ensures.puts in
    leaps_more code 3 c.args.self.now c.args.block.now c.puts_made.new.self c.puts_made.new.block (omega arith) (omega arith)
    (literal_put code c.args.self.now c.args.block.now c.args.value word c.requires.works c.requires.here made c.puts_made.new.self c.puts_made.new.block (c.puts_made.ensures.there t) (c.puts_made.ensures.high t) puts)

pub keep_made-requires : goal.keep_made-requires
keep_made-requires c =
    let same = c.if-puts_made.ensures.puts.0 in
    let m = c.in-Some.ensures in
    record {
      some = subst (λ (r : Run). 0 < length r.body.stack) (sym same) (some_top c.args.self.now.body.stack m.under m.top);
      within = subst (λ (r : Run). r.body.pc < 65535) (sym same) c.requires.within;
    }

pub returns : goal.returns
returns c =
    let code = c.args.code.now.instructions in
    let old = c.args.self.now in
    let block = c.args.block.now in
    let word = c.in-Some.word in
    let same_value : to_z w32 (of_z w32 c.args.value) ≡ c.args.value = search (arith, to_z-of_z) in
    let made = subst (λ v. IsMadeWith code c.args.self.now v word) same_value c.in-Some.ensures in
    let same : to_z w64 (of_z w64 word) ≡ word = search (arith, to_z-of_z) in
    let kept = c.if-puts_made.ensures.puts in
    let is : c.keep_made.new.self ≡ behind_both old (take (length old.body.stack - 1) old.body.stack ++ word ∷ []) =
    c.keep_made.ensures
    ∙ ap (λ (r : Run). behind_both r (take (length r.body.stack - 1) r.body.stack ++ to_z w64 (of_z w64 word) ∷ [])) kept.0
    ∙ ap (λ w. behind_both old (take (length old.body.stack - 1) old.body.stack ++ w ∷ [])) same in
    leaps_more code 2 old block c.keep_made.new.self c.puts_made.new.block (omega arith) (omega arith)
    (literal_taken code old block c.args.value word c.requires.works c.requires.here made
    ∙ ap (λ (r : Run). record { turn = On; run = r; block = block }) (sym is)
    ∙ ap (λ b. record { turn = On; run = c.keep_made.new.self; block = b }) (sym kept.1))
