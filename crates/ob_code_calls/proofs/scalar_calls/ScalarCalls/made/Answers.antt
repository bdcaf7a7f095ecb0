-- The block of scalars is lawful, and what is made of it is what the code makes.
use Rattle.std.proofs.Common.{rules, subst, sym, List, map}
use Rattle.std.specs.Prelude.{ℤ}
use Rattle.std.proofs.lemmas.List.{places, with_items_is}
use Rattle.ob_code_calls.specs.Calls.{IsMadeThrough, asked}
use Rattle.ob_code_calls.specs.Parts.{parts_in}
use Rattle.ob_code_calls.specs.Scalars.{held_of}
use Rattle.ob_code_calls.proofs.OnScalars.{lawful_scalars}
use Rattle.ob_code_scheme.specs.Layout.{IsEncoding}
use Rattle.ob_typing.specs.Program.{Variable}
use Rattle.ob_code_calls.proofs.scalar_calls.ScalarCalls.made.Goals as goal

pub make-trap-requires-clause-lawful : goal.make-trap-requires-clause-lawful
make-trap-requires-clause-lawful c =
    lawful_scalars (parts_in c.args.self.now.calls) c.args.variables.now c.args.scalars.now c.lay_scalars.new.words (λ types. c.lay_scalars.ensures types c.if-not-lay_scalars.false) c.requires

pub returns-clause-made : goal.returns-clause-made
returns-clause-made c = λ program types compiled are.
    let block = c.lay_scalars.new.words in
    let before = map held_of c.args.scalars.now in
    let encodes = subst (λ (vs : List Variable). IsEncoding vs before block) are (c.lay_scalars.ensures types c.if-not-lay_scalars.false) in
    let left = with_items_is c.deref_mut-here.result.now.block c.make-trap.new.block (search (rules, places)) in
    record {
      block = block;
      laid = encodes;
      through = subst (λ (b : List ℤ). IsMadeThrough program (parts_in c.args.self.now.calls) (asked c.args.proc c.args.arguments.now) before block b c.make-trap.new.room.run c.make-trap.result.0) (sym left)
          (c.make-trap.ensures.made program before compiled encodes);
    }
