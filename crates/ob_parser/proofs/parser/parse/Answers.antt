use Rattle.std.proofs.Common.{◌≡◌, refl, sym, subst}
use Rattle.ob_grammar.specs.declared.tree.ModuleTree.{ModuleTree}
use Rattle.ob_grammar.specs.Tree.{Module}
use Rattle.ob_grammar.specs.Grammar.{Derives}
use Rattle.ob_grammar.specs.EndNamesAndNesting.{KeepsConditions}
use Rattle.ob_grammar.specs.View.{module_of}
use Rattle.ob_grammar.proofs.Exits.{passed_on}
use Rattle.ob_scan.specs.Tokens.{HasTokens}
use Rattle.ob_scan.specs.Listed.{Listing}
use Rattle.ob_scan.proofs.Listings.{stands_first}
use Rattle.ob_parser.specs.ParseFaults.{lexemes_of, IsParseFault}
use Rattle.ob_parser.proofs.Whole.{has_text}
use Rattle.ob_parser.proofs.parser.parse.Goals as goal

pub returns-in_err-tree-clause-fault : goal.returns-in_err-tree-clause-fault
returns-in_err-tree-clause-fault c =
    passed_on (λ e. IsParseFault c.args.tokens.now e) _ _ c.from_residual.ensures.1
    (c.in_err-tree.ensures.fails c.args.tokens.now (stands_first c.new.ensures.begun))

pub new-requires-2-clause-has_text : goal.new-requires-2-clause-has_text
new-requires-2-clause-has_text c =
    let P : Listing → Type 0 = λ l. HasTokens l.source.text l.source.tokens in
    has_text c.args.tokens.now _ (subst P c.new.ensures.begun c.new.ensures.scanned)
    (c.in_ok-tree.ensures.derives c.args.tokens.now (stands_first c.new.ensures.begun))

pub new-requires-2-clause-keeps : goal.new-requires-2-clause-keeps
new-requires-2-clause-keeps c = c.in_ok-tree.ensures.keeps c.args.tokens.now (stands_first c.new.ensures.begun)

pub returns-clause-derives : goal.returns-clause-derives
returns-clause-derives c =
    let P : ModuleTree → Type 0 = λ m. Derives (lexemes_of c.args.tokens.now) (module_of m) in
    subst P (sym c.new-2.ensures) (c.in_ok-tree.ensures.derives c.args.tokens.now (stands_first c.new.ensures.begun))

pub returns-clause-alone : goal.returns-clause-alone
returns-clause-alone c =
    let P : ModuleTree → Type 0 = λ m. (other : Module) → Derives (lexemes_of c.args.tokens.now) other → other ≡ module_of m in
    subst P (sym c.new-2.ensures) (c.in_ok-tree.ensures.alone c.args.tokens.now (stands_first c.new.ensures.begun))

pub returns-clause-keeps : goal.returns-clause-keeps
returns-clause-keeps c =
    let P : ModuleTree → Type 0 = λ m. KeepsConditions (module_of m) in
    subst P (sym c.new-2.ensures) (c.in_ok-tree.ensures.keeps c.args.tokens.now (stands_first c.new.ensures.begun))
