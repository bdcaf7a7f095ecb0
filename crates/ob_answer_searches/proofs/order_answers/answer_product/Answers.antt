use Rattle.std.proofs.Common.{◌∙◌, ℕ, IfOk, ap, subst, sym}
use Rattle.ob_answer_files.specs.Reads.{OfWhole}
use Rattle.ob_answer_searches.specs.Orders.{IsProductAnswer}
use Rattle.ob_command.specs.declared.command.OrderProduct.{OrderProduct}
use Rattle.ob_command.specs.declared.command.OrderProduct.TheVariants as Products
use Rattle.ob_answer_searches.proofs.order_answers.answer_product.Goals as goal

pub returns-in-Line : goal.returns-in-Line
returns-in-Line c =
    let P : OrderProduct → Type 0 = λ p. IfOk c.answer_line.result (OfWhole c.args.module.now (λ whole. IsProductAnswer p whole c.args.history.now c.args.search.now.budget c.args.search.now.most)) in
    subst P (sym c.in-Line.is) c.answer_line.ensures

pub returns-in-WholeRecord : goal.returns-in-WholeRecord
returns-in-WholeRecord c =
    let P : OrderProduct → Type 0 = λ p. IfOk c.answer_record.result (OfWhole c.args.module.now (λ whole. IsProductAnswer p whole c.args.history.now c.args.search.now.budget c.args.search.now.most)) in
    subst P (sym c.in-WholeRecord.is) c.answer_record.ensures

pub returns-in-Apart : goal.returns-in-Apart
returns-in-Apart c =
    let P : OrderProduct → Type 0 = λ p. IfOk c.answer_parts.result (OfWhole c.args.module.now (λ whole. IsProductAnswer p whole c.args.history.now c.args.search.now.budget c.args.search.now.most)) in
    subst P (sym (c.in-Apart.is ∙ ap (λ (k : ℕ). Products.Apart k) (sym c.from.ensures))) c.answer_parts.ensures
