use Rattle.std.proofs.Common.{◌≡◌, ◌*◌, length, get_or, replicate, pos, false, [], ap, sym, ◌∙◌, rules}
use Rattle.std.proofs.lemmas.List.{length-replicate}
use Rattle.std.proofs.lemmas.List.FromFn.{length-range_with_len}
use Rattle.ll_cell.specs.Form.{row_words}
use Rattle.ll_cell.proofs.Numbered.{at_first}
use Rattle.ll_cell.proofs.Announced.{fresh_made}
use Rattle.ll_cell.proofs.shared.assembled.Goals as goal

pub invariant_of-result : goal.invariant_of-result
invariant_of-result c =
    let rows = c.in_ok-announcements.ensures.rows in
    record {
      numbered = rw (c.in_ok-own.ensures) (at_first c.args.n);
      one = ap length rows;
      long = ap (λ rs. length (get_or rs 0 [])) rows ∙ length-replicate (row_words c.args.announcements) (pos 0) ∙ c.requires.words
          ∙ ap (λ k. k * c.args.announce) (sym (ap length c.in_ok-own.ensures ∙ length-range_with_len 1 c.args.n));
      fits = rw (c.in_ok-own.ensures, length-range_with_len 1 c.args.n) c.requires.fits;
      flagged = rw (c.in_ok-blocks.ensures.form, c.in_ok-announcements.ensures.form) c.requires.flagged;
    }

pub returns-clause-cell : goal.returns-clause-cell
returns-clause-cell c =
    let linked : c.in_ok-linked.linked.items ≡ replicate c.args.n false = search rules in
    fresh_made c.args.n (row_words c.args.blocks) c.args.announce c.in_ok-own.own.items c.in_ok-linked.linked.items c.in_ok-blocks.blocks c.in_ok-announcements.announcements c.args.blocks
    c.in_ok-own.ensures linked c.in_ok-blocks.ensures.rows
    (ap (λ rs. get_or rs 0 []) c.in_ok-announcements.ensures.rows ∙ ap (λ k. replicate k (pos 0)) c.requires.words)
    c.in_ok-blocks.ensures.form
