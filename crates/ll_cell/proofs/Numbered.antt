-- Root and own numbers stay 0 to n, each once.
use Rattle.std.proofs.Common.{ℕ, ◌<◌, List, length, set, get_or, arith}
use Rattle.std.specs.List.{range_with_len}
use Rattle.std.proofs.lemmas.List.FromFn.{length-range_with_len, get_or-range_with_len}
use Rattle.std.proofs.lemmas.Grind.{common_steps}
use Rattle.ll_cell.specs.Cell.{IsNumbered}

pub keeps_numbered : (root : ℕ) (own : List ℕ) (p : ℕ) → p < length own → IsNumbered root own → IsNumbered (get_or own p 0) (set own p root)
keeps_numbered root own p lt h = record {
  root_in = grind (arith, common_steps, h.own_in p lt);
  own_in = λ q w. grind (arith, common_steps, h.own_in q, h.root_in);
  root_apart = λ q w. grind (arith, common_steps, h.root_apart p lt, h.own_apart q p);
  own_apart = λ q k wq wk d. grind (arith, common_steps, h.own_apart q k, h.root_apart q, h.root_apart k);
}

pub at_first : (n : ℕ) → IsNumbered 0 (range_with_len 1 n)
at_first n = record {
  root_in = omega arith;
  own_in = λ p lt. omega (arith, lt, length-range_with_len 1 n, get_or-range_with_len 1 n p 0 (omega (arith, lt, length-range_with_len 1 n)));
  root_apart = λ p lt e. omega (arith, e, get_or-range_with_len 1 n p 0 (omega (arith, lt, length-range_with_len 1 n)));
  own_apart = λ p q lt lu d e. d (omega (arith, e, get_or-range_with_len 1 n p 0 (omega (arith, lt, length-range_with_len 1 n)), get_or-range_with_len 1 n q 0 (omega (arith, lu, length-range_with_len 1 n))));
}
