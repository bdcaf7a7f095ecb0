-- A new cell has room for the opening in the block of process 0.
use Rattle.std.proofs.Common.{◌≡◌, ℕ, ◌+◌, ◌<◌, length, replicate, [], ap, ◌∙◌, arith, pos}
use Rattle.std.proofs.lemmas.List.{get_or-replicate, length-replicate}
use Rattle.std.proofs.lemmas.List.FromFn.{get_or-range_with_len}
use Rattle.ll_cell.specs.Cell.{fresh, own_of, block_of}

module _ (n words announce : ℕ) (some : 0 < n) where
  own_first : own_of (fresh n words announce) 0 ≡ 1
  own_first = get_or-range_with_len 1 n 0 0 some

  pub own_within : own_of (fresh n words announce) 0 < length (fresh n words announce).blocks
  own_within = omega (arith, own_first, some, length-replicate (n + 1) (replicate words (pos 0)))

  pub own_long : length (block_of (fresh n words announce) (own_of (fresh n words announce) 0)) ≡ words
  own_long =
      ap length (get_or-replicate (n + 1) (own_of (fresh n words announce) 0) (replicate words (pos 0)) [] (omega (arith, own_first, some)))
      ∙ length-replicate words (pos 0)
