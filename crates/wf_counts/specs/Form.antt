-- How counts are kept. No public clause cites this module.
use Rattle.std.specs.Prelude.{◌≡◌, ◌<◌, ◌≤◌, ◌^◌, ◌*◌, false}
use Rattle.wf_counts.specs.Counts.{Counted}
use Rattle.wf_counts.specs.Digits.{digits, fits}
use Rattle.wf_counts.specs.declared.counts.Form.{Form}
use Rattle.wf_counts.specs.declared.counts.Form.TheVariants.{One, Each}

-- the counts that are kept so
abbrev pub counted : Form → Counted
counted (One number many) = record { items = digits many number }
counted (Each each) = record { items = each.items }

-- one number where they fit, and each by itself where they do not
abbrev pub IsKept : Form → Type 0
IsKept (One number many) = (many ≤ 8) × (number < 2 ^ (8 * many))
IsKept (Each each) = fits each.items ≡ false
