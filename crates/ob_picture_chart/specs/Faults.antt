-- Why there is no picture of some calls of a run in which so many begin.
use Rattle.std.specs.Prelude.{◌≡◌, ◌⊎◌, ◌<◌, ◌≤◌, ◌-◌, ℕ, Option, Some, None, min}
use Rattle.ob_picture_chart.specs.Charts.{range_of}
use Rattle.ob_picture_chart.specs.declared.charts.CallRange.{CallRange}
use Rattle.ob_picture_chart.specs.declared.fault.PictureFault.{PictureFault}
use Rattle.ob_picture_chart.specs.declared.fault.PictureFault.TheVariants as Faults

abbrev pub most_calls : ℕ
most_calls = 400

-- how many calls a range has
abbrev pub count : CallRange → ℕ
count range = range.to - (range.from - 1)

-- a range has calls that there are: its first is one of them, and its last stands there or behind
abbrev pub HasCalls : (total : ℕ) → Option CallRange → Type 0
HasCalls total None = Unit {0}
HasCalls total (Some range) = (1 ≤ range.from) × (range.from ≤ min range.to total)

abbrev pub HasNoCalls : (total : ℕ) → Option CallRange → Type 0
HasNoCalls total None = ⊥
HasNoCalls total (Some range) = (range.from ≡ 0) ⊎ (min range.to total < range.from)

-- there are calls of the range, at most 400
pub record MayBeShown (total : ℕ) (calls : Option CallRange) : Type 0 where
  pub some : HasCalls total calls
  pub few : count (range_of total calls) ≤ most_calls

-- what each fault says
abbrev pub IsRangeFault : (total : ℕ) → Option CallRange → PictureFault → Type 0
IsRangeFault total calls (Faults.NoCalls all) = (all ≡ total) × HasNoCalls total calls
IsRangeFault total calls (Faults.TooMany number) = HasCalls total calls × (number ≡ count (range_of total calls)) × (most_calls < number)
IsRangeFault total calls Faults.NoMemory = Unit {0}
